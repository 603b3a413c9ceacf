-- How the matching with a log stands while events happen that write no other table.
use Rattle.std.proofs.Common.{◌≡◌, ◌⊎◌, inl, inr, ℕ, ◌+◌, ◌-◌, ◌<◌, ◌≤◌, Bool, true, false, List, [], ◌∷◌, ◌++◌, length, refl, sym, ◌∙◌, ap, subst, None, Some, arith}
use Rattle.std.proofs.lemmas.Bool.{cases_Bool, cases_lt, false≢true, or_cases, or_left, or_right}
use Rattle.std.proofs.lemmas.List.Folds.{list_any-append}
use Rattle.std.proofs.lemmas.List.{get_or_append_left, get_or-append_right, length-append}
use Rattle.std.specs.Prelude.{slice_index_or}
use Rattle.mdv_votes.specs.Family.{blank_place, put_at, with_since}
use Rattle.mdv_votes.specs.declared.version.SpotState.{SpotState}
use Rattle.mdv_votes.proofs.PlacesAt.{KeepsSpot, map_at, put_cases, spot_at}
use Rattle.mdv_quorum.specs.Standing.{ArePlaced}
use Rattle.mdv_quorum.specs.World.{settled, with_table}
use Rattle.mdv_store_law.proofs.Again.{dropped_after}
use Rattle.mdv_standing.specs.Below.{Core, Dropped, FamilyTable, IsWithin, Listed, Lives, Log, Over, Since, Site, Spot, SpotLists, Version, is_in, last_list, last_number, last_table, no_table, place_at, same_spot, since_after, table_at}
use Rattle.mdv_standing.specs.Matching.{IsDroppedBy, IsNotBehind, IsSteady, IsVersionAt, Matches, lists_of, spot_floor, spot_since, version_at}
use Rattle.mdv_standing.proofs.Since.{since_listed, since_unwritten}
use Rattle.mdv_standing.proofs.Versions.{version_newest, version_older}

-- the world goes on with the same tables; the firm one isn't a smaller one
pub record Follows (site : Site) (log : Log) (w v : Core) : Type 0 where
  pub set : v.set ≡ w.set
  pub family : v.family ≡ w.family
  pub changes : v.changes ≡ w.changes
  pub floors : (p : Spot) → (place_at v.places p).floor ≤ spot_floor site log p
  pub deleted : v.deleted ≡ w.deleted
  pub firm : (f : ℕ) → w.firm ≡ Some f → (g : ℕ) × (v.firm ≡ Some g) × (f ≤ g)
  pub dropped : (p : Spot) (i : ℕ) → (place_at v.places p).since ≡ Dropped i → IsDroppedBy site log p i
  pub steady : IsSteady site log v

pub matches_follow : (site : Site) (log : Log) (w v : Core) → Follows site log w v → Matches site log w → Matches site log v
matches_follow site log w v f m = record {
  kind = f.set ∙ m.kind;
  book = m.book;
  as_many = ap length f.family ∙ m.as_many;
  each = λ i known.
      let was = m.each i (subst (λ (l : List FamilyTable). i < length l) f.family known) in
      subst (λ (n : ℕ). IsVersionAt site m.book n (table_at v.family i) (version_at log.family i)) (sym f.changes)
      (subst (λ (l : List FamilyTable). IsVersionAt site m.book w.changes (table_at l i) (version_at log.family i)) (sym f.family) was);
  answered = λ i known written.
      let was = m.answered i (subst (λ (l : List FamilyTable). i < length l) f.family known) written in
      let now = f.firm was.0 was.1 in
      (now.0, now.1, omega (arith, was.2, now.2));
  dropped = f.dropped;
  steady = f.steady;
  reused = f.floors;
  there = λ lives. f.deleted ∙ m.there lives;
  gone = λ over. (let is = m.gone over in (is.0, f.deleted ∙ is.1));
}

pub some_is : (a b : ℕ) → Some a ≡ Some b → a ≡ b
some_is a b e = cc

-- where the last table is firm
pub steady_last : (site : Site) (log : Log) (w : Core) → w.firm ≡ Some (last_number w) → IsSteady site log w
steady_last site log w last f k firm up known unwritten =
    let same : f ≡ last_number w = some_is f (last_number w) (sym firm ∙ last) in
    ap (λ (n : ℕ). last_list (lists_of site (version_at log.family n))) (omega (arith, same, up, known))

-- one place more on both sides
pub one_more : (p : Spot) (few more : List Spot) → IsWithin (is_in few) (is_in more) → IsWithin (is_in (p ∷ few)) (is_in (more ++ p ∷ []))
one_more p few more within q e = list_any-append (λ x. same_spot x q) more (p ∷ []) ∙ elim (or_cases (same_spot p q) (is_in few q) e) [
  | inl here ↦ or_right (is_in more q) (is_in (p ∷ []) q) (or_left (same_spot p q) false here)
  | inr old ↦ or_left (is_in more q) (is_in (p ∷ []) q) (within q old)
]

-- a place that is changed, but not as to when it was dropped
pub since_put : (places : List SpotState) (p q : Spot) (f : SpotState → SpotState) → KeepsSpot f → ((x : SpotState) → (f x).since ≡ x.since) → (place_at (put_at places p f) q).since ≡ (place_at places q).since
since_put places p q f keeps same =
    elim (put_cases places p q f keeps) [
      | inl here ↦ ap (λ (x : SpotState). x.since) here.1 ∙ same (place_at places q)
      | inr other ↦ ap (λ (x : SpotState). x.since) other.1
    ]

pub floor_put : (places : List SpotState) (p q : Spot) (f : SpotState → SpotState) → KeepsSpot f → ((x : SpotState) → (f x).floor ≡ x.floor) → (place_at (put_at places p f) q).floor ≡ (place_at places q).floor
floor_put places p q f keeps same =
    elim (put_cases places p q f keeps) [
      | inl here ↦ ap (λ (x : SpotState). x.floor) here.1 ∙ same (place_at places q)
      | inr other ↦ ap (λ (x : SpotState). x.floor) other.1
    ]

-- what is known of a place but since when it is listed
pub settled_place : (u : Core) (t : FamilyTable) (b : Bool) (q : Spot) → ((place_at (settled u t b).places q).holds ≡ (place_at u.places q).holds) × ((place_at (settled u t b).places q).newest ≡ (place_at u.places q).newest)
settled_place u t false q = (refl, refl)
settled_place u t true q =
    elim (map_at u.places q (with_since (length u.family - 1) (last_list t.lists)) (λ x. refl)) [
      | inl a ↦ (ap (λ (x : SpotState). x.holds) a, ap (λ (x : SpotState). x.newest) a)
      | inr b ↦ (ap (λ (x : SpotState). x.holds) (b.0 ∙ sym b.1), ap (λ (x : SpotState). x.newest) (b.0 ∙ sym b.1))
    ]

pub settled_stage : (u : Core) (t : FamilyTable) (b : Bool) → (settled u t b).stage ≡ u.stage
settled_stage u t false = refl
settled_stage u t true = refl

pub settled_family : (u : Core) (t : FamilyTable) (b : Bool) → (settled u t b).family ≡ u.family
settled_family u t false = refl
settled_family u t true = refl

-- The last table is firm, where enough places took it.
module _ (site : Site) (log : Log) (u : Core) (m : Matches site log u) (some : 0 < length u.family) (known : (f : ℕ) → u.firm ≡ Some f → f < length u.family) (placed : ArePlaced u) where
  abbrev last : List Spot
  last = last_list (last_table u).lists

  abbrev firm_last : Core
  firm_last = settled u (last_table u) true

  abbrev settles : Spot → SpotState → Type 0
  settles p x = (x ≡ with_since (last_number u) last (place_at u.places p)) ⊎ ((x ≡ blank_place p) × (place_at u.places p ≡ blank_place p))

  settled_at : (p : Spot) → settles p (place_at firm_last.places p)
  settled_at p = map_at u.places p (with_since (last_number u) last) (λ x. refl)

  last_known : last_number u < length log.family
  last_known = (let same = m.as_many in omega (arith, some, same))

  lacks : (p : Spot) → is_in last p ≡ false → is_in (last_list (lists_of site (version_at log.family (last_number u)))) p ≡ false
  lacks p none = ap (λ (l : SpotLists). is_in (last_list l) p) (sym (m.each (last_number u) (omega (arith, some))).lists) ∙ none

  -- a place that the firm table listed and the last one lacks was listed by what the log has answered
  still_listed : (p : Spot) → (place_at u.places p).since ≡ Listed → is_in last p ≡ false → spot_since site log.family p ≡ Listed
  still_listed p is none =
      let at = placed p is in
      let f = at.0 in
      let lt = known f at.1 in
      let has : is_in (last_list (lists_of site (version_at log.family f))) p ≡ true = ap (λ (l : SpotLists). is_in (last_list l) p) (sym (m.each f lt).lists) ∙ at.2 in
      let written : (version_at log.family f).is_written ≡ true = elim (cases_Bool (version_at log.family f).is_written) [
        | inl was ↦ was
        | inr wasnt ↦
            let same = m.steady f (last_number u) at.1 (omega (arith, lt)) (omega (arith, some)) wasnt in
            absurd (false≢true (sym (lacks p none) ∙ ap (λ (l : List Spot). is_in l p) same ∙ has))
      ] in
      since_listed site p log.family f (subst (λ (n : ℕ). f < n) m.as_many lt) written
      (λ i below answered.
      let firm = m.answered i (subst (λ (n : ℕ). i < n) (sym m.as_many) below) answered in
      let same : firm.0 ≡ f = some_is firm.0 f (sym firm.1 ∙ at.1) in
      omega (arith, same, firm.2)) has

  dropped_last : (p : Spot) (i : ℕ) → settles p (place_at firm_last.places p) → (place_at firm_last.places p).since ≡ Dropped i → IsDroppedBy site log p i
  dropped_last p i (inr b) e = m.dropped p i (ap (λ (x : SpotState). x.since) (b.1 ∙ sym b.0) ∙ e)
  dropped_last p i (inl a) e =
      let x = place_at u.places p in
      let s : since_after (last_number u) (is_in last x.spot) x.since ≡ Dropped i = ap (λ (y : SpotState). y.since) (sym a) ∙ e in
      elim (dropped_after (last_number u) i (is_in last x.spot) x.since s) [
        | inl old ↦ m.dropped p i old
        | inr new ↦
            let here : is_in last p ≡ false = ap (is_in last) (sym (spot_at u.places p)) ∙ new.1 in
            record {
              known = subst (λ (n : ℕ). n < length log.family) (sym new.2) last_known;
              lacks = subst (λ (n : ℕ). is_in (last_list (lists_of site (version_at log.family n))) p ≡ false) (sym new.2) (lacks p here);
              by = subst (λ (s : Since). IsNotBehind s i) (sym (still_listed p new.0 here)) tt;
            }
      ]

  floor_last : (p : Spot) → settles p (place_at firm_last.places p) → (place_at firm_last.places p).floor ≡ (place_at u.places p).floor
  floor_last p (inl a) = ap (λ (x : SpotState). x.floor) a
  floor_last p (inr b) = ap (λ (x : SpotState). x.floor) (b.0 ∙ sym b.1)

  pub settled_follows : (b : Bool) → Follows site log u (settled u (last_table u) b)
  settled_follows false = record { set = refl; family = refl; changes = refl; floors = m.reused; deleted = refl; firm = λ f e. (f, e, omega arith); dropped = m.dropped; steady = m.steady }
  settled_follows true = record {
    set = refl;
    family = refl;
    changes = refl;
    floors = λ p. subst (λ (n : ℕ). n ≤ spot_floor site log p) (sym (floor_last p (settled_at p))) (m.reused p);
    deleted = refl;
    firm = λ f e. (last_number u, refl, omega (arith, known f e, some));
    dropped = λ p i e. dropped_last p i (settled_at p) e;
    steady = steady_last site log firm_last refl;
  }

-- the version has the last list of the firm table, where that one's write wasn't answered
abbrev pub GoesOn : Site → Log → Core → Version → Type 0
GoesOn site log w v = (f : ℕ) → w.firm ≡ Some f → (version_at log.family f).is_written ≡ false → last_list (lists_of site v) ≡ last_list (lists_of site (version_at log.family f))

-- One table more, and the version of the log that it is.
module _ (site : Site) (log : Log) (w : Core) (next : FamilyTable) (v : Version) (m : Matches site log w)
    (is : IsVersionAt site m.book w.changes next v) (unanswered : v.is_written ≡ false) where
  abbrev longer : Log
  longer = record log { family = v ∷ log.family; fate = Lives }

  pub table_older : (i : ℕ) → i < length w.family → table_at (w.family ++ next ∷ []) i ≡ table_at w.family i
  table_older i lt = get_or_append_left w.family (next ∷ []) no_table i lt

  pub table_newest : (i : ℕ) → i ≡ length w.family → table_at (w.family ++ next ∷ []) i ≡ next
  table_newest i e = get_or-append_right w.family (next ∷ []) (length w.family) i no_table refl (omega (arith, e)) ∙ ap (λ (n : ℕ). slice_index_or (next ∷ []) n no_table) (none i (length w.family) e)
    where
      none : (a b : ℕ) → a ≡ b → a - b ≡ 0
      none a b same = omega (arith, same)

  pub longer_family : length (w.family ++ next ∷ []) ≡ length w.family + 1
  longer_family = length-append w.family (next ∷ [])

  older_version : (i : ℕ) → i < length w.family → version_at longer.family i ≡ version_at log.family i
  older_version i lt = version_older v log.family i (subst (λ (n : ℕ). i < n) m.as_many lt)

  newest_version : (i : ℕ) → i ≡ length w.family → version_at longer.family i ≡ v
  newest_version i e = version_newest v log.family i (e ∙ m.as_many)

  module _ (goes_on : GoesOn site log w v) (there : w.deleted ≡ None) where
    longer_steady : IsSteady site longer (with_table w next)
    longer_steady f k firm up known unwritten = elim (cases_lt f k) [
      | inr same ↦ ap (λ (n : ℕ). last_list (lists_of site (version_at longer.family n))) (omega (arith, same, up))
      | inl less ↦
          let old : f < length w.family = omega (arith, less, known, longer_family) in
          let was : (version_at log.family f).is_written ≡ false = ap (λ (x : Version). x.is_written) (sym (older_version f old)) ∙ unwritten in
          elim (cases_lt k (length w.family)) [
            | inl older ↦
                ap (λ (x : Version). last_list (lists_of site x)) (older_version k older) ∙ m.steady f k firm up older was
                ∙ ap (λ (x : Version). last_list (lists_of site x)) (sym (older_version f old))
            | inr more ↦
                ap (λ (x : Version). last_list (lists_of site x)) (newest_version k (omega (arith, more, known, longer_family))) ∙ goes_on f firm was
                ∙ ap (λ (x : Version). last_list (lists_of site x)) (sym (older_version f old))
          ]
    ]

    pub matches_longer : Matches site longer (with_table w next)
    matches_longer = record {
      kind = m.kind;
      book = m.book;
      as_many = omega (arith, longer_family, m.as_many);
      each = λ i known. elim (cases_lt i (length w.family)) [
        | inl less ↦
            subst (λ (t : FamilyTable). IsVersionAt site m.book w.changes t (version_at longer.family i)) (sym (table_older i less))
            (subst (λ (x : Version). IsVersionAt site m.book w.changes (table_at w.family i) x) (sym (older_version i less)) (m.each i less))
        | inr more ↦
            let e : i ≡ length w.family = omega (arith, more, known, longer_family) in
            subst (λ (t : FamilyTable). IsVersionAt site m.book w.changes t (version_at longer.family i)) (sym (table_newest i e))
            (subst (λ (x : Version). IsVersionAt site m.book w.changes next x) (sym (newest_version i e)) is)
      ];
      answered = λ i known written. elim (cases_lt i (length w.family)) [
        | inl less ↦ m.answered i less (ap (λ (x : Version). x.is_written) (sym (older_version i less)) ∙ written)
        | inr more ↦
            let e : i ≡ length w.family = omega (arith, more, known, longer_family) in
            absurd (false≢true (sym unanswered ∙ ap (λ (x : Version). x.is_written) (sym (newest_version i e)) ∙ written))
      ];
      dropped = λ p i e. (let was = m.dropped p i e in record {
        known = omega (arith, was.known);
        lacks = subst (λ (x : Version). is_in (last_list (lists_of site x)) p ≡ false) (sym (version_older v log.family i was.known)) was.lacks;
        by = subst (λ (s : Since). IsNotBehind s i) (sym (since_unwritten site p v log.family unanswered)) was.by;
      });
      steady = longer_steady;
      reused = m.reused;
      there = λ lives. there;
      gone = λ over. absurd (lives_on over);
    }
      where
        lives_on : Lives ≡ Over → ⊥
        lives_on e = cc
