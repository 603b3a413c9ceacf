-- What the votes say of a boot that chose a version of the log.
use Rattle.std.proofs.Common.{◌≡◌, inl, inr, ℕ, suc, ◌<◌, ◌&&◌, true, List, [], ◌∷◌, length, refl, sym, ◌∙◌, ap, subst, not, All, Contains, Option, None, Some, arith}
use Rattle.std.proofs.lemmas.Bool.{and_from, and_parts, cases_Bool, cases_lt, cond-false, cond-true, false≢true, false_from_ne_true, ltb-true, not_from_false}
use Rattle.std.proofs.lemmas.List.Elements.{All-head, All-tail, Contains-get_or}
use Rattle.std.specs.Prelude.{max, nat_lt, slice_index_or}
use Rattle.mdv_quorum.specs.May.{is_fair, is_stale_vote, shows_none}
use Rattle.mdv_quorum.specs.Standing.{BootsAt, Standing}
use Rattle.mdv_shown.proofs.Choice.{shows_nothing}
use Rattle.mdv_shown.proofs.Slots.{never_below}
use Rattle.mdv_store_law.specs.Anew.{HasNoneAgain}
use Rattle.mdv_standing.specs.Below.{Again, Claiming, Core, HaveRead, Identity, Image, IsBelow, Log, Mark, Seen, Site, Spot, SpotLists, Table, Version, is_named, place_at, same_spot, spot_seen, spots_seen, table_at}
use Rattle.mdv_standing.specs.Matching.{HasStaleVote, Matches, Reached, floor_among, lists_of, spot_of_place, tables_of, version_at}
use Rattle.mdv_standing.specs.Worlds.{HasClaimed}
use Rattle.mdv_standing.proofs.Versions.{has_version}
use Rattle.mdv_standing.proofs.Reaching.{same_number, standing}

pub all_that : (P : Version → Type 0) (xs : List Version) → ((x : Version) → Contains xs x → P x) → All P xs
all_that P xs each k d lt = each (slice_index_or xs k d) (Contains-get_or xs k d lt)

-- what was read has no stale vote for this table, as the log knows places that were formatted again
pub is_fair_in : (Spells : List ℕ → Table → Type 0) (site : Site) (identity : Identity) (log : Log) (w : Core) (image : Image) → Matches site log w → (seen : List Seen)
    → HaveRead Spells site identity (tables_of log.family) w image seen → (i : ℕ) (mark : Mark) → i < length w.family → (table_at w.family i).mark ≡ mark → (HasStaleVote site log seen mark → ⊥)
    → is_fair w i (spots_seen seen) ≡ true
is_fair_in Spells site identity log w image m seen r i mark known marked never = all seen (λ s has. has)
  where
    is_stale : (s : Seen) → Contains seen s → is_stale_vote w i (spot_seen s) ≡ true → ⊥
    is_stale s has e =
        let q = spot_seen s in
        let none = shows_none (place_at w.places q).newest in
        let low = nat_lt i (place_at w.places q).floor in
        let one = and_parts (is_named (table_at w.family i).lists q) (none && low) e in
        let two = and_parts none low one.1 in
        let below = ltb-true i (place_at w.places q).floor two.1 in
        let floor = m.reused q in
        never (record {
          version = i;
          marked = sym (m.each i known).mark ∙ marked;
          replica = s;
          one_of = has;
          named = subst (λ (l : SpotLists). is_named l q ≡ true) (m.each i known).lists one.0;
          empty = shows_nothing Spells site identity (tables_of log.family) w image seen r s has (is_none_at (place_at w.places q).newest two.0);
          later = omega (arith, below, floor);
        })
      where
        is_none_at : (o : Option ℕ) → shows_none o ≡ true → o ≡ None
        is_none_at None shown = refl
        is_none_at (Some j) shown = absurd (false≢true shown)

    all : (some : List Seen) → ((s : Seen) → Contains some s → Contains seen s) → is_fair w i (spots_seen some) ≡ true
    all [] among = refl
    all (s ∷ some) among =
        let stale = is_stale_vote w i (spot_seen s) in
        and_from (not stale) (is_fair w i (spots_seen some)) (not_from_false stale (false_from_ne_true stale (is_stale s (among s (0, omega arith, refl)))))
        (all some (λ x has. among x (suc has.0, omega (arith, has.1), has.2)))

floor_none : (site : Site) (again : List Again) (p : Spot) → All (λ (a : Again). a.number ≡ 0) again → floor_among site again p ≡ 0
floor_none site [] p none = refl
floor_none site (a ∷ again) p none =
    let here : a.number ≡ 0 = All-head (λ (x : Again). x.number ≡ 0) a again none in
    let rest = floor_none site again p (All-tail (λ (x : Again). x.number ≡ 0) a again none) in
    let most = floor_among site again p in
    elim (cases_Bool (same_spot (spot_of_place site a.place) p)) [
      | inl is ↦ (let one = cond-true (same_spot (spot_of_place site a.place) p) (max a.number most) most is in omega (arith, one, here, rest))
      | inr isnt ↦ cond-false (same_spot (spot_of_place site a.place) p) (max a.number most) most isnt ∙ rest
    ]

-- where no place was formatted again since a version dropped it there is none
pub none_stale : (site : Site) (log : Log) (seen : List Seen) (mark : Mark) → HasNoneAgain log → HasStaleVote site log seen mark → ⊥
none_stale site log seen mark none stale =
    let floor = floor_none site log.again (spot_seen stale.replica) none in
    let later = stale.later in
    absurd (omega (arith, later, floor))

module _ (site : Site) (log : Log) (w : Core) (reached : Reached site w) (m : Matches site log w) where
  stands : Standing w
  stands = standing site w reached

  pub in_log : (i : ℕ) → i < length w.family → i < length log.family
  in_log i lt = subst (λ (n : ℕ). i < n) m.as_many lt

  -- a version of the log by its number
  pub numbered : (x : Version) → Contains log.family x → (i : ℕ) × (i < length w.family) × (version_at log.family i ≡ x) × ((table_at w.family i).mark ≡ x.mark)
  numbered x has =
      let found = has_version log.family x has in
      let known : found.0 < length w.family = subst (λ (n : ℕ). found.0 < n) (sym m.as_many) found.1 in
      (found.0, known, found.2, (m.each found.0 known).mark ∙ ap (λ (y : Version). y.mark) found.2)

  -- a table with the mark of a version is that version
  pub version_is : (i : ℕ) (v : Version) → i < length w.family → Contains log.family v → (table_at w.family i).mark ≡ v.mark → version_at log.family i ≡ v
  version_is i v known has same =
      let j = numbered v has in
      ap (version_at log.family) (same_number w stands.family i j.0 known j.1 (same ∙ sym j.3)) ∙ j.2

  -- so it has its lists
  pub lists_are : (i : ℕ) (v : Version) → i < length w.family → Contains log.family v → (table_at w.family i).mark ≡ v.mark → (table_at w.family i).lists ≡ lists_of site v
  lists_are i v known has same = (m.each i known).lists ∙ ap (lists_of site) (version_is i v known has same)

  -- The boot claimed, for this version.
  module _ (v : Version) (number : ℕ) (ok : List Spot) (h : HasClaimed v.mark number ok w) where
    pub boots : BootsAt w (Claiming h.table h.next h.claimed)
    boots = subst (BootsAt w) h.stage stands.boots

    pub below : (x : Version) → Contains log.family x → x.mark.boot < number
    below x has =
        let i = numbered x has in
        subst (λ (k : Mark). k.boot < number) i.3 (subst (λ (k : Mark). (table_at w.family i.0).mark.boot < k.boot) h.drawn (boots.0.fresh i.0 i.1))

    pub not_older : (x : Version) → Contains log.family x → x.is_written ≡ true → IsBelow v.mark x.mark → ⊥
    not_older x has written less =
        let i = numbered x has in
        let firm = m.answered i.0 i.1 (ap (λ (y : Version). y.is_written) i.2 ∙ written) in
        let over = boots.0.above firm.0 firm.1 (stands.descent.known firm.0 firm.1) in
        let marks : IsBelow (table_at w.family h.table).mark (table_at w.family i.0).mark =
        subst (λ (k : Mark). IsBelow k (table_at w.family i.0).mark) (sym h.marked) (subst (λ (k : Mark). IsBelow v.mark k) (sym i.3) less) in
        elim (cases_lt i.0 h.table) [
          | inl down ↦ never_below (table_at w.family i.0).mark (table_at w.family h.table).mark (stands.family.marks i.0 h.table down h.known) marks
          | inr up ↦
              let same : i.0 ≡ h.table = omega (arith, up, over, firm.2) in
              let itself = subst (λ (n : ℕ). IsBelow (table_at w.family h.table).mark (table_at w.family n).mark) same marks in
              never_below (table_at w.family h.table).mark (table_at w.family h.table).mark itself itself
        ]
