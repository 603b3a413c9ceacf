-- The greatest mark that was read is that of the table that is voted.
use Rattle.std.proofs.Common.{◌≡◌, inl, inr, ◌↔◌, ℕ, zero, suc, ◌+◌, ◌<◌, ◌≤◌, ◌^◌, ◌&&◌, Bool, true, false, refl, sym, ◌∙◌, ap, subst, List, [], ◌∷◌, length, Contains, Option, None, Some, arith}
use Rattle.std.proofs.lemmas.Bool.{or_cases, or_left, or_right, or_from, and_parts, and_from, cases_lt, cond-false, false≢true, false_from_ne_true, lt-ltb, ltb-true, eqb-true, eq-eqb}
use Rattle.std.specs.Prelude.{max, nat_lt, slice_index_or, ◌==◌}
use Rattle.mdv_shown.specs.Below.{IsBelow, Identity, Mark, Head, PlaceAt, Slot, First, Second, Gate, Closed, Open, gate_of, greatest, shows, Image, Core, Stage, covers, covers_second, greatest_of, is_in, is_majority, is_named, newest_of, place_at, table_at, Spot, SpotState, Version}
use Rattle.mdv_replica.specs.Form.{boot_of as boot_of_gate, is_open}
use Rattle.mdv_votes.specs.Family.{boot_of, knows_above, mark_below, shown}
use Rattle.mdv_votes.specs.Laws.{IsMarkedAlone, IsNewestOf as IsVotedNewest, mark_of}
use Rattle.mdv_votes.specs.Quorum.{is_read, is_read_list}
use Rattle.mdv_votes.specs.Spots.{same_spot}
use Rattle.mdv_votes.proofs.Meeting.{same_is, same_self}
use Rattle.mdv_votes.proofs.Newest.{greatest_is_newest, newest_is_greatest, none_is_shown}
use Rattle.mdv_votes.proofs.PlacesAt.{spot_at}
use Rattle.mdv_quorum.specs.May.{is_fair, is_target, may_choose, may_claim}
use Rattle.mdv_quorum.specs.World.{rewritten}
use Rattle.mdv_shown.specs.Site.{Site, place_on, size_on}
use Rattle.mdv_shown.specs.Shown.{SlotShows, ShowsNone, HasNumber, NewestIs, IsPlaceWith}
use Rattle.mdv_shown.specs.Steps.{claim_at}
use Rattle.mdv_shown.specs.Laws.{Reads}
use Rattle.mdv_shown.specs.Worlds.{IsClaimable}
use Rattle.mdv_shown.specs.Choice.{Seen, spot_seen, spots_seen, HaveRead, IsChosen, ShowNone, greatest_seen, IsVoted, HasChosen, MayAdopt, BootsChoose}
use Rattle.mdv_replica.proofs.Showing.{own_place}
use Rattle.mdv_shown.proofs.Slots.{slot_cases, shows_some, never_below, open_same}

some_same : {A : Type 0} (a b : A) → Some a ≡ Some b → a ≡ b
some_same a b e = cc

none_never : {A : Type 0} (a : A) → None ≡ Some a → ⊥
none_never a e = cc

shut_never : (mark : Mark) (bytes : ℕ) → Closed ≡ Open mark bytes → ⊥
shut_never mark bytes e = cc

below_is : (a b : Mark) → mark_below a b ≡ true → IsBelow a b
below_is a b h = elim (or_cases (nat_lt a.boot b.boot) ((a.boot == b.boot) && nat_lt a.count b.count) h) [
  | inl less ↦ inl (ltb-true a.boot b.boot less)
  | inr rest ↦
      let p = and_parts (a.boot == b.boot) (nat_lt a.count b.count) rest in
      inr (eqb-true a.boot b.boot p.0, ltb-true a.count b.count p.1)
]

-- two marks of which neither is below the other are one
neither_below : (a b : Mark) → (IsBelow a b → ⊥) → (IsBelow b a → ⊥) → a ≡ b
neither_below a b h k =
    let boots : a.boot ≡ b.boot = elim (cases_lt a.boot b.boot) [
      | inl less ↦ absurd (h (inl less))
      | inr more ↦ elim (cases_lt b.boot a.boot) [ inl less ↦ absurd (k (inl less)) | inr also ↦ omega (arith, more, also) ]
    ] in
    let counts : a.count ≡ b.count = elim (cases_lt a.count b.count) [
      | inl less ↦ absurd (h (inr (boots, less)))
      | inr more ↦ elim (cases_lt b.count a.count) [ inl less ↦ absurd (k (inr (sym boots, less))) | inr also ↦ omega (arith, more, also) ]
    ] in
    λ i. record { boot = boots i; count = counts i }

-- the spot of a replica that was read is among those that were
in_at : (seen : List Seen) (s : Seen) (k : ℕ) → k < length seen → slice_index_or seen k s ≡ s → is_in (spots_seen seen) (spot_seen s) ≡ true
in_at [] s k lt e = absurd (omega (arith, lt))
in_at (x ∷ seen) s zero lt e =
    or_left (same_spot (spot_seen x) (spot_seen s)) (is_in (spots_seen seen) (spot_seen s)) (subst (λ (y : Seen). same_spot (spot_seen x) (spot_seen y) ≡ true) e (same_self (spot_seen x)))
in_at (x ∷ seen) s (suc k) lt e =
    or_right (same_spot (spot_seen x) (spot_seen s)) (is_in (spots_seen seen) (spot_seen s)) (in_at seen s k (omega (arith, lt)) e)

in_spots : (seen : List Seen) (s : Seen) → Contains seen s → is_in (spots_seen seen) (spot_seen s) ≡ true
in_spots seen s has = in_at seen s has.0 has.1 has.2

-- and each of those is the spot of one
pub spot_of : (seen : List Seen) (q : Spot) → is_in (spots_seen seen) q ≡ true → (s : Seen) × Contains seen s × (spot_seen s ≡ q)
spot_of [] q is = absurd (false≢true is)
spot_of (x ∷ seen) q is =
    elim (or_cases (same_spot (spot_seen x) q) (is_in (spots_seen seen) q) is) [
      | inl here ↦ (x, (0, omega arith, refl), same_is (spot_seen x) q here)
      | inr behind ↦ (let more = spot_of seen q behind in (more.0, (suc more.1.0, omega (arith, more.1.1), more.1.2), more.2))
    ]

-- a replica's place is no seat, so it shows its newest table
shown_is : (places : List SpotState) (s : Seen) → shown (place_at places (spot_seen s)) ≡ (place_at places (spot_seen s)).newest
shown_is places s =
    cond-false (place_at places (spot_seen s)).spot.mediator None (place_at places (spot_seen s)).newest (ap (λ (p : Spot). p.mediator) (spot_at places (spot_seen s)))

shut_both : (head : Head) → ((slot : Slot) (mark : Mark) (bytes : ℕ) → gate_of head slot ≡ Open mark bytes → ⊥) → (head.first ≡ Closed) × (head.second ≡ Closed)
shut_both head never = (shut head.first head.first refl (never First), shut head.second head.second refl (never Second))
  where
    shut : (gate own : Gate) → own ≡ gate → ((mark : Mark) (bytes : ℕ) → own ≡ Open mark bytes → ⊥) → own ≡ Closed
    shut Closed own e never = e
    shut (Open mark bytes) own e never = absurd (never mark bytes e)

-- a boot number of a gate is no greater than this one
at_most_boot : (gate own : Gate) (most : Mark) → own ≡ gate → ((mark : Mark) (bytes : ℕ) → own ≡ Open mark bytes → IsBelow most mark → ⊥) → boot_of_gate own ≤ most.boot
at_most_boot Closed own most e never = subst (λ (g : Gate). boot_of_gate g ≤ most.boot) (sym e) (omega arith)
at_most_boot (Open mark bytes) own most e never =
    let least : mark.boot ≤ most.boot = elim (cases_lt most.boot mark.boot) [ inl less ↦ absurd (never mark bytes e (inl less)) | inr more ↦ more ] in
    subst (λ (g : Gate). boot_of_gate g ≤ most.boot) (sym e) least

-- one of two slots has this gate, and neither has a greater number
both_boots : (head : Head) (slot : Slot) (mark : Mark) (bytes : ℕ) → gate_of head slot ≡ Open mark bytes → boot_of_gate head.first ≤ mark.boot → boot_of_gate head.second ≤ mark.boot
    → mark.boot ≡ max (boot_of_gate head.first) (boot_of_gate head.second)
both_boots head First mark bytes e a b = (let here : boot_of_gate head.first ≡ mark.boot = ap boot_of_gate e in omega (arith, here, b))
both_boots head Second mark bytes e a b = (let here : boot_of_gate head.second ≡ mark.boot = ap boot_of_gate e in omega (arith, here, a))

-- more than half of each list was read, whatever mediators know
pub enough : (read : Spot → Bool) (t : Version) (knows : Spot → Bool) → covers (is_majority read) t.lists ≡ true → is_read t read knows ≡ true
enough read t knows most =
    let parts = and_parts (is_majority read t.lists.first) (covers_second (is_majority read) t.lists.second) most in
    and_from (is_read_list t.lists.mediators read knows t.lists.first) (covers_second (is_read_list t.lists.mediators read knows) t.lists.second)
    (or_left (is_majority read t.lists.first) _ parts.0) (second t.lists.second parts.1)
  where
    second : (o : Option (List Spot)) → covers_second (is_majority read) o ≡ true → covers_second (is_read_list t.lists.mediators read knows) o ≡ true
    second None e = refl
    second (Some list) e = or_left (is_majority read list) _ e

module _ {Table : Type 0} (Spells : List ℕ → Table → Type 0) (site : Site) (identity : Identity) (tables : ℕ → Table) (w : Core) (image : Image) (seen : List Seen)
    (r : HaveRead Spells site identity tables w image seen) where
  module _ (s : Seen) (has : Contains seen s) where
    abbrev at : PlaceAt
    at = place_on s.line s.first.blocks s.first.count s.number

    abbrev content : ℕ → List ℕ
    content = image s.line.at.drive.0

    abbrev newest : Option ℕ
    newest = (place_at w.places (spot_seen s)).newest

    held : IsPlaceWith Spells tables w.family at content s.head (place_at w.places (spot_seen s))
    held = r.shows.each s.line s.number s.first s.head (r.own s has)

    open_shows : (slot : Slot) (mark : Mark) (bytes : ℕ) → gate_of s.head slot ≡ Open mark bytes → (t : Table) × SlotShows Spells at content s.head slot mark t
    open_shows slot mark bytes gate =
        let here = (r.own s has).found.here in
        let some = shows_some Spells at (size_on site s.line) content s.head slot mark bytes here.readable gate in
        (some.0, subst (λ (p : PlaceAt). SlotShows Spells p content s.head slot mark some.0) (sym (own_place at s.head.master.blocks here.length)) some.1)

    has_number : (i : ℕ) → newest ≡ Some i → HasNumber Spells tables w.family at content s.head i
    has_number i e = subst (λ (o : Option ℕ). NewestIs Spells tables w.family at content s.head o) e held.newest

    shows_none : newest ≡ None → ShowsNone Spells at content s.head
    shows_none e = subst (λ (o : Option ℕ). NewestIs Spells tables w.family at content s.head o) e held.newest

    -- no mark that it has is above that of its newest table
    at_most : (i : ℕ) → newest ≡ Some i → (slot : Slot) (mark : Mark) (bytes : ℕ) → gate_of s.head slot ≡ Open mark bytes → IsBelow (mark_of w.family i) mark → ⊥
    at_most i e slot mark bytes gate below =
        let n = has_number i e in
        elim (slot_cases n.slot slot) [
          | inl same ↦
              let m : mark_of w.family i ≡ mark = (open_same (mark_of w.family i) mark n.is.shows.bytes bytes (sym n.is.shows.gate ∙ ap (gate_of s.head) same ∙ gate)).0 in
              never_below mark mark (subst (λ (k : Mark). IsBelow k mark) m below) (subst (λ (k : Mark). IsBelow k mark) m below)
          | inr other ↦
              let t = open_shows slot mark bytes gate in
              never_below mark (mark_of w.family i) (n.is.last mark t.0 (subst (λ (k : Slot). SlotShows Spells at content s.head k mark t.0) other t.1)) below
        ]

    some_number : (slot : Slot) (mark : Mark) (bytes : ℕ) → gate_of s.head slot ≡ Open mark bytes → (i : ℕ) × (newest ≡ Some i)
    some_number slot mark bytes gate = by newest refl
      where
        by : (o : Option ℕ) → newest ≡ o → (i : ℕ) × (newest ≡ Some i)
        by None e = (let t = open_shows slot mark bytes gate in absurd (shows_none e slot mark t.0 t.1))
        by (Some i) e = (i, e)

    none_open : newest ≡ None → (slot : Slot) (mark : Mark) (bytes : ℕ) → gate_of s.head slot ≡ Open mark bytes → ⊥
    none_open e slot mark bytes gate = (let t = open_shows slot mark bytes gate in shows_none e slot mark t.0 t.1)

    pub shows_nothing : newest ≡ None → shows s.head ≡ false
    shows_nothing e = (let shut = shut_both s.head (none_open e) in or_from (is_open s.head.first) (is_open s.head.second) (ap is_open shut.0) (ap is_open shut.1))

    -- the number of its newest table is the greatest that its gates have
    boots_same : boot_of w.family newest ≡ max (boot_of_gate s.head.first) (boot_of_gate s.head.second)
    boots_same = by newest refl
      where
        by : (o : Option ℕ) → newest ≡ o → boot_of w.family o ≡ max (boot_of_gate s.head.first) (boot_of_gate s.head.second)
        by None e =
            let shut = shut_both s.head (none_open e) in
            let a : boot_of_gate s.head.first ≡ 0 = ap boot_of_gate shut.0 in
            let b : boot_of_gate s.head.second ≡ 0 = ap boot_of_gate shut.1 in
            omega (arith, a, b)
        by (Some i) e =
            let n = has_number i e in
            both_boots s.head n.slot (mark_of w.family i) n.is.shows.bytes n.is.shows.gate
            (at_most_boot s.head.first s.head.first (mark_of w.family i) refl (λ mark bytes gate. at_most i e First mark bytes gate))
            (at_most_boot s.head.second s.head.second (mark_of w.family i) refl (λ mark bytes gate. at_most i e Second mark bytes gate))

    greatest_same : max (place_at w.places (spot_seen s)).claim (boot_of w.family newest) ≡ greatest s.head
    greatest_same = ap (λ (n : ℕ). max n (boot_of w.family newest)) held.claim ∙ ap (max s.head.claim) boots_same

  -- a place that was read, by the replica there
  at_spot : (q : Spot) (j : ℕ) → is_in (spots_seen seen) q ≡ true → shown (place_at w.places q) ≡ Some j → (s : Seen) × Contains seen s × ((place_at w.places (spot_seen s)).newest ≡ Some j)
  at_spot q j was is =
      let o = spot_of seen q was in
      (o.0, o.1, sym (shown_is w.places o.0) ∙ ap (λ (p : Spot). shown (place_at w.places p)) o.2 ∙ is)

  -- a table that a place shows has a mark of its own
  alone : (i : ℕ) → i < length w.family → IsMarkedAlone w.family w.places (spots_seen seen) i
  alone i known q j was is same =
      let o = at_spot q j was is in
      let more = r.family.shown (spot_seen o.0) j o.2 in
      elim (cases_lt j i) [
        | inl less ↦ absurd (itself (mark_of w.family i) (subst (λ (m : Mark). IsBelow m (mark_of w.family i)) same (r.family.marks j i less known)))
        | inr up ↦ elim (cases_lt i j) [
          | inl less ↦ absurd (itself (mark_of w.family i) (subst (λ (m : Mark). IsBelow (mark_of w.family i) m) same (r.family.marks i j less more)))
          | inr down ↦ omega (arith, up, down)
        ]
      ]
    where
      itself : (m : Mark) → IsBelow m m → ⊥
      itself m h = never_below m m h h

  pub chosen_voted : (s : Seen) (slot : Slot) (mark : Mark) → IsChosen seen s slot mark → IsVoted Spells tables w image seen s slot mark
  chosen_voted s slot mark c =
      let found = some_number s c.one_of slot mark c.bytes c.gate in
      let i = found.0 in
      let n = has_number s c.one_of i found.1 in
      let marked : mark_of w.family i ≡ mark =
      neither_below (mark_of w.family i) mark (at_most s c.one_of i found.1 slot mark c.bytes c.gate)
      (c.greatest s n.slot (mark_of w.family i) n.is.shows.bytes c.one_of n.is.shows.gate) in
      let voted : IsVotedNewest w.family w.places (spots_seen seen) i = record {
        place = spot_seen s;
        was_read = in_spots seen s c.one_of;
        shows = shown_is w.places s ∙ found.1;
        greatest = λ q j was is.
            let o = at_spot q j was is in
            let m = has_number o.0 o.1 j o.2 in
            false_from_ne_true (mark_below (mark_of w.family i) (mark_of w.family j))
            (λ below. c.greatest o.0 m.slot (mark_of w.family j) m.is.shows.bytes o.1 m.is.shows.gate
            (subst (λ (k : Mark). IsBelow k (mark_of w.family j)) marked (below_is (mark_of w.family i) (mark_of w.family j) below)));
      } in
      record {
        number = i;
        newest = found.1;
        voted = greatest_is_newest w.family w.places (spots_seen seen) i (alone i (r.family.shown (spot_seen s) i found.1)) voted;
        marked = marked;
        shows = elim (slot_cases n.slot slot) [
          | inl same ↦
              subst (λ (m : Mark). SlotShows Spells (at s c.one_of) (content s c.one_of) s.head slot m (tables i)) marked
              (subst (λ (k : Slot). SlotShows Spells (at s c.one_of) (content s c.one_of) s.head k (mark_of w.family i) (tables i)) same n.is.shows)
          | inr other ↦
              let t = open_shows s c.one_of slot mark c.bytes c.gate in
              let less = n.is.last mark t.0 (subst (λ (k : Slot). SlotShows Spells (at s c.one_of) (content s c.one_of) s.head k mark t.0) other t.1) in
              let also = subst (λ (m : Mark). IsBelow mark m) marked less in
              absurd (never_below mark mark also also)
        ];
      }

  pub voted_chosen : (i : ℕ) → newest_of w.family w.places None (spots_seen seen) ≡ Some i → HasChosen w seen i
  voted_chosen i e =
      let v = newest_is_greatest w.family w.places (spots_seen seen) i e in
      let o = at_spot v.place i v.was_read v.shows in
      let n = has_number o.0 o.1 i o.2 in
      record {
        replica = o.0;
        slot = n.slot;
        mark = mark_of w.family i;
        chosen = record {
          one_of = o.1;
          bytes = n.is.shows.bytes;
          gate = n.is.shows.gate;
          greatest = λ p other m bytes has gate below.
              let found = some_number p has other m bytes gate in
              let least = v.greatest (spot_seen p) found.0 (in_spots seen p has) (shown_is w.places p ∙ found.1) in
              at_most p has found.0 found.1 other m bytes gate (above (mark_of w.family i) (mark_of w.family found.0) m least below);
        };
        newest = o.2;
      }
    where
      -- what is above a mark that isn't below is above both
      above : (a b m : Mark) → mark_below a b ≡ false → IsBelow a m → IsBelow b m
      above a b m never below = elim (cases_lt b.boot m.boot) [
        | inl less ↦ inl less
        | inr more ↦ elim below [
          | inl less ↦ absurd (false≢true (sym never ∙ or_left (nat_lt a.boot b.boot) ((a.boot == b.boot) && nat_lt a.count b.count) (lt-ltb a.boot b.boot (omega (arith, less, more)))))
          | inr rest ↦ elim (cases_lt b.count m.count) [
            | inl fewer ↦ elim (cases_lt m.boot b.boot) [
              | inl rise ↦ absurd (false≢true (sym never ∙ or_left (nat_lt a.boot b.boot) ((a.boot == b.boot) && nat_lt a.count b.count) (lt-ltb a.boot b.boot (omega (arith, rest.0, rise)))))
              | inr fall ↦ inr (omega (arith, more, fall), fewer)
            ]
            | inr also ↦ elim (cases_lt a.boot b.boot) [
              | inl rise ↦ absurd (false≢true (sym never ∙ or_left (nat_lt a.boot b.boot) ((a.boot == b.boot) && nat_lt a.count b.count) (lt-ltb a.boot b.boot rise)))
              | inr fall ↦ absurd (false≢true (sym never ∙ or_right (nat_lt a.boot b.boot) ((a.boot == b.boot) && nat_lt a.count b.count)
                  (and_from (a.boot == b.boot) (nat_lt a.count b.count) (eq-eqb a.boot b.boot (omega (arith, rest.0, more, fall))) (lt-ltb a.count b.count (omega (arith, rest.1, also))))))
            ]
          ]
        ]
      ]

  pub none_shown : newest_of w.family w.places None (spots_seen seen) ≡ None ↔ ShowNone seen
  none_shown = (
    λ e s has. shows_nothing s has (sym (shown_is w.places s) ∙ none_is_shown w.family w.places (spots_seen seen) (spot_seen s) e (in_spots seen s has)),
    λ none. by none (newest_of w.family w.places None (spots_seen seen)) refl,
  )
    where
      opens : (head : Head) (slot : Slot) (mark : Mark) (bytes : ℕ) → gate_of head slot ≡ Open mark bytes → shows head ≡ true
      opens head First mark bytes e = or_left (is_open head.first) (is_open head.second) (ap is_open e)
      opens head Second mark bytes e = or_right (is_open head.first) (is_open head.second) (ap is_open e)

      by : ShowNone seen → (o : Option ℕ) → newest_of w.family w.places None (spots_seen seen) ≡ o → newest_of w.family w.places None (spots_seen seen) ≡ None
      by none None e = e
      by none (Some i) e =
          let h = voted_chosen i e in
          absurd (false≢true (sym (none h.replica h.chosen.one_of) ∙ opens h.replica.head h.slot h.mark h.chosen.bytes h.chosen.gate))

  greatest_from : (some : List Seen) → ((s : Seen) → Contains some s → Contains seen s) → (best : ℕ) → greatest_of w.family w.places best (spots_seen some) ≡ max best (greatest_seen some)
  greatest_from [] all best = omega arith
  greatest_from (s ∷ some) all best =
      let here = greatest_same s (all s (0, omega arith, refl)) in
      let next = max (place_at w.places (spot_seen s)).claim (boot_of w.family (place_at w.places (spot_seen s)).newest) in
      greatest_from some (λ x has. all x (suc has.0, omega (arith, has.1), has.2)) (max best next)
      ∙ ap (λ (n : ℕ). max (max best n) (greatest_seen some)) here
      ∙ max_behind best (greatest s.head) (greatest_seen some)
    where
      max_behind : (a b c : ℕ) → max (max a b) c ≡ max a (max b c)
      max_behind a b c = omega arith

  pub greatest_is : greatest_of w.family w.places 0 (spots_seen seen) ≡ greatest_seen seen
  greatest_is = (let least : max 0 (greatest_seen seen) ≡ greatest_seen seen = omega arith in greatest_from seen (λ s has. has) 0 ∙ least)

  pub may_adopt : (i : ℕ) (s : Seen) → newest_of w.family w.places None (spots_seen seen) ≡ Some i → MayAdopt w seen i s → IsClaimable w (spot_seen s) (greatest_seen seen + 1)
  may_adopt i s voted m =
      let t = table_at w.family i in
      let held_is = (held s m.one_of).holds in
      let target : is_target w t.lists (spot_seen s) ≡ true = and_from (place_at w.places (spot_seen s)).holds (is_named t.lists (spot_seen s)) held_is m.named in
      let below : nat_lt (rewritten w (spots_seen seen) i).mark.boot (2 ^ 63) ≡ true =
      lt-ltb (rewritten w (spots_seen seen) i).mark.boot (2 ^ 63) (subst (λ (n : ℕ). n + 1 < 2 ^ 63) (sym greatest_is) m.small) in
      let fits : may_choose w (spot_seen s) (spots_seen seen) (Some i) ≡ true =
      let reads = is_read t (is_in (spots_seen seen)) (knows_above w.family w.places t) in
      let adopts = is_target w t.lists (spot_seen s) && nat_lt (rewritten w (spots_seen seen) i).mark.boot (2 ^ 63) in
      and_from (reads && adopts) (is_fair w i (spots_seen seen))
      (and_from reads adopts (enough (is_in (spots_seen seen)) t (knows_above w.family w.places t) m.read)
      (and_from (is_target w t.lists (spot_seen s)) (nat_lt (rewritten w (spots_seen seen) i).mark.boot (2 ^ 63)) target below)) m.fair in
      record {
        fits = subst (λ (g : Stage). may_claim w (spot_seen s) g ≡ true) (sym r.stage)
            (subst (λ (o : Option ℕ). may_choose w (spot_seen s) (spots_seen seen) o ≡ true) (sym voted) fits);
        number_is = subst (λ (g : Stage). claim_at w g ≡ Some (greatest_seen seen + 1)) (sym r.stage) (ap (λ (n : ℕ). Some (n + 1)) greatest_is);
        small = m.small;
      }

-- for texts that a function reads
pub law_choice : (T : Type 0) → BootsChoose T
law_choice T = record {
  chosen = λ read site identity tables w image seen s slot mark r. chosen_voted (Reads read) site identity tables w image seen r s slot mark;
  voted = λ read site identity tables w image seen number r. voted_chosen (Reads read) site identity tables w image seen r number;
  none = λ read site identity tables w image seen r. none_shown (Reads read) site identity tables w image seen r;
  greatest = λ read site identity tables w image seen r. greatest_is (Reads read) site identity tables w image seen r;
  claims = λ read site identity tables w image seen number s r. may_adopt (Reads read) site identity tables w image seen r number s;
}
