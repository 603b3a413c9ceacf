-- Where a dropped place lies by the table of drives: behind those places of its slice that stay, and apart from all other slices.
use Rattle.std.proofs.Common.{◌≡◌, inl, inr, ℕ, ◌+◌, ◌-◌, ◌%◌, ◌<◌, ◌≤◌, ◌&&◌, ◌==◌, Bool, true, false, List, [], ◌∷◌, Contains, Option, Some, nat_le, take, sym, ◌∙◌, ap, subst, arith}
use Rattle.std.proofs.lemmas.Bool.{and_from, and_parts, cases_lt, false_from_ne_true, false≢true, not-true, not_from_false, or_cases}
use Rattle.std.proofs.lemmas.Bool.Decides.{nat_tests}
use Rattle.std.proofs.lemmas.List.Folds.{list_any_at}
use Rattle.std.proofs.Math.Nat.{mod-eq_of_lt}
use Rattle.std.specs.List.{list_all, list_any}
use Rattle.std.specs.Prelude.{not}
use Rattle.mdv_acts.proofs.Members.{contains_first, first_or_behind}
use Rattle.mdv_acts.specs.Wipes.{AreFoundAt, AreTrying}
use Rattle.mdv_base.specs.declared.drive.SliceName.{SliceName}
use Rattle.mdv_fields.specs.Sets.{agrees, is_spaced, starts_well}
use Rattle.mdv_name.proofs.Finding.{same_slice-equal, same_slice-refl, slice_at-some}
use Rattle.mdv_name.specs.SliceIndex.{HasSlice, same_slice, slice_at}
use Rattle.mdv_name.specs.Sound.{IsSound}
use Rattle.mdv_plan.specs.Slices.{is_other_db, meets_db, overlap, overlap_at, share_a_block}
use Rattle.mdv_shelf.specs.Area.{AreApart}
use Rattle.mdv_shown.proofs.Elsewhere.{in_range}
use Rattle.mdv_shown.specs.Site.{line_area}
use Rattle.mdv_shown.specs.Sites.{is_line_of, is_reached_at, is_slice_of, takes_replicas}
use Rattle.mdv_config.proofs.Beside.{among-true}
use Rattle.mdv_config.specs.Table.{IsListsOf, IsPlaceOf}
use Rattle.mdv_places.specs.Asked.{Adds, Asks, Drops, KeepsFirst, dropped, is_on, list_after, places_asked}
use Rattle.mdv_places.specs.Below.{Geometry, Key, Place, PlaceAt, SliceAt, SliceLine, Tale, Two, site_of}
use Rattle.mdv_places.specs.Moments.{IsFront}
use Rattle.mdv_places.proofs.Coming.{keeps, passes}
use Rattle.mdv_places.proofs.Dropping.{dropped_lacks}
use Rattle.mdv_places.proofs.Spotting.{found_one}
use Rattle.std.proofs.lemmas.List.Elements.{All-contains, Contains-append_left}

-- what passes a test that all pass
pub one_of_all : {X : Type 0} (test : X → Bool) (xs : List X) → list_all test xs ≡ true → (x : X) → Contains xs x → test x ≡ true
one_of_all test [] all x has = absurd (omega (arith, has.1))
one_of_all test (y ∷ ys) all x has =
    let both = and_parts (test y) (list_all test ys) all in
    elim (first_or_behind y x ys has) [
      | inl here ↦ subst (λ z. test z ≡ true) here both.0
      | inr behind ↦ one_of_all test ys both.1 x behind
    ]

-- a number of blocks is as much as one part at least, where it is so many whole ones
whole_least : (x b : ℕ) → 0 < x → x % b ≡ 0 → b ≤ x
whole_least x b some none = elim (cases_lt x b) [
  | inl less ↦ (let same = sym (mod-eq_of_lt less) ∙ none in absurd (omega (arith, some, same)))
  | inr more ↦ more
]

-- how a place starts
starts : (p : Place) → starts_well p ≡ true → (16 ≤ p.start) × ((p.start - 16) % p.blocks ≡ 0)
starts p well =
    (let some = and_parts (not (p.blocks == 0)) (nat_le 16 p.start && ((p.start - 16) % p.blocks == 0)) well in
    let two = and_parts (nat_le 16 p.start) ((p.start - 16) % p.blocks == 0) some.1 in
    (grind (arith, nat_tests, two.0), grind (arith, nat_tests, two.1)))

agree : (p q : Place) → agrees p q ≡ true → p.slice ≡ q.slice → p.blocks ≡ q.blocks
agree p q is same = elim (or_cases (not (same_slice p.slice q.slice)) (p.blocks == q.blocks) is) [
  | inl differ ↦ absurd (false≢true (sym (not-true (same_slice p.slice q.slice) differ) ∙ (subst (λ (s : SliceName). same_slice p.slice s ≡ true) same (same_slice-refl p.slice))))
  | inr equal ↦ grind (arith, nat_tests, equal)
]

-- Two lists of one table of drives.
module _ (g : Geometry) (sound : IsSound g) (was list : List Place) (lists : IsListsOf g (Two was list)) where
  abbrev front_spaced : list_all (is_spaced was) was ≡ true
  front_spaced = (and_parts (list_all (is_spaced was) was) (list_all (is_spaced was) list && list_all (is_spaced list) list) lists.2).0

  pub starts_of : (p : Place) → Contains was p → (16 ≤ p.start) × ((p.start - 16) % p.blocks ≡ 0)
  starts_of p has = starts p (and_parts (starts_well p) (list_all (agrees p) was) (one_of_all (is_spaced was) was front_spaced p has)).0

  blocks_of : (p q : Place) → Contains was p → Contains was q → p.slice ≡ q.slice → p.blocks ≡ q.blocks
  blocks_of p q in_p in_q same = agree p q (one_of_all (agrees p) was (and_parts (starts_well p) (list_all (agrees p) was) (one_of_all (is_spaced was) was front_spaced p in_p)).1 q in_q) same

  pub placed_of : (p : Place) → Contains was p → IsPlaceOf g p
  placed_of p has = All-contains (IsPlaceOf g) was p lists.0.each has

  -- the place begins where the first replica of its slice does, or behind another that does
  behind_first : (p q : Place) → Contains was p → Contains was q → p.slice ≡ q.slice → q.start ≡ 16 → (p ≡ q → ⊥) → q.start + q.blocks ≤ p.start
  behind_first p q in_p in_q same first differ =
      let well = starts_of p in_p in
      let blocks = blocks_of p q in_p in_q same in
      elim (cases_lt 16 p.start) [
        | inl more ↦
            let some : 0 < p.start - 16 = omega (arith, more) in
            let least = whole_least (p.start - 16) p.blocks some well.1 in
            omega (arith, least, blocks, first, more)
        | inr less ↦
            let start : p.start ≡ q.start = omega (arith, less, well.0, first) in
            absurd (differ (λ i. record { slice = same i; start = start i; blocks = blocks i }))
      ]

-- A dropped place lies behind each place of its slice that stays.
module _ (g : Geometry) (sound : IsSound g) (asked : Asks) (was : List Place) (lists : IsListsOf g (Two was (list_after asked was))) (front : IsFront asked was) where
  stays_not : (m : Asks) (p : Place) → Contains (dropped m was) p → Contains (list_after m was) p → ⊥
  stays_not m p gone has = false≢true (sym (ap not ((among-true (list_after m was) p).1 has)) ∙ (dropped_lacks m was p gone).1)

  first_one : (l : List Place) (q : Place) → IsFront KeepsFirst l → Contains (take 1 l) q → Contains l q × (q.start ≡ 16)
  first_one [] q at has = absurd (omega (arith, has.1))
  first_one (x ∷ xs) q at has = elim (first_or_behind x q [] has) [
    | inl here ↦ (subst (Contains (x ∷ xs)) here (contains_first x xs), ap (λ (y : Place). y.start) (sym here) ∙ at)
    | inr none ↦ absurd (omega (arith, none.1))
  ]

  pub ends_before : (p q : Place) → Contains (dropped asked was) p → Contains (list_after asked was) q → q.slice ≡ p.slice → q.start + q.blocks ≤ p.start
  ends_before p q gone has same = by asked lists front gone has same where
    by : (m : Asks) → IsListsOf g (Two was (list_after m was)) → IsFront m was → Contains (dropped m was) p → Contains (list_after m was) q → q.slice ≡ p.slice → q.start + q.blocks ≤ p.start
    by (Adds lines count blocks) of at out in_it slice = absurd (stays_not (Adds lines count blocks) p out (Contains-append_left was (places_asked lines count blocks) p (dropped_lacks (Adds lines count blocks) was p out).0))
    by (Drops slices) of at out in_it slice =
        let test = λ (x : Place). not (is_on slices x) in
        let off : test p ≡ true = subst (λ (s : SliceName). not (list_any (same_slice s) slices) ≡ true) slice (passes test was q in_it).1 in
        absurd (stays_not (Drops slices) p out (keeps test was p (dropped_lacks (Drops slices) was p out).0 off))
    by KeepsFirst of at out in_it slice =
        let one = first_one was q at in_it in
        behind_first g sound was (take 1 was) of p q (dropped_lacks KeepsFirst was p out).0 one.0 (sym slice) one.1 (λ e. stays_not KeepsFirst p out (subst (Contains (take 1 was)) (sym e) in_it))

-- A slice of the site, and another one on which a place may lie.
module _ (g : Geometry) (sound : IsSound g) (key : Key) (line : SliceLine) (looks : Contains (site_of g key).lines line) where
  its : Contains g.slices line × (is_line_of g key line ≡ true)
  its = passes (is_line_of g key) g.slices line looks

  pub its_slice : HasSlice g.slices line.name line.at
  its_slice = its.0

  for_replicas : line.at.db ≡ true
  for_replicas =
      let takes = (and_parts (is_slice_of key line.name && is_reached_at g key line.at.drive.0) (takes_replicas g line) its.1).1 in
      (and_parts line.at.db (nat_le 32 line.at.blocks) (and_parts (line.at.db && nat_le 32 line.at.blocks) (not (meets_db g line.name)) takes).0).0

  pub others_apart : (name : SliceName) (at : SliceAt) → HasSlice g.slices name at → meets_db g name ≡ false → (line.name ≡ name → ⊥) → AreApart (line_area line) (line_area (record { name = name; at = at }))
  others_apart name at has clear differ drive block in_line in_other =
      let other : same_slice line.name name ≡ false = false_from_ne_true (same_slice line.name name) (λ is. differ (same_slice-equal line.name name is)) in
      let apart_names : overlap g line.name name ≡ false = false_from_ne_true (overlap g line.name name) (λ over.
      false≢true (sym clear ∙ list_any_at (is_other_db g name) g.slices its.0.0 line its.0.1
      (ap (is_other_db g name) its.0.2 ∙ and_from (line.at.db && not (same_slice line.name name)) (overlap g line.name name) (and_from line.at.db (not (same_slice line.name name)) for_replicas (not_from_false (same_slice line.name name) other)) over))) in
      let here : slice_at g.slices line.name ≡ Some line.at = (slice_at-some g line.name line.at sound).1 its.0 in
      let there : slice_at g.slices name ≡ Some at = (slice_at-some g name at sound).1 has in
      let none : share_a_block line.at at ≡ false = sym (ap (λ (o : Option SliceAt). overlap_at o (slice_at g.slices name)) here ∙ ap (overlap_at (Some line.at)) there) ∙ apart_names in
      let x = in_range line.at.drive.0 line.at.start line.at.blocks drive block in_line in
      let y = in_range at.drive.0 at.start at.blocks drive block in_other in
      let meet : share_a_block line.at at ≡ true = grind (arith, nat_tests, x, y) in
      false≢true (sym none ∙ meet)

-- Where places are added none is dropped.
pub adds_none : (g : Geometry) (was : List Place) (lines : List SliceLine) (count blocks : ℕ) (at : List PlaceAt) → AreFoundAt g (dropped (Adds lines count blocks) was) at → (w m : Tale) → AreTrying at w m → m ≡ w
adds_none g was lines count blocks [] found w m trying = trying
adds_none g was lines count blocks (a ∷ rest) found w m trying =
    let one = found_one g (dropped (Adds lines count blocks) was) (a ∷ rest) a found (contains_first a rest) in
    let lacks = dropped_lacks (Adds lines count blocks) was one.0 one.1 in
    absurd (false≢true (sym (ap not ((among-true (list_after (Adds lines count blocks) was) one.0).1 (Contains-append_left was (places_asked lines count blocks) one.0 lacks.0))) ∙ lacks.1))
