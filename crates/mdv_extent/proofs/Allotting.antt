-- Extents that are given lie in the free runs.
use Rattle.std.proofs.Common.{◌≡◌, ◌≤◌, ◌<◌, ◌+◌, ◌-◌, inl, inr, ℕ, Bool, true, false, cond, min, List, [], ◌∷◌, ◌++◌, length, map, refl, sym, subst, ◌∙◌, ap, arith, All, sum_by, Option, Some, None, Ok, Err}
use Rattle.std.specs.Prelude.{nat_lt}
use Rattle.std.specs.List.{find}
use Rattle.std.proofs.lemmas.List.Sums.{sum_by-cons}
use Rattle.std.proofs.lemmas.List.Elements.{All-cons, All-nil}
use Rattle.std.proofs.lemmas.Bool.{cases_lt, or_cases, or_left, or_right, ltb-false, false≢true}
use Rattle.std.proofs.lemmas.Bool.Decides.{nat_tests}
use Rattle.mdv_extent.specs.declared.run.Run.{Run}
use Rattle.mdv_extent.specs.declared.share.SpaceFault.{SpaceFault}
use Rattle.mdv_extent.specs.declared.share.SpaceFault.TheVariants.{NoSpace, TooMany}
use Rattle.mdv_extent.specs.Runs.{end_of, has, covers, takes, with_header, IsInOrder}
use Rattle.mdv_extent.specs.Share.{room, room_in, extent_in, given, shared, gathered, allotted}
use Rattle.mdv_extent.specs.Extents.{IsAllotment}
use Rattle.mdv_extent.proofs.Spreading.{has_between, has_parts}
use Rattle.mdv_extent.proofs.Sharing.{allotted_one, allotted_several}

given-some : (r : Run) (need : ℕ) → 0 < min (room r) need → given r need ≡ extent_in r (min (room r) need) ∷ []
given-some r need lt = grind (arith, nat_tests)

given-none : (r : Run) (need : ℕ) → min (room r) need ≤ 0 → given r need ≡ []
given-none r need le = grind (arith, nat_tests)

shared-some : (r : Run) (free : List Run) (need : ℕ) → 0 < min (room r) need → shared (r ∷ free) need ≡ extent_in r (min (room r) need) ∷ shared free (need - room r)
shared-some r free need lt = ap (λ (l : List Run). l ++ shared free (need - room r)) (given-some r need lt)

shared-none : (r : Run) (free : List Run) (need : ℕ) → min (room r) need ≤ 0 → shared (r ∷ free) need ≡ shared free (need - room r)
shared-none r free need le = ap (λ (l : List Run). l ++ shared free (need - room r)) (given-none r need le)

abbrev pub blocks_of : Run → ℕ
blocks_of r = r.blocks

shared-sum : (free : List Run) (need : ℕ) → sum_by blocks_of (shared free need) ≡ min (room_in free) need
shared-sum [] need = omega arith
shared-sum (r ∷ free) need =
    let all : room_in (r ∷ free) ≡ room r + room_in free = sum_by-cons room r free in
    let rest : sum_by blocks_of (shared free (need - room r)) ≡ min (room_in free) (need - room r) = shared-sum free (need - room r) in
    elim (cases_lt 0 (min (room r) need)) [
      | inl lt ↦
          let first : sum_by blocks_of (shared (r ∷ free) need) ≡ min (room r) need + sum_by blocks_of (shared free (need - room r)) =
          ap (λ (l : List Run). sum_by blocks_of l) (shared-some r free need lt) ∙ sum_by-cons blocks_of (extent_in r (min (room r) need)) (shared free (need - room r)) in
          omega (arith, all, rest, first)
      | inr le ↦
          let first : sum_by blocks_of (shared (r ∷ free) need) ≡ sum_by blocks_of (shared free (need - room r)) = ap (λ (l : List Run). sum_by blocks_of l) (shared-none r free need le) in
          omega (arith, all, rest, first)
    ]

abbrev pub IsWhole : Run → Type 0
IsWhole r = (1 ≤ r.at) × (1 ≤ r.blocks)

shared_whole : (free : List Run) (need : ℕ) → All IsWhole (shared free need)
shared_whole [] need = All-nil IsWhole
shared_whole (r ∷ free) need = elim (cases_lt 0 (min (room r) need)) [
  | inl lt ↦ subst (All IsWhole) (sym (shared-some r free need lt)) (All-cons IsWhole (extent_in r (min (room r) need)) (shared free (need - room r)) (omega arith, omega arith) (shared_whole free (need - room r)))
  | inr le ↦ subst (All IsWhole) (sym (shared-none r free need le)) (shared_whole free (need - room r))
]

pub order_wider : (low from high : ℕ) (runs : List Run) → low ≤ from → IsInOrder from high runs → IsInOrder low high runs
order_wider low from high [] le order = omega (arith, order)
order_wider low from high (r ∷ runs) le order = (omega (arith, order.0), order.1)

shared_in_order : (low high : ℕ) (free : List Run) (need : ℕ) → IsInOrder low high free → IsInOrder low high (map with_header (shared free need))
shared_in_order low high [] need order = order
shared_in_order low high (r ∷ free) need order =
    let rest : IsInOrder (end_of r) high (map with_header (shared free (need - room r))) = shared_in_order (end_of r) high free (need - room r) order.1 in
    elim (cases_lt 0 (min (room r) need)) [
      | inl lt ↦ subst (λ (l : List Run). IsInOrder low high (map with_header l)) (sym (shared-some r free need lt))
          (omega (arith, order.0), order_wider (end_of (with_header (extent_in r (min (room r) need)))) (end_of r) high (map with_header (shared free (need - room r))) (omega arith) rest)
      | inr le ↦ subst (λ (l : List Run). IsInOrder low high (map with_header l)) (sym (shared-none r free need le))
          (order_wider low (end_of r) high (map with_header (shared free (need - room r))) (omega (arith, order.0)) rest)
    ]

-- an extent that a run gives lies in it with its header
in_its_run : (r : Run) (n k : ℕ) → n < r.blocks → has (with_header (extent_in r n)) k ≡ true → has r k ≡ true
in_its_run r n k lt is =
    let parts = has_parts (with_header (extent_in r n)) k is in
    has_between r k (omega (arith, parts.0)) (omega (arith, parts.1))

shared_lie_free : (free : List Run) (need k : ℕ) → takes (shared free need) k ≡ true → covers free k ≡ true
shared_lie_free [] need k is = is
shared_lie_free (r ∷ free) need k is = elim (cases_lt 0 (min (room r) need)) [
  | inl lt ↦ elim (or_cases (has (with_header (extent_in r (min (room r) need))) k) (takes (shared free (need - room r)) k) (sym (ap (λ (l : List Run). takes l k) (shared-some r free need lt)) ∙ is)) [
    | inl here ↦ or_left (has r k) (covers free k) (in_its_run r (min (room r) need) k (omega arith) here)
    | inr behind ↦ or_right (has r k) (covers free k) (shared_lie_free free (need - room r) k behind)
  ]
  | inr le ↦ or_right (has r k) (covers free k) (shared_lie_free free (need - room r) k (sym (ap (λ (l : List Run). takes l k) (shared-none r free need le)) ∙ is))
]

-- what a gathering that succeeds has found
both_fail : (a b : Bool) (f g : SpaceFault) (xs ys : List Run) → cond a (Err f) (cond b (Err g) (Ok xs)) ≡ Ok ys → (a ≡ false) × (b ≡ false) × (xs ≡ ys)
both_fail true b f g xs ys is = absurd (cc (is))
both_fail false true f g xs ys is = absurd (cc (is))
both_fail false false f g xs ys is = (refl, refl, cc (is))

gathered_lie_free : (low high need : ℕ) (free extents : List Run) → IsInOrder low high free → gathered free need ≡ Ok extents → IsAllotment low high free need extents
gathered_lie_free low high need free extents order is =
    let parts = both_fail (nat_lt (room_in free) need) (nat_lt 16 (length (shared free need))) (NoSpace (room_in free)) TooMany (shared free need) extents is in
    subst (λ (l : List Run). IsAllotment low high free need l) parts.2 (record {
      few = ltb-false 16 (length (shared free need)) parts.1;
      sum = shared-sum free need ∙ omega (arith, ltb-false (room_in free) need parts.0);
      whole = shared_whole free need;
      order = shared_in_order low high free need order;
      free_before = shared_lie_free free need;
    })

-- the one run that has all the blocks
one_in_order : (low high need : ℕ) (free : List Run) (r : Run) → IsInOrder low high free → find (λ (s : Run). nat_lt need s.blocks) free ≡ Some r → (low ≤ r.at) × (end_of r ≤ high) × (need < r.blocks) × ((k : ℕ) → has r k ≡ true → covers free k ≡ true)
one_in_order low high need [] r order is = absurd (cc (is))
one_in_order low high need (s ∷ free) r order is = elim (cases_lt need s.blocks) [
  | inl lt ↦
      let here : Some s ≡ Some r = grind (arith, nat_tests, is) in
      let same : s ≡ r = cc (here) in
      subst (λ (t : Run). (low ≤ t.at) × (end_of t ≤ high) × (need < t.blocks) × ((k : ℕ) → has t k ≡ true → covers (s ∷ free) k ≡ true)) same
      (order.0, ends (end_of s) high free order.1, lt, λ k. or_left (has s k) (covers free k))
  | inr ge ↦
      let later : find (λ (t : Run). nat_lt need t.blocks) free ≡ Some r = grind (arith, nat_tests, is) in
      let rest = one_in_order (end_of s) high need free r order.1 later in
      (omega (arith, order.0, rest.0), rest.1, rest.2, λ k has_it. or_right (has s k) (covers free k) (rest.3 k has_it))
]
  where
    ends : (low high : ℕ) (runs : List Run) → IsInOrder low high runs → low ≤ high
    ends low high [] order = order
    ends low high (s ∷ runs) order = omega (arith, order.0, ends (end_of s) high runs order.1)

placed_lie_free : (low high need : ℕ) (free extents : List Run) (r : Run) → IsInOrder low high free → 1 ≤ need → find (λ (s : Run). nat_lt need s.blocks) free ≡ Some r → extent_in r need ∷ [] ≡ extents → IsAllotment low high free need extents
placed_lie_free low high need free extents r order some is same =
    let lies = one_in_order low high need free r order is in
    subst (λ (l : List Run). IsAllotment low high free need l) same (record {
      few = omega arith;
      sum = sum_by-cons blocks_of (extent_in r need) [] ∙ omega arith;
      whole = All-cons IsWhole (extent_in r need) [] (omega arith, some) (All-nil IsWhole);
      order = (omega (arith, lies.0), omega (arith, lies.1, lies.2));
      free_before = λ k taken. elim (or_cases (has (with_header (extent_in r need)) k) false taken) [
        | inl here ↦ lies.3 k (in_its_run r need k lies.2 here)
        | inr none ↦ absurd (false≢true none)
      ];
    })

pub allotted_lie_free : (low high need : ℕ) (free extents : List Run) → IsInOrder low high free → 1 ≤ need → allotted free need ≡ Ok extents → IsAllotment low high free need extents
allotted_lie_free low high need free extents order some is = by_found (find (λ (r : Run). nat_lt need r.blocks) free) refl
  where
    by_found : (found : Option Run) → find (λ (r : Run). nat_lt need r.blocks) free ≡ found → IsAllotment low high free need extents
    by_found (Some r) found = placed_lie_free low high need free extents r order some found (cc (sym (allotted_one free need r found) ∙ is))
    by_found None found = gathered_lie_free low high need free extents order (sym (allotted_several free need found) ∙ is)
