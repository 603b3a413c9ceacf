-- What run after run gives.
use Rattle.std.proofs.Common.{◌≡◌, ◌≤◌, ◌+◌, inl, inr, ℕ, Bool, true, List, [], ◌∷◌, refl, sym, subst, ◌∙◌, ap, arith, All}
use Rattle.std.proofs.lemmas.List.Sums.{sum_by-cons}
use Rattle.std.proofs.lemmas.List.Elements.{All-cons, All-tail, All-nil}
use Rattle.mdv_extent.specs.declared.run.Run.{Run}
use Rattle.mdv_extent.specs.Runs.{end_of, IsInOrder}
use Rattle.std.specs.Prelude.{nat_lt, Option, Some, None, Ok}
use Rattle.std.specs.List.{find}
use Rattle.std.proofs.lemmas.Bool.{cases_Bool, cond-true, cond-false}
use Rattle.mdv_extent.specs.Share.{room, room_in, extent_in, placed, gathered, allotted}

-- runs in order have no more blocks than lie there
pub room_within : (low high : ℕ) (free : List Run) → IsInOrder low high free → room_in free + low ≤ high
room_within low high [] order = omega (arith, order)
room_within low high (r ∷ free) order =
    let rest : room_in free + end_of r ≤ high = room_within (end_of r) high free order.1 in
    let first : low ≤ r.at = order.0 in
    let sum : room_in (r ∷ free) ≡ room r + room_in free = sum_by-cons room r free in
    omega (arith, rest, first, sum)

-- and each of them begins there
pub each_below : (low high : ℕ) (free : List Run) → IsInOrder low high free → All (λ (r : Run). r.at ≤ high) free
each_below low high [] order = All-nil (λ (r : Run). r.at ≤ high)
each_below low high (r ∷ free) order =
    let behind : (top : ℕ) (runs : List Run) → IsInOrder (end_of r) top runs → end_of r ≤ top = λ top runs. ends_behind (end_of r) top runs in
    All-cons (λ (s : Run). s.at ≤ high) r free (omega (arith, behind high free order.1)) (each_below (end_of r) high free order.1)
  where
    ends_behind : (low high : ℕ) (runs : List Run) → IsInOrder low high runs → low ≤ high
    ends_behind low high [] order = order
    ends_behind low high (s ∷ runs) order = omega (arith, order.0, ends_behind (end_of s) high runs order.1)

-- what a search finds is one of the list
pub found_one : (P : Run → Type 0) (test : Run → Bool) (free : List Run) (r : Run) → All P free → find test free ≡ Some r → P r × (test r ≡ true)
found_one P test [] r all is = absurd (cc (is))
found_one P test (s ∷ free) r all is = elim (cases_Bool (test s)) [
  | inl passes ↦
      let same : Some s ≡ Some r = sym (cond-true (test s) (Some s) (find test free) passes) ∙ is in
      let one : s ≡ r = cc (same) in
      (subst P one (all 0 s (omega arith)), ap test (sym one) ∙ passes)
  | inr fails ↦ found_one P test free r (All-tail P s free all) (sym (cond-false (test s) (Some s) (find test free) fails) ∙ is)
]

pub allotted_by : (free : List Run) (need : ℕ) → allotted free need ≡ placed (find (λ (r : Run). nat_lt need r.blocks) free) free need
unfolding allotted
allotted_by free need = refl

pub allotted_one : (free : List Run) (need : ℕ) (r : Run) → find (λ (s : Run). nat_lt need s.blocks) free ≡ Some r → allotted free need ≡ Ok (extent_in r need ∷ [])
allotted_one free need r is = allotted_by free need ∙ ap (λ (o : Option Run). placed o free need) is

pub allotted_several : (free : List Run) (need : ℕ) → find (λ (s : Run). nat_lt need s.blocks) free ≡ None → allotted free need ≡ gathered free need
allotted_several free need is = allotted_by free need ∙ ap (λ (o : Option Run). placed o free need) is
