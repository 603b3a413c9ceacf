-- The causes of changes stand in the one order in which the refusals of all commands are judged.
use Rattle.std.specs.Prelude.{◌≡◌, ◌==◌, ℕ, Bool, List, map, filter}
use Rattle.std.specs.List.{list_any}
use Rattle.mdv_base.specs.Order as base
use Rattle.mdv_base.specs.Refusal.{number_of}
use Rattle.mdv_components.specs.Causes.{order, told}
use Rattle.mdv_components.specs.declared.cause.Carried.{Carried}
use Rattle.mdv_components.specs.declared.cause.Cause.{Cause}

abbrev pub number_told : Carried → Cause → ℕ
number_told carried c = number_of (told carried c)

-- the numbers of the refusals that are told for the causes, in the order of the causes
abbrev pub numbers_told : Carried → List ℕ
numbers_told carried = map (number_told carried) order

abbrev pub is_told : Carried → ℕ → Bool
is_told carried n = list_any (λ m. m == n) (numbers_told carried)

-- they are those of the one order that are told for a cause, in that order
abbrev pub CausesStandInOrder : Type 0
CausesStandInOrder = (carried : Carried) → filter (is_told carried) base.order ≡ numbers_told carried
