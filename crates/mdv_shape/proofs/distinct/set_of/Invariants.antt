use Rattle.std.proofs.Common.{◌≡◌, ℕ, take}
use Rattle.std.specs.BTreeSet.{contains}
use Rattle.std.specs.List.{IsDistinct, list_any}
use Rattle.std.specs.Ordering.{nat_cmp}
use Rattle.std.specs.Prelude.{nat_eq}
use Rattle.mdv_shape.proofs.distinct.set_of.Given as goal

abbrev pub invariant-loop-number : goal.invariant-loop-number
invariant-loop-number l = IsDistinct nat_eq (take l.number-index l.numbers) × ((n : ℕ) → contains nat_cmp l.set n ≡ list_any (nat_eq n) (take l.number-index l.numbers))
