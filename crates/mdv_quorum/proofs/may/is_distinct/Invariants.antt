use Rattle.std.proofs.Common.{◌≡◌, drop}
use Rattle.mdv_quorum.specs.May.{is_distinct as spec_is_distinct}
use Rattle.mdv_quorum.proofs.may.is_distinct.Given as goal

abbrev pub invariant-loop-i : goal.invariant-loop-i
invariant-loop-i l = spec_is_distinct l.list ≡ spec_is_distinct (drop l.i l.list)
