use Rattle.std.proofs.Common.{◌≡◌, take}
use Rattle.std.specs.Prelude.{◌↔◌, []}
use Rattle.mdv_status.specs.Values.{significant}
use Rattle.mdv_status.proofs.values.is_blank.Given as goal

abbrev pub invariant-loop-byte : goal.invariant-loop-byte
invariant-loop-byte l = (l.bits ≡ 0) ↔ (significant (take l.byte-index l.bytes) ≡ [])
