use Rattle.std.proofs.Common.{arith}
use Rattle.mdv_status.proofs.Blocks.{blank_step}
use Rattle.mdv_status.proofs.values.is_blank.Goals as goal

pub loop-byte-preserved : goal.loop-byte-preserved
loop-byte-preserved c = blank_step c.args.bytes.now c.loop-byte.byte-index c.loop-byte.bits (omega arith) c.loop-byte.invariant
