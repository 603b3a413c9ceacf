use Rattle.std.proofs.Common.{arith}
use Rattle.mdv_extent.specs.Free.{free_of}
use Rattle.mdv_extent.proofs.Spreading.{free_of_is_free, order_of_free}
use Rattle.mdv_extent.proofs.law.free_runs_are_free.Goals as goal

pub returns : goal.returns
returns c = λ blocks used. (free_of_is_free blocks used, order_of_free blocks blocks used (free_of blocks used) (free_of_is_free blocks used) (omega arith))
