use Rattle.mdv_map.proofs.Combining.{soft_partitions_lie}
use Rattle.mdv_map.proofs.law.soft_partitions_lie.Goals as goal

pub returns : goal.returns
returns c = soft_partitions_lie
