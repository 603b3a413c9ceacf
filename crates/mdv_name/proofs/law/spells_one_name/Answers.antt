use Rattle.mdv_name.proofs.Volumes.{one_slice, one_volume, one_pool}
use Rattle.mdv_name.proofs.law.spells_one_name.Goals as goal

pub returns-clause-slices : goal.returns-clause-slices
returns-clause-slices c = one_slice

pub returns-clause-volumes : goal.returns-clause-volumes
returns-clause-volumes c = one_volume

pub returns-clause-pools : goal.returns-clause-pools
returns-clause-pools c = one_pool
