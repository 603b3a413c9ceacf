use Rattle.std.proofs.Common.{refl}
use Rattle.mdv_plan_tests.proofs.plan_tests.regions.Goals as goal

pub from_slice-requires : goal.from_slice-requires
from_slice-requires c = refl
