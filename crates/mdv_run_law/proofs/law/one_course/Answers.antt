use Rattle.mdv_run_law.proofs.Course.{one_course}
use Rattle.mdv_run_law.proofs.law.one_course.Goals as goal

pub returns : goal.returns
returns c = one_course
