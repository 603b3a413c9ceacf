use Rattle.std.proofs.Common.{subst}
use Rattle.mdv_name.specs.Geometry.{IsFaultOf}
use Rattle.mdv_name.proofs.OneTable.{never_both}
use Rattle.mdv_run.proofs.session.read_table.Goals as goal

pub returns-in-Err-BadLine-clause-none : goal.returns-in-Err-BadLine-clause-none
returns-in-Err-BadLine-clause-none c = λ is table read. never_both c.args.text.now table c.in-Err-BadLine.field-0-0 read (subst (IsFaultOf c.args.text.now) c.in-Err-BadLine.field-0-is c.in-Err-BadLine.ensures.fault)
