use Rattle.std.proofs.Common.{rules, true, false, refl}
use Rattle.mdv_engine_law.proofs.Naming.{told_of_names}
use Rattle.mdv_engine_law.proofs.names.names_refusal.Goals as goal

pub returns-then-lacks_one : goal.returns-then-lacks_one
returns-then-lacks_one c = told_of_names c.args.plan.now c.args.names.now true _ (search rules) refl

pub returns-then-have_pool : goal.returns-then-have_pool
returns-then-have_pool c = told_of_names c.args.plan.now c.args.names.now false true (search rules) (search rules)

pub returns : goal.returns
returns c = told_of_names c.args.plan.now c.args.names.now false false (search rules) (search rules)
