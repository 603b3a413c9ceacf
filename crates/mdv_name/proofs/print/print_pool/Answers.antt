use Rattle.std.proofs.Common.{arith}
use Rattle.std.proofs.lemmas.Grind.{common_steps}
use Rattle.mdv_name.proofs.Sets.{three_digits-decimal}
use Rattle.mdv_name.proofs.print.print_pool.Goals as goal

pub returns-clause-ok : goal.returns-clause-ok
returns-clause-ok c = rw (← three_digits-decimal c.args.name.now.pool.0 c.requires) (grind (arith, common_steps))
