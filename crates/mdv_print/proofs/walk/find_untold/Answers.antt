use Rattle.std.proofs.Common.{sym, ◌∙◌}
use Rattle.mdv_print.proofs.Walking.{untold_is}
use Rattle.mdv_print.proofs.walk.find_untold.Goals as goal

pub returns : goal.returns
returns c = λ vs are. untold_is c.args.plan.now c.args.told.now vs c.args.volume c.from.result c.in_ok-found.found.now c.as_slice-keys.ensures.keys c.from.ensures (sym c.in_ok-found.ensures) (sym c.has.ensures ∙ c.if-has.false) are
