use Rattle.std.proofs.Common.{sym}
use Rattle.mdv_survey.proofs.Identities.{none_shown, one_shown}
use Rattle.mdv_survey.proofs.choosing.two_identities.Goals as goal

pub returns-in_err-one-clause-none : goal.returns-in_err-one-clause-none
returns-in_err-one-clause-none c = λ is. none_shown c.args.replicas.now (sym c.in_err-one.ensures)

pub returns-in_err-other-clause-none : goal.returns-in_err-other-clause-none
returns-in_err-other-clause-none c = λ is. one_shown c.args.replicas.now c.in_ok-one.field-0.head.master.identity (sym c.in_err-other.ensures)
