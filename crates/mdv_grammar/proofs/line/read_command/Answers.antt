use Rattle.mdv_grammar.proofs.Asked.{no_behind}
use Rattle.mdv_grammar.proofs.line.read_command.Goals as goal

pub returns-in_default : goal.returns-in_default
returns-in_default c = λ command asks. c.in_default.ensures.none asks.0 asks.1

pub returns-in_default-2 : goal.returns-in_default-2
returns-in_default-2 c = no_behind _ _ _ c.in-Some.ensures.value (rw c.in_default-2.is at c.in_ok-command.ensures)
