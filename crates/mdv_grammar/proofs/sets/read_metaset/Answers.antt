use Rattle.std.proofs.Common.{sym, ◌∙◌, ap}
use Rattle.mdv_grammar.specs.Sets.{set_form}
use Rattle.mdv_grammar.proofs.Asked.{no_set_form, no_set_ask}
use Rattle.mdv_grammar.proofs.sets.read_metaset.Goals as goal

pub returns-in_default : goal.returns-in_default
returns-in_default c = let none = rw c.in_default.is at c.in_ok-given.ensures in λ command asks. none asks.given asks.operands asks.options

pub returns-in_default-set_form : goal.returns-in_default-set_form
returns-in_default-set_form c = no_set_form _ _ _ (rw c.in-Some.is at c.in_ok-given.ensures) (ap set_form (sym c.as_slice.ensures) ∙ sym c.in_default-set_form.ensures)

pub returns-in_default-2 : goal.returns-in_default-2
returns-in_default-2 c =
    let none = rw (c.in_default-2.is, c.as_slice-2.ensures) at c.in_ok-command.ensures in
    no_set_ask _ _ _ _ (rw c.in-Some.is at c.in_ok-given.ensures) (ap set_form (sym c.as_slice.ensures) ∙ sym c.in-Some-set_form.ensures) none
