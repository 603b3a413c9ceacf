use Rattle.mdv_grammar.proofs.Asked.{no_verb_options, verb_options, no_verb_ask, asks_verb}
use Rattle.mdv_grammar.proofs.operands.read_verb.Goals as goal

pub returns-in_default : goal.returns-in_default
returns-in_default c = no_verb_options _ _ _ _ c.flags_of.ensures c.values_of.ensures (rw c.in_default.is at c.in_ok-given.ensures)

pub returns-in_default-2 : goal.returns-in_default-2
returns-in_default-2 c =
    no_verb_ask _ _ _ _ _ (verb_options _ _ _ _ _ _ c.flags_of.ensures c.values_of.ensures (rw c.in-Some.is at c.in_ok-given.ensures)) c.as_slice.ensures (rw c.in_default-2.is at c.in_ok-command.ensures)

pub returns : goal.returns
returns c =
    asks_verb _ _ _ _ _ _ (verb_options _ _ _ _ _ _ c.flags_of.ensures c.values_of.ensures (rw c.in-Some.is at c.in_ok-given.ensures)) c.as_slice.ensures (rw c.in-Some-2.is at c.in_ok-command.ensures)
