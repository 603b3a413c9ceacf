use Rattle.mdv_grammar.proofs.Owned.{asks_parts, no_parts, no_form}
use Rattle.mdv_grammar.proofs.operands.read_operands.Goals as goal

pub returns-in_default : goal.returns-in_default
returns-in_default c =
    no_parts _ _ _ _ _ _ _ _ c.set_given-named.ensures c.split_all-all.ensures.place c.split_all-all.ensures.none c.set_for-set.ensures c.scope_of-scope.ensures (rw c.in_default.is at c.in_ok-parts.ensures)

pub returns-in_default-2 : goal.returns-in_default-2
returns-in_default-2 c =
    no_form _ _ _ _ _ _ _ _ _ _ c.set_given-named.ensures c.split_all-all.ensures.place c.split_all-all.ensures.none c.set_for-set.ensures c.scope_of-scope.ensures (rw c.in-Some.is at c.in_ok-parts.ensures) c.as_slice.ensures
    (rw c.in_default-2.is at c.in_ok-command.ensures)

pub returns : goal.returns
returns c =
    asks_parts _ _ _ _ _ _ _ _ _ _ _ c.set_given-named.ensures c.split_all-all.ensures.place c.set_for-set.ensures c.scope_of-scope.ensures (rw c.in-Some.is at c.in_ok-parts.ensures) c.as_slice.ensures (rw c.in-Some-2.is at c.in_ok-command.ensures)
