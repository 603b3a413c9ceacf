use Rattle.std.proofs.Common.{sym, ◌∙◌}
use Rattle.mdv_command.proofs.Reading.{letters_none, letters_step, letters_ended, letters_wrong}
use Rattle.mdv_command.proofs.options.read_letters.Goals as goal

pub loop-rest-init : goal.loop-rest-init
loop-rest-init c = letters_none _ _ _ _ _

pub loop-rest-preserved : goal.loop-rest-preserved
loop-rest-preserved c = letters_step _ _ _ c.loop-rest.rest.now _ _ _ _ c.loop-rest.invariant c.in-len1-up.len_at_least (sym c.has_byte.ensures ∙ c.if-not-has_byte.false) c.in_ok-push.ensures.ok

pub returns-in_default-2 : goal.returns-in_default-2
returns-in_default-2 c =
    letters_wrong _ _ _ c.loop-rest.rest.now _ _ _ c.loop-rest.invariant c.in-len1-up.len_at_least (sym c.has_byte.ensures ∙ c.if-not-has_byte.true) (rw c.in_default-2.is at c.in_ok-on.ensures)

pub returns-then-not-has_byte : goal.returns-then-not-has_byte
returns-then-not-has_byte c =
    letters_ended _ _ _ c.loop-rest.rest.now _ _ _ _ _ c.loop-rest.invariant c.in-len1-up.len_at_least (sym c.has_byte.ensures ∙ c.if-not-has_byte.true) (rw c.in-Some.is at c.in_ok-on.ensures)
