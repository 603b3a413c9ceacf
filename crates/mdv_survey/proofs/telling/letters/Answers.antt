use Rattle.std.proofs.Common.{sym, ◌∙◌}
use Rattle.mdv_survey.proofs.telling.letters.Goals as goal

pub returns-then-is_found : goal.returns-then-is_found
returns-then-is_found c = rw (sym c.is_found.ensures ∙ c.if-is_found.true) c.located.ensures

pub returns : goal.returns
returns c = rw (sym c.is_found.ensures ∙ c.if-is_found.false, ← c.first_other-other.ensures, ← c.is_unread.ensures) c.letters_of_other.ensures
