use Rattle.std.proofs.Common.{sym, ◌∙◌}
use Rattle.mdv_grammar.proofs.Asked.{first_bare, first_none}
use Rattle.mdv_grammar.proofs.line.read_words.Goals as goal

pub returns-then-has_words : goal.returns-then-has_words
returns-then-has_words c = first_bare _ _ _ _ c.in-Some.ensures.word.words c.in-Some-read_bare.ensures.value (c.has_words.ensures.no c.if-has_words.true)

pub returns-in-None : goal.returns-in-None
returns-in-None c =
    first_none _ _ _ c.in-Some.ensures.word.words (sym c.is_comment.ensures ∙ c.if-is_comment.false) c.in_default-read_bare.ensures.none (rw c.in-None.is at c.in_ok-command.ensures)
