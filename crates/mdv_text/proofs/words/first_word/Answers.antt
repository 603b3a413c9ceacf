use Rattle.std.proofs.Common.{arith}
use Rattle.std.proofs.lemmas.List.Sums.{prefix_len-le-length}
use Rattle.mdv_text.specs.Words.{is_blank, is_word_byte}
use Rattle.mdv_text.proofs.WordRuns.{no_word, first_word_made}
use Rattle.mdv_text.proofs.words.first_word.Goals as goal

pub split_at-requires : goal.split_at-requires
split_at-requires c = omega (arith, prefix_len-le-length is_blank c.args.line.now, c.count_blanks.ensures)

pub returns-then-is_empty-clause-none : goal.returns-then-is_empty-clause-none
returns-then-is_empty-clause-none c = no_word _ _ _ _ c.count_blanks.ensures c.split_at.ensures.back c.is_empty.ensures c.if-is_empty.true

pub split_at-requires-2 : goal.split_at-requires-2
split_at-requires-2 c = omega (arith, prefix_len-le-length is_word_byte c.split_at.result.1.now, c.count_word_bytes.ensures)

pub returns-clause-word : goal.returns-clause-word
returns-clause-word c = first_word_made _ _ _ _ _ _ _ c.count_blanks.ensures c.split_at.ensures.back c.is_empty.ensures c.if-is_empty.false c.count_word_bytes.ensures c.split_at-2.ensures.front c.split_at-2.ensures.back
