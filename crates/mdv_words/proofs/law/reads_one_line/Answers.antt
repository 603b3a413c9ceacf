use Rattle.mdv_words.proofs.Lines.{one_line}
use Rattle.mdv_words.proofs.law.reads_one_line.Goals as goal

pub returns : goal.returns
returns c = one_line
