use Rattle.mdv_grammar.proofs.OneLine.{one_line}
use Rattle.mdv_grammar.proofs.law.asks_one_thing.Goals as goal

pub returns : goal.returns
returns c = one_line
