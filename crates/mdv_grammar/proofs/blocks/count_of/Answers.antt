use Rattle.mdv_grammar.proofs.Addresses.{no_count}
use Rattle.mdv_grammar.proofs.blocks.count_of.Goals as goal

pub returns-then-count-eq0-clause-none : goal.returns-then-count-eq0-clause-none
returns-then-count-eq0-clause-none c = no_count c.args.word.now c.in_ok-count.count c.if-count-eq0.true c.in_ok-count.ensures.value
