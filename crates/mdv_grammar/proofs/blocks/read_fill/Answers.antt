use Rattle.std.proofs.Common.{[], ◌∷◌}
use Rattle.mdv_grammar.proofs.blocks.read_fill.Goals as goal

pub returns-in_default-clause-none : goal.returns-in_default-clause-none
returns-in_default-clause-none c = λ command asks. c.in_default.ensures.none asks.volume asks.at (asks.word ∷ asks.pair ∷ []) asks.address
