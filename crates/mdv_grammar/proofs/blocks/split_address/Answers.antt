use Rattle.mdv_grammar.proofs.Addresses.{no_address}
use Rattle.mdv_grammar.proofs.blocks.split_address.Goals as goal

pub returns-in_default-clause-none : goal.returns-in_default-clause-none
returns-in_default-clause-none c = no_address _ _ _ _ _ c.in_ok-name.ensures.word.words c.in_ok-block.ensures.word.words c.in_default.ensures.none
