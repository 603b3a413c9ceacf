use Rattle.std.proofs.Common.{[], ◌∷◌}
use Rattle.mdv_grammar.proofs.Addresses.{no_write_block}
use Rattle.mdv_grammar.proofs.blocks.read_write.Goals as goal

pub returns-in_default-clause-none : goal.returns-in_default-clause-none
returns-in_default-clause-none c = λ command asks. c.in_default.ensures.none asks.volume asks.at (asks.hex ∷ []) asks.address

pub returns-in_err-block-clause-none : goal.returns-in_err-block-clause-none
returns-in_err-block-clause-none c =
    rw c.from_residual-in_err-block.ensures (no_write_block _ _ _ _ _ c.in-Some.ensures.value c.in_ok-hex.ensures.value c.in_err-block.ensures.none)
