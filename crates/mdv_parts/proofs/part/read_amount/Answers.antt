use Rattle.mdv_parts.proofs.part.read_amount.Goals as goal

pub returns-in_err-blocks-clause-no_size : goal.returns-in_err-blocks-clause-no_size
returns-in_err-blocks-clause-no_size c = rw c.from_residual.ensures (λ n is. c.in_err-blocks.ensures.none n is.0)
