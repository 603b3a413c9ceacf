use Rattle.mdv_text.proofs.hex.read_pair.Goals as goal

pub returns-in_err-digit-clause-none : goal.returns-in_err-digit-clause-none
returns-in_err-digit-clause-none c = rw c.from_residual.ensures (λ byte pair. c.in_err-digit.ensures.none pair.high pair.front)

pub returns-in_err-digit-2-clause-none : goal.returns-in_err-digit-2-clause-none
returns-in_err-digit-2-clause-none c = rw c.from_residual-in_err-digit-2.ensures (λ byte pair. c.in_err-digit-2.ensures.none pair.low pair.back)
