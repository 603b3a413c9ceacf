use Rattle.mdv_grammar.proofs.Heads.{no_head}
use Rattle.mdv_grammar.proofs.verb.head_of.Goals as goal

pub returns-in_err-verb-clause-none : goal.returns-in_err-verb-clause-none
returns-in_err-verb-clause-none c = rw c.from_residual.ensures (no_head c.args.word.now c.in_default.ensures.none c.in_err-verb.ensures.none)
