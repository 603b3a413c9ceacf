use Rattle.std.proofs.Common.{drop}
use Rattle.mdv_whole.specs.Sides.{pairs_text}
use Rattle.mdv_whole.proofs.Ahead.{IsAhead}
use Rattle.mdv_whole.proofs.beside.lay_pairs.Given as goal

abbrev pub invariant-loop-i : goal.invariant-loop-i
invariant-loop-i g l = IsAhead (pairs_text g.T.Beside.text l.items l.noted) l.fn.used l.fn.out l.out l.used (pairs_text g.T.Beside.text (drop l.i l.items) (drop l.i l.noted))
