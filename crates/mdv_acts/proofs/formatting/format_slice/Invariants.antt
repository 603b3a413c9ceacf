use Rattle.std.proofs.Common.{[], ◌∷◌}
use Rattle.mdv_acts.specs.Acts.{HaveGone, forms_from}
use Rattle.mdv_acts.proofs.formatting.format_slice.Given as goal

abbrev pub invariant-loop-number : goal.invariant-loop-number
invariant-loop-number g l = HaveGone g.S.Shelf l.fn.shelf l.shelf (l.line.at.drive ∷ []) (forms_from l.owner.key l.owner.identity l.owner.claim l.line l.count l.blocks 0 l.number)
