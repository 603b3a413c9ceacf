use Rattle.std.proofs.Common.{take}
use Rattle.mdv_acts.specs.Acts.{HaveGone, forms_asked}
use Rattle.mdv_acts.specs.Asked.{drives_asked}
use Rattle.mdv_acts.proofs.formatting.format_all.Given as goal

abbrev pub invariant-loop-line : goal.invariant-loop-line
invariant-loop-line g l = HaveGone g.S.Shelf l.fn.shelf l.shelf (drives_asked l.lines) (forms_asked l.owner.key l.owner.identity l.owner.claim (take l.line-index l.lines) l.count l.blocks)
