use Rattle.std.proofs.Common.{take}
use Rattle.std.specs.Prelude.{flat_map}
use Rattle.mdv_acts.specs.Acts.{HaveGone, blanks_on}
use Rattle.mdv_acts.specs.Asked.{drives_asked}
use Rattle.mdv_acts.proofs.clearing.clear_slices.Given as goal

abbrev pub invariant-loop-line : goal.invariant-loop-line
invariant-loop-line g l = HaveGone g.S.Shelf l.fn.shelf l.shelf (drives_asked l.lines) (flat_map (blanks_on l.count l.blocks) (take l.line-index l.lines))
