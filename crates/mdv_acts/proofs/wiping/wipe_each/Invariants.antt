use Rattle.std.proofs.Common.{take}
use Rattle.mdv_acts.specs.Wipes.{WereWiped}
use Rattle.mdv_acts.proofs.wiping.wipe_each.Given as goal

abbrev pub invariant-loop-dropped : goal.invariant-loop-dropped
invariant-loop-dropped g l = WereWiped g.S.Shelf l.geometry l.fn.shelf l.shelf (take l.dropped-index l.places) l.fn.lost l.lost l.clean
