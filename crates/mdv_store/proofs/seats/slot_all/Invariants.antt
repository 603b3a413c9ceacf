use Rattle.std.proofs.Common.{◌≡◌, length}
use Rattle.mdv_store.specs.Passing.{WentBy, slotting}
use Rattle.mdv_store.proofs.Stepping.{SoFar}
use Rattle.mdv_store.proofs.seats.slot_all.Given as goal

abbrev pub invariant-loop-index : goal.invariant-loop-index
invariant-loop-index g l =
    SoFar g.S.Shelf (slotting l.fn.mark l.fn.bytes l.fn.body) l.fn.shelf l.fn.seats l.shelf l.seats l.index × (l.index-end ≡ length l.fn.seats) × WentBy g.S.Shelf (slotting l.fn.mark l.fn.bytes l.fn.body) l.fn.shelf l.fn.seats l.index l.shelf l.seats
