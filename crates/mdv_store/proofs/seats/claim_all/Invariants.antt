use Rattle.std.proofs.Common.{◌≡◌, length}
use Rattle.mdv_store.specs.Passing.{WentBy, claiming}
use Rattle.mdv_store.proofs.Stepping.{SoFar}
use Rattle.mdv_store.proofs.seats.claim_all.Given as goal

abbrev pub invariant-loop-index : goal.invariant-loop-index
invariant-loop-index g l =
    SoFar g.S.Shelf (claiming l.fn.number) l.fn.shelf l.fn.seats l.shelf l.seats l.index × (l.index-end ≡ length l.fn.seats) × WentBy g.S.Shelf (claiming l.fn.number) l.fn.shelf l.fn.seats l.index l.shelf l.seats
