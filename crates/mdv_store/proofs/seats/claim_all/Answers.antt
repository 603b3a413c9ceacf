use Rattle.std.proofs.Common.{◌<◌, ◌≤◌, List, ℕ, length, ap, arith, subst, sym}
use Rattle.mdv_shelf.proofs.Moments.{moments_weaker}
use Rattle.mdv_store.specs.Claims.{ClaimingMoment}
use Rattle.mdv_store.specs.Passing.{IsPassing, begun, next, claiming}
use Rattle.mdv_store.specs.Seats.{IsLaid, drive_of, replicas_of}
use Rattle.mdv_store.proofs.Claiming.{claiming_ends, claiming_moment}
use Rattle.mdv_store.proofs.Stepping.{so_far_active, so_far_length, so_far_more, so_far_none, whole_end, whole_left, whole_over}
use Rattle.mdv_store.proofs.seats.claim_all.Goals as goal
use Rattle.mdv_store.proofs.seats.claim_all.Goals.{After-loop-index}

pub loop-index-init : goal.loop-index-init
loop-index-init g c = (so_far_none g.S.Shelf (claiming c.args.number) c.args.shelf.now c.args.seats.now, ap length c.as_slice-index-end.ensures, begun)

pub claim_at-requires-clause-within : goal.claim_at-requires-clause-within
claim_at-requires-clause-within g c =
    let same = so_far_length g.S.Shelf (claiming c.args.number) c.args.shelf.now c.args.seats.now c.loop-index.shelf c.loop-index.seats c.loop-index.index c.loop-index.invariant.0 in
    omega (arith, same, c.loop-index.invariant.1, c.loop-index-test.true)

pub claim_at-requires-clause-laid : goal.claim_at-requires-clause-laid
claim_at-requires-clause-laid g c r active =
    subst (λ (sizes : List ℕ). IsLaid sizes r) (sym c.loop-index.invariant.0.come.kept.keeps.same_sizes)
    (c.requires.laid r (so_far_active g.S.Shelf (claiming c.args.number) c.args.shelf.now c.args.seats.now c.loop-index.shelf c.loop-index.seats c.loop-index.index c.loop-index.invariant.0 r active))

pub loop-index-preserved : goal.loop-index-preserved
loop-index-preserved g c =
    let same = so_far_length g.S.Shelf (claiming c.args.number) c.args.shelf.now c.args.seats.now c.loop-index.shelf c.loop-index.seats c.loop-index.index c.loop-index.invariant.0 in
    let within : c.loop-index.index < length c.loop-index.seats = omega (arith, same, c.loop-index.invariant.1, c.loop-index-test.true) in (
      so_far_more g.S.Shelf (claiming c.args.number) c.args.shelf.now c.args.seats.now (λ r n took. ap drive_of took) c.loop-index.shelf c.claim_at.new.shelf c.loop-index.seats c.claim_at.new.seats c.loop-index.index c.loop-index.invariant.0 within c.claim_at.ensures,
      c.loop-index.invariant.1,
      next c.loop-index.index c.loop-index.shelf c.claim_at.new.shelf c.loop-index.seats c.claim_at.new.seats c.loop-index.invariant.2 c.claim_at.ensures,
    )

over : (g : _) (c : After-loop-index g) → length c.loop-index.seats ≤ c.loop-index.index
over g c =
    let same = so_far_length g.S.Shelf (claiming c.args.number) c.args.shelf.now c.args.seats.now c.loop-index.shelf c.loop-index.seats c.loop-index.index c.loop-index.invariant.0 in
    omega (arith, same, c.loop-index.invariant.1, c.loop-index-test.false)

pub returns-clause-left : goal.returns-clause-left
returns-clause-left g c = whole_left g.S.Shelf (claiming c.args.number) c.args.shelf.now c.args.seats.now c.loop-index.shelf c.loop-index.seats c.loop-index.index c.loop-index.invariant.0 (over g c)

pub returns-clause-moments : goal.returns-clause-moments
returns-clause-moments g c =
    moments_weaker (IsPassing (claiming c.args.number) (replicas_of c.args.seats.now)) (ClaimingMoment c.args.seats.now c.args.number) (g.S.Shelf.tale c.args.shelf.now) (g.S.Shelf.tale c.loop-index.shelf)
    (λ t m. claiming_moment c.args.number c.args.seats.now t (λ r one. (c.requires.laid r one).placed.least) m) c.loop-index.invariant.0.come.moments

pub returns-clause-end : goal.returns-clause-end
returns-clause-end g c t is =
    let end = whole_end g.S.Shelf (claiming c.args.number) c.args.shelf.now c.args.seats.now c.loop-index.shelf c.loop-index.seats c.loop-index.index c.loop-index.invariant.0 (over g c) t is in
    (end.0, end.1, claiming_ends c.args.number c.args.seats.now t c.loop-index.seats end.0 end.2)

pub returns-clause-passed : goal.returns-clause-passed
returns-clause-passed g c = whole_over g.S.Shelf (claiming c.args.number) c.args.shelf.now c.args.seats.now c.loop-index.shelf c.loop-index.seats c.loop-index.index c.loop-index.invariant.0 (over g c) c.loop-index.invariant.2
