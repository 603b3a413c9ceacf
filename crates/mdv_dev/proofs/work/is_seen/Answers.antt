use Rattle.std.proofs.Common.{◌+◌, refl, sym, ◌∙◌, arith}
use Rattle.mdv_dev.specs.Pieces.{has_drive}
use Rattle.mdv_dev.proofs.Counting.{has_at, has_same}
use Rattle.mdv_dev.proofs.Lying.{drive_here, other_drive}
use Rattle.mdv_dev.proofs.work.is_seen.Goals as goal

pub loop-place-init : goal.loop-place-init
unfolding has_drive
loop-place-init g c = (omega arith, refl)

pub returns-then-piece-drive : goal.returns-then-piece-drive
returns-then-piece-drive g c =
    let v = g.D.Placed.map c.args.device.now in
    let place = c.loop-place.place in
    let some = c.piece-piece.ensures.some in
    let here = drive_here v c.args.at place c.args.count c.piece-piece.result c.piece-piece.ensures place (omega arith) (omega arith) in
    sym (has_at v c.args.at c.args.count place c.args.drive.0 c.loop-place-test.true (here ∙ c.if-piece-drive.true))

pub loop-place-preserved : goal.loop-place-preserved
loop-place-preserved g c =
    let v = g.D.Placed.map c.args.device.now in
    let place = c.loop-place.place in
    let few = c.piece-piece.ensures.within in
    let same = has_same v c.args.at place c.piece-piece.result.count c.args.drive.0 (λ j lt. other_drive _ _ _ (drive_here v c.args.at place c.args.count c.piece-piece.result c.piece-piece.ensures (place + j) (omega arith) (omega arith)) c.if-piece-drive.false) in
    (omega arith, same ∙ c.loop-place.invariant.1)
