use Rattle.std.proofs.Common.{◌+◌, ◌-◌, ◌<◌, ℕ, List, length, Result, sym, subst, arith}
use Rattle.mdv_base.specs.declared.drive.Failed.{Failed}
use Rattle.mdv_dev.proofs.Lying.{in_drive}
use Rattle.mdv_dev.proofs.Syncs.{SoFar, so_far_more, so_far_none}
use Rattle.mdv_dev.proofs.syncing.sync_all.Goals as goal

pub loop-place-init : goal.loop-place-init
loop-place-init g c = so_far_none g.S.Shelf c.args.shelf.now (g.D.Placed.map c.args.device.now) c.args.at c.args.lost c.args.count c.args.failed.now tt

pub sync_one-synced-requires-clause-known : goal.sync_one-synced-requires-clause-known
sync_one-synced-requires-clause-known g c =
    let v = g.D.Placed.map c.args.device.now in
    let place = c.loop-place.place in
    let below = c.loop-place-test.true in
    let within = c.requires.within in
    let there = in_drive v (c.args.at + place) (c.args.count - place) c.piece-piece.result c.piece-piece.ensures (g.S.Shelf.sizes c.args.shelf.now) c.requires.on (omega arith) in
    subst (λ (sizes : List ℕ). c.piece-piece.result.drive.0 < length sizes) (sym c.loop-place.invariant.so.kept.keeps.same_sizes) there.known

pub loop-place-preserved : goal.loop-place-preserved
loop-place-preserved g c =
    let v = g.D.Placed.map c.args.device.now in
    let after : Result (Unit {0}) Failed → Type 0 = λ r. SoFar g.S.Shelf c.args.shelf.now c.sync_one-synced.new.shelf v c.args.at c.args.lost c.args.count c.next_drive-place.result c.args.failed.now c.sync_one-synced.new.failed r in
    subst after (sym c.and-result.ensures)
    (so_far_more g.S.Shelf c.args.shelf.now v c.args.at c.args.lost c.args.count c.args.failed.now c.loop-place.shelf c.sync_one-synced.new.shelf c.loop-place.place c.loop-place.failed c.sync_one-synced.new.failed c.loop-place.result c.sync_one-synced.result
    c.loop-place.invariant c.piece-piece.result c.piece-piece.ensures c.loop-place-test.true c.next_drive-place.result c.next_drive-place.ensures.behind c.next_drive-place.ensures.until c.next_drive-place.ensures.seen c.next_drive-place.ensures.first
    (record { moments = c.sync_one-synced.ensures.moments v c.args.at; synced = c.sync_one-synced.ensures.synced; counted = c.sync_one-synced.ensures.counted; kept = c.sync_one-synced.ensures.kept }))
