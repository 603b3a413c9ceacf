use Rattle.std.proofs.Common.{refl, sym, ◌∙◌}
use Rattle.mdv_shelf.specs.Calls.{OnDrive}
use Rattle.mdv_shelf.proofs.Counts.{took_one}
use Rattle.mdv_shelf.proofs.InTime.{kept_on_call}
use Rattle.mdv_dev.specs.Syncs.{is_that}
use Rattle.mdv_dev.proofs.Drives.{where_none, where_on}
use Rattle.mdv_dev.proofs.Failing.{calm_on, failed_on}
use Rattle.mdv_dev.proofs.Syncs.{added_one, is_itself, none_that, synced_badly, synced_none, synced_well}
use Rattle.mdv_dev.proofs.Turning.{sync_moments}
use Rattle.mdv_dev.proofs.syncing.sync_one.Goals as goal

pub returns-then-is_left_out-clause-synced : goal.returns-then-is_left_out-clause-synced
returns-then-is_left_out-clause-synced g c =
    synced_none g.S.Shelf c.args.shelf.now c.args.shelf.now (is_that c.args.lost c.args.drive.0) c.args.failed.now tt refl (none_that c.args.lost c.args.drive.0 (sym c.is_left_out.ensures ∙ c.if-is_left_out.true))

pub returns-then-is_left_out-clause-counted : goal.returns-then-is_left_out-clause-counted
returns-then-is_left_out-clause-counted g c = rw (sym c.is_left_out.ensures ∙ c.if-is_left_out.true) refl

pub returns-then-is_left_out-clause-kept : goal.returns-then-is_left_out-clause-kept
returns-then-is_left_out-clause-kept g c = where_none g.S.Shelf c.args.shelf.now (is_that c.args.lost c.args.drive.0)

pub returns-in-Ok-clause-moments : goal.returns-in-Ok-clause-moments
returns-in-Ok-clause-moments g c = λ v at. sync_moments v at c.args.drive.0 (g.S.Shelf.tale c.args.shelf.now) (g.S.Shelf.tale c.sync.new.self) _ c.sync.ensures.syncs

pub returns-in-Ok-clause-synced : goal.returns-in-Ok-clause-synced
returns-in-Ok-clause-synced g c =
    let on = kept_on_call g.S.Shelf (OnDrive c.args.drive.0) _ _ c.sync.ensures.noted c.sync.ensures.keeps c.sync.ensures.cause.others in
    synced_well g.S.Shelf c.args.shelf.now c.sync.new.self c.args.drive c.args.lost c.args.failed.now tt (calm_on g.S.Shelf _ _ c.args.drive.0 on c.in-Ok.ensures.cause.own.calm) c.in-Ok.ensures.syncs

pub returns-in-Ok-clause-counted : goal.returns-in-Ok-clause-counted
returns-in-Ok-clause-counted g c = rw (sym c.is_left_out.ensures ∙ c.if-is_left_out.false) (took_one g.S.Shelf.calls g.S.Shelf.written c.args.shelf.now c.sync.new.self 0 c.sync.ensures.counted)

pub returns-in-Ok-clause-kept : goal.returns-in-Ok-clause-kept
returns-in-Ok-clause-kept g c =
    where_on g.S.Shelf _ _ (is_that c.args.lost c.args.drive.0) c.args.drive.0 (is_itself c.args.lost c.args.drive.0 (sym c.is_left_out.ensures ∙ c.if-is_left_out.false))
    (kept_on_call g.S.Shelf (OnDrive c.args.drive.0) _ _ c.sync.ensures.noted c.sync.ensures.keeps c.sync.ensures.cause.others)

pub returns-in-Err-clause-moments : goal.returns-in-Err-clause-moments
returns-in-Err-clause-moments g c = λ v at. sync_moments v at c.args.drive.0 (g.S.Shelf.tale c.args.shelf.now) (g.S.Shelf.tale c.sync.new.self) _ c.sync.ensures.syncs

pub returns-in-Err-clause-synced : goal.returns-in-Err-clause-synced
returns-in-Err-clause-synced g c =
    let on = kept_on_call g.S.Shelf (OnDrive c.args.drive.0) _ _ c.sync.ensures.noted c.sync.ensures.keeps c.sync.ensures.cause.others in
    synced_badly g.S.Shelf c.args.shelf.now c.sync.new.self c.args.drive c.args.lost c.args.failed.now c.insert.new.self c.in-Err.fault (failed_on g.S.Shelf _ _ c.args.drive.0 on c.in-Err.ensures.cause.own.failed) c.in-Err.ensures.syncs
    (sym c.is_left_out.ensures ∙ c.if-is_left_out.false) (added_one c.args.failed.now c.insert.new.self c.args.drive c.insert.ensures.added c.insert.ensures.others)

pub returns-in-Err-clause-counted : goal.returns-in-Err-clause-counted
returns-in-Err-clause-counted g c = rw (sym c.is_left_out.ensures ∙ c.if-is_left_out.false) (took_one g.S.Shelf.calls g.S.Shelf.written c.args.shelf.now c.sync.new.self 0 c.sync.ensures.counted)

pub returns-in-Err-clause-kept : goal.returns-in-Err-clause-kept
returns-in-Err-clause-kept g c =
    where_on g.S.Shelf _ _ (is_that c.args.lost c.args.drive.0) c.args.drive.0 (is_itself c.args.lost c.args.drive.0 (sym c.is_left_out.ensures ∙ c.if-is_left_out.false))
    (kept_on_call g.S.Shelf (OnDrive c.args.drive.0) _ _ c.sync.ensures.noted c.sync.ensures.keeps c.sync.ensures.cause.others)
