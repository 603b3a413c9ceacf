use Rattle.std.proofs.Common.{◌+◌, None, arith}
use Rattle.mdv_dev.proofs.Requesting.{drive_known, moments_flushed}
use Rattle.mdv_dev.proofs.Syncs.{added_one}
use Rattle.mdv_dev.proofs.Writing.{torn, torn_counted, torn_kept, write_counted, write_ends, write_told, writes_kept}
use Rattle.mdv_dev.proofs.request.write_blocks.Goals as goal

pub insert-requires : goal.insert-requires
insert-requires g c =
    let v = g.D.Placed.map c.args.device.now in
    let within = c.requires.range.within in
    let at = c.in-Err.ensures.finished.stayed.1 in
    let below = at.below in
    let known = drive_known (g.S.Shelf.sizes c.args.shelf.now) v (c.args.at + c.finish.new.work.done) c.requires.on (g.met.D.Placed.one c.args.device.now c.requires.well) (omega arith) in
    let few = c.requires.few in
    let same = at.on in omega arith

pub returns-in-Ok-clause-moments : goal.returns-in-Ok-clause-moments
returns-in-Ok-clause-moments g c =
    moments_flushed (g.D.Placed.map c.args.device.now) c.args.at c.args.from.now (g.S.Shelf.tale c.args.shelf.now) (g.S.Shelf.tale c.finish.new.shelf) (g.S.Shelf.tale c.sync_all.new.shelf) c.finish.ensures.moments.each c.sync_all.ensures.moments

pub returns-in-Ok-clause-written : goal.returns-in-Ok-clause-written
returns-in-Ok-clause-written g c =
    let v = g.D.Placed.map c.args.device.now in
    write_ends g.S.Shelf v c.args.at c.args.from.now (g.met.D.Placed.one c.args.device.now c.requires.well) c.requires.range.within c.requires.range.some c.args.shelf.now c.finish.new.shelf c.sync_all.new.shelf
    c.in-Ok.field-0 c.finish.new.work c.finish.new.buffer c.finish.ensures.moments.each c.finish.ensures.done c.in-Ok.ensures.finished c.in-Ok.ensures.counted
    c.args.failed.now c.sync_all.new.failed c.sync_all.result
    (record { moments = c.sync_all.ensures.moments; synced = c.sync_all.ensures.synced; counted = c.sync_all.ensures.counted; kept = c.sync_all.ensures.kept })

pub returns-in-Ok-clause-told : goal.returns-in-Ok-clause-told
returns-in-Ok-clause-told g c =
    let v = g.D.Placed.map c.args.device.now in (
      write_told g.S.Shelf v c.args.at c.args.from.now (g.met.D.Placed.one c.args.device.now c.requires.well) c.requires.range.within c.requires.range.some c.args.shelf.now c.finish.new.shelf c.sync_all.new.shelf
          c.in-Ok.field-0 c.finish.new.work c.finish.new.buffer c.finish.ensures.moments.each c.finish.ensures.done c.in-Ok.ensures.finished c.in-Ok.ensures.counted
          c.args.failed.now c.sync_all.new.failed c.sync_all.result
          (record { moments = c.sync_all.ensures.moments; synced = c.sync_all.ensures.synced; counted = c.sync_all.ensures.counted; kept = c.sync_all.ensures.kept }),
      c.in-Ok.ensures.finished.buffer,
    )

pub returns-in-Ok-clause-counted : goal.returns-in-Ok-clause-counted
returns-in-Ok-clause-counted g c =
    let v = g.D.Placed.map c.args.device.now in
    write_counted g.S.Shelf v c.args.at c.args.from.now (g.met.D.Placed.one c.args.device.now c.requires.well) c.requires.range.within c.requires.range.some c.args.shelf.now c.finish.new.shelf c.sync_all.new.shelf
    c.in-Ok.field-0 c.finish.new.work c.finish.new.buffer c.finish.ensures.moments.each c.finish.ensures.done c.in-Ok.ensures.finished c.in-Ok.ensures.counted
    c.args.failed.now c.sync_all.new.failed c.sync_all.result
    (record { moments = c.sync_all.ensures.moments; synced = c.sync_all.ensures.synced; counted = c.sync_all.ensures.counted; kept = c.sync_all.ensures.kept })

pub returns-in-Ok-clause-kept : goal.returns-in-Ok-clause-kept
returns-in-Ok-clause-kept g c =
    let v = g.D.Placed.map c.args.device.now in
    writes_kept g.S.Shelf v c.args.at c.args.from.now (g.met.D.Placed.one c.args.device.now c.requires.well) c.requires.range.within c.requires.range.some c.args.shelf.now c.finish.new.shelf c.sync_all.new.shelf
    None c.args.failed.now c.sync_all.new.failed c.sync_all.result
    (record { moments = c.sync_all.ensures.moments; synced = c.sync_all.ensures.synced; counted = c.sync_all.ensures.counted; kept = c.sync_all.ensures.kept }) (λ drive due. c.in-Ok.ensures.finished.whole.1 drive) c.finish.ensures.kept

pub returns-in-Err-clause-moments : goal.returns-in-Err-clause-moments
returns-in-Err-clause-moments g c =
    moments_flushed (g.D.Placed.map c.args.device.now) c.args.at c.args.from.now (g.S.Shelf.tale c.args.shelf.now) (g.S.Shelf.tale c.finish.new.shelf) (g.S.Shelf.tale c.sync_all-synced.new.shelf) c.finish.ensures.moments.each c.sync_all-synced.ensures.moments

pub returns-in-Err-clause-told : goal.returns-in-Err-clause-told
returns-in-Err-clause-told g c =
    let v = g.D.Placed.map c.args.device.now in (
      torn g.S.Shelf v c.args.at c.args.from.now (g.met.D.Placed.one c.args.device.now c.requires.well) c.requires.range.within c.requires.range.some c.args.shelf.now c.finish.new.shelf c.sync_all-synced.new.shelf
          {T = Unit {0}} c.in-Err.drive c.finish.new.work c.finish.new.buffer c.finish.ensures.moments.each c.in-Err.ensures.finished c.in-Err.ensures.counted
          c.args.failed.now c.insert.new.self c.sync_all-synced.new.failed
          (added_one c.args.failed.now c.insert.new.self c.in-Err.drive c.insert.ensures.added c.insert.ensures.others) c.sync_all-synced.result
          (record { moments = c.sync_all-synced.ensures.moments; synced = c.sync_all-synced.ensures.synced; counted = c.sync_all-synced.ensures.counted; kept = c.sync_all-synced.ensures.kept }),
      c.in-Err.ensures.finished.buffer,
    )

pub returns-in-Err-clause-counted : goal.returns-in-Err-clause-counted
returns-in-Err-clause-counted g c =
    let v = g.D.Placed.map c.args.device.now in
    torn_counted g.S.Shelf v c.args.at c.args.from.now (g.met.D.Placed.one c.args.device.now c.requires.well) c.requires.range.within c.requires.range.some c.args.shelf.now c.finish.new.shelf c.sync_all-synced.new.shelf
    {T = Unit {0}} c.in-Err.drive c.finish.new.work c.finish.new.buffer c.finish.ensures.moments.each c.in-Err.ensures.finished c.in-Err.ensures.counted
    c.args.failed.now c.insert.new.self c.sync_all-synced.new.failed
    (added_one c.args.failed.now c.insert.new.self c.in-Err.drive c.insert.ensures.added c.insert.ensures.others) c.sync_all-synced.result
    (record { moments = c.sync_all-synced.ensures.moments; synced = c.sync_all-synced.ensures.synced; counted = c.sync_all-synced.ensures.counted; kept = c.sync_all-synced.ensures.kept }) _

pub returns-in-Err-clause-kept : goal.returns-in-Err-clause-kept
returns-in-Err-clause-kept g c =
    let v = g.D.Placed.map c.args.device.now in
    torn_kept g.S.Shelf v c.args.at c.args.from.now (g.met.D.Placed.one c.args.device.now c.requires.well) c.requires.range.within c.requires.range.some c.args.shelf.now c.finish.new.shelf c.sync_all-synced.new.shelf
    {T = Unit {0}} c.in-Err.drive c.finish.new.work c.finish.new.buffer c.finish.ensures.moments.each c.in-Err.ensures.finished c.in-Err.ensures.counted
    c.args.failed.now c.insert.new.self c.sync_all-synced.new.failed
    (added_one c.args.failed.now c.insert.new.self c.in-Err.drive c.insert.ensures.added c.insert.ensures.others) c.sync_all-synced.result
    (record { moments = c.sync_all-synced.ensures.moments; synced = c.sync_all-synced.ensures.synced; counted = c.sync_all-synced.ensures.counted; kept = c.sync_all-synced.ensures.kept }) c.finish.ensures.kept
