use Rattle.std.proofs.Common.{◌∙◌, Option, ap, refl, arith}
use Rattle.mdv_look.specs.Below.{Synced, Tale}
use Rattle.mdv_shelf.specs.Calls.{OnDrive, and_then}
use Rattle.mdv_shelf.specs.Shelves.{KeptOn, MadeCalls}
use Rattle.mdv_shelf.proofs.Counts.{took_more, took_one}
use Rattle.mdv_shelf.proofs.InTime.{kept_on_call, kept_on_more}
use Rattle.mdv_look.proofs.Few.{err_is}
use Rattle.mdv_look.proofs.drives.try_drive.Goals as goal
use Rattle.mdv_look.proofs.drives.try_drive.Goals.{After-sync}

pub returns-in_err-read-clause-kept : goal.returns-in_err-read-clause-kept
returns-in_err-read-clause-kept g c = kept_on_call g.S.Shelf (OnDrive c.args.drive.0) _ _ c.read.ensures.noted c.read.ensures.keeps c.read.ensures.cause.others

pub returns-in_err-read-clause-counted : goal.returns-in_err-read-clause-counted
returns-in_err-read-clause-counted g c =
    rw (err_is c.from_residual.result c.in_err-read.field-0.0 c.from_residual.ensures.1) (
      record {
        failing = c.args.shelf.now;
        calls = 0;
        before = refl;
        calm = refl;
        made = took_one g.S.Shelf.calls g.S.Shelf.written _ _ 0 c.read.ensures.counted;
        failed = c.in_err-read.ensures.cause.own.failed;
      },
      omega arith,
    )

-- the read and the sync
two : (g : _) (c : After-sync g) → MadeCalls g.S.Shelf c.args.shelf.now c.sync.new.self 2 0
two g c =
    took_more g.S.Shelf.calls g.S.Shelf.written _ _ _ 1 1 0 0 2 0 (omega arith) (omega arith)
    (took_one g.S.Shelf.calls g.S.Shelf.written _ _ 0 c.read.ensures.counted) (took_one g.S.Shelf.calls g.S.Shelf.written _ _ 0 c.sync.ensures.counted)

both_kept : (g : _) (c : After-sync g) → KeptOn g.S.Shelf c.args.shelf.now c.sync.new.self (OnDrive c.args.drive.0)
both_kept g c =
    kept_on_more (c.in_ok-read.ensures.cause.own.calm) (kept_on_call g.S.Shelf (OnDrive c.args.drive.0) _ _ c.read.ensures.noted c.read.ensures.keeps c.read.ensures.cause.others)
    (kept_on_call g.S.Shelf (OnDrive c.args.drive.0) _ _ c.sync.ensures.noted c.sync.ensures.keeps c.sync.ensures.cause.others)

pub returns-in_err-sync-clause-counted : goal.returns-in_err-sync-clause-counted
returns-in_err-sync-clause-counted g c =
    rw (err_is c.from_residual-in_err-sync.result c.in_err-sync.field-0.0 c.from_residual-in_err-sync.ensures.1) (
      record {
        failing = c.read.new.self;
        calls = 1;
        before = took_one g.S.Shelf.calls g.S.Shelf.written _ _ 0 c.read.ensures.counted;
        calm = c.in_ok-read.ensures.cause.own.calm;
        made = took_one g.S.Shelf.calls g.S.Shelf.written _ _ 0 c.sync.ensures.counted;
        failed = c.in_err-sync.ensures.cause.own.failed;
      },
      omega arith,
    )

pub returns-in_err-sync-clause-kept : goal.returns-in_err-sync-clause-kept
returns-in_err-sync-clause-kept g c = both_kept g (goal.at.returns-in_err-sync-clause-kept g c).After-sync

pub returns-clause-tale : goal.returns-clause-tale
returns-clause-tale g c = c.in_ok-sync.ensures.syncs ∙ ap (λ (o : Option Tale). and_then o (Synced c.args.drive.0)) c.read.ensures.reads.same

pub returns-clause-counted : goal.returns-clause-counted
returns-clause-counted g c = two g (goal.at.returns-clause-counted g c).After-sync

pub returns-clause-kept : goal.returns-clause-kept
returns-clause-kept g c = both_kept g (goal.at.returns-clause-kept g c).After-sync
