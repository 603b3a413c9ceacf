use Rattle.std.proofs.Common.{inl, inr, [], sym, subst}
use Rattle.mdv_shelf.specs.Shelves.{DriveFailures}
use Rattle.mdv_replica.specs.Seen.{HasLookCause}
use Rattle.mdv_replica.specs.declared.looking.Seen.{Seen}
use Rattle.mdv_replica.proofs.Looks.{contents_of, contents_are, look_calm}
use Rattle.mdv_shelf.specs.Calls.{OnDrive}
use Rattle.mdv_shelf.proofs.InTime.{kept_on_call}
use Rattle.mdv_replica.proofs.looking.inspect.Goals as goal

pub returns-in-Ok-clause-form : goal.returns-in-Ok-clause-form
returns-in-Ok-clause-form g c =
    (contents_of c.args.at.first c.read.new.out, inr (rw c.blocks-size.ensures at c.looked.ensures (contents_of c.args.at.first c.read.new.out) (contents_are c.args.at.first c.read.new.out)))

pub returns-in-Ok-clause-cause : goal.returns-in-Ok-clause-cause
returns-in-Ok-clause-cause g c =
    look_calm c.args.at c.blocks-size.result (contents_of c.args.at.first c.read.new.out) c.looked.result (DriveFailures g.S.Shelf c.args.shelf.now c.read.new.self c.args.at.drive.0)
    (c.looked.ensures (contents_of c.args.at.first c.read.new.out) (contents_are c.args.at.first c.read.new.out)) c.in-Ok.ensures.cause.own.calm

pub returns-in-Err-clause-cause : goal.returns-in-Err-clause-cause
returns-in-Err-clause-cause g c =
    subst (λ (s : Seen). HasLookCause (DriveFailures g.S.Shelf c.args.shelf.now c.read.new.self c.args.at.drive.0) s.flags.read_error) (sym c.unread.ensures) c.in-Err.ensures.cause.own.failed

pub returns-in-Err-clause-form : goal.returns-in-Err-clause-form
returns-in-Err-clause-form g c = (contents_of c.args.at.first [], inl c.unread.ensures)

pub returns-in-Ok-clause-kept : goal.returns-in-Ok-clause-kept
returns-in-Ok-clause-kept g c = kept_on_call g.S.Shelf (OnDrive c.args.at.drive.0) _ _ c.read.ensures.noted c.read.ensures.keeps c.read.ensures.cause.others

pub returns-in-Err-clause-kept : goal.returns-in-Err-clause-kept
returns-in-Err-clause-kept g c = kept_on_call g.S.Shelf (OnDrive c.args.at.drive.0) _ _ c.read.ensures.noted c.read.ensures.keeps c.read.ensures.cause.others
