use Rattle.mdv_shelf.proofs.Counts.{took_one}
use Rattle.mdv_shelf.specs.Calls.{OnDrive}
use Rattle.mdv_shelf.proofs.InTime.{kept_on_call}
use Rattle.mdv_replica.proofs.replica.read_body.Goals as goal

pub returns-in_err-read-clause-counted : goal.returns-in_err-read-clause-counted
returns-in_err-read-clause-counted g c = took_one g.S.Shelf.calls g.S.Shelf.written _ _ _ c.read.ensures.counted

pub returns-clause-counted : goal.returns-clause-counted
returns-clause-counted g c = took_one g.S.Shelf.calls g.S.Shelf.written _ _ _ c.read.ensures.counted

pub returns-in_err-read-clause-kept : goal.returns-in_err-read-clause-kept
returns-in_err-read-clause-kept g c = kept_on_call g.S.Shelf (OnDrive c.args.at.drive.0) _ _ c.read.ensures.noted c.read.ensures.keeps c.read.ensures.cause.others

pub returns-clause-kept : goal.returns-clause-kept
returns-clause-kept g c = kept_on_call g.S.Shelf (OnDrive c.args.at.drive.0) _ _ c.read.ensures.noted c.read.ensures.keeps c.read.ensures.cause.others
