use Rattle.std.proofs.Common.{inr, refl}
use Rattle.mdv_shelf.specs.Tale.{Synced}
use Rattle.mdv_shelf.specs.Calls.{OnDrive}
use Rattle.mdv_shelf.proofs.MemFaults.{failed_on_drive, failed_keeps}
use Rattle.mdv_shelf.proofs.MemStory.{noted_call}
use Rattle.mdv_shelf.proofs.mem_shelf.MemShelfShelf.sync.Goals as goal

pub returns-then-not-may_call_on-clause-cause : goal.returns-then-not-may_call_on-clause-cause
returns-then-not-may_call_on-clause-cause c = failed_on_drive c.args.self.now c.args.self.now c.fail_on.new.self c.args.drive.0 0 c.fail_on.ensures (λ p. refl) c.fail_on.result

pub returns-then-not-may_call_on-clause-keeps : goal.returns-then-not-may_call_on-clause-keeps
returns-then-not-may_call_on-clause-keeps c = failed_keeps c.args.self.now c.args.self.now c.fail_on.new.self (OnDrive c.args.drive.0) 0 c.fail_on.ensures (λ p. refl) refl

pub returns-in-Err-clause-cause : goal.returns-in-Err-clause-cause
returns-in-Err-clause-cause c = failed_on_drive c.args.self.now _ c.fail_on-in-Err.new.self c.args.drive.0 0 c.fail_on-in-Err.ensures (λ p. refl) c.fail_on-in-Err.result

pub returns-in-Err-clause-keeps : goal.returns-in-Err-clause-keeps
returns-in-Err-clause-keeps c = failed_keeps c.args.self.now _ c.fail_on-in-Err.new.self (OnDrive c.args.drive.0) 0 c.fail_on-in-Err.ensures (λ p. refl) c.sync.ensures.sizes

pub returns-in-Ok-clause-noted : goal.returns-in-Ok-clause-noted
returns-in-Ok-clause-noted c = inr (noted_call c.args.self.now c.sync.new.self (Synced c.args.drive.0) c.deref.result.now c.totals-totals.result c.deref.ensures.value c.totals-totals.ensures c.in-Ok.ensures.noted)
