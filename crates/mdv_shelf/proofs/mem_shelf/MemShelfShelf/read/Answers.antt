use Rattle.std.proofs.Common.{refl}
use Rattle.mdv_shelf.specs.Calls.{OnDrive}
use Rattle.mdv_shelf.proofs.MemFaults.{failed_on_drive, failed_keeps}
use Rattle.mdv_shelf.proofs.mem_shelf.MemShelfShelf.read.Goals as goal

pub returns-then-not-may_call_on-clause-cause : goal.returns-then-not-may_call_on-clause-cause
returns-then-not-may_call_on-clause-cause c = failed_on_drive c.args.self.now c.args.self.now c.fail_on.new.self c.args.drive.0 0 c.fail_on.ensures (λ p. refl) c.fail_on.result

pub returns-then-not-may_call_on-clause-keeps : goal.returns-then-not-may_call_on-clause-keeps
returns-then-not-may_call_on-clause-keeps c = failed_keeps c.args.self.now c.args.self.now c.fail_on.new.self (OnDrive c.args.drive.0) 0 c.fail_on.ensures (λ p. refl) refl
