use Rattle.std.proofs.Common.{inr, refl, length}
use Rattle.mdv_shelf.specs.Tale.{Gave}
use Rattle.mdv_shelf.specs.Calls.{OnDrive, OnReplies}
use Rattle.mdv_shelf.proofs.MemFaults.{failed_cause, failed_keeps}
use Rattle.mdv_shelf.proofs.MemStory.{noted_call}
use Rattle.mdv_shelf.proofs.mem_shelf.MemShelfBench.give.Goals as goal

pub returns-then-not-may_give-clause-cause : goal.returns-then-not-may_give-clause-cause
returns-then-not-may_give-clause-cause c = record {
  own = failed_cause c.args.self.now c.args.self.now c.fail_giving.new.self OnReplies 0 c.fail_giving.ensures (λ p. refl) c.fail_giving.result;
  drives = λ drive. c.fail_giving.ensures.no_other_fault (OnDrive drive) (λ e. cc);
}

pub returns-then-not-may_give-clause-keeps : goal.returns-then-not-may_give-clause-keeps
returns-then-not-may_give-clause-keeps c = failed_keeps c.args.self.now c.args.self.now c.fail_giving.new.self OnReplies 0 c.fail_giving.ensures (λ p. refl) refl

pub returns-in-Err-clause-cause : goal.returns-in-Err-clause-cause
returns-in-Err-clause-cause c = record {
  own = failed_cause c.args.self.now _ c.fail_giving-in-Err.new.self OnReplies 0 c.fail_giving-in-Err.ensures (λ p. refl) c.fail_giving-in-Err.result;
  drives = λ drive. c.fail_giving-in-Err.ensures.no_other_fault (OnDrive drive) (λ e. cc);
}

pub returns-in-Err-clause-keeps : goal.returns-in-Err-clause-keeps
returns-in-Err-clause-keeps c = failed_keeps c.args.self.now _ c.fail_giving-in-Err.new.self OnReplies 0 c.fail_giving-in-Err.ensures (λ p. refl) c.give.ensures.sizes

pub returns-in-Ok-clause-noted : goal.returns-in-Ok-clause-noted
returns-in-Ok-clause-noted c = inr (noted_call c.args.self.now c.give.new.self (Gave c.args.piece.now (length c.args.piece.now)) c.deref.result.now c.totals-totals.result c.deref.ensures.value c.totals-totals.ensures c.in-Ok.ensures.noted)
