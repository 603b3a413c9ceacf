use Rattle.std.proofs.Common.{sym, subst, take, arith, lit<, lit≤}
use Rattle.mdv_shelf.specs.Tale.{Tale, Begun, values, last}
use Rattle.mdv_shelf.specs.MemHistory.{continued, ScansTo}
use Rattle.mdv_shelf.proofs.MemScan.{scans_start, continued-more}
use Rattle.mdv_shelf.proofs.mem_shelf.scan.scan_calls.Goals as goal

pub loop-call-init : goal.loop-call-init
loop-call-init c = record {
  some = lit< tt;
  few = lit≤ tt;
  scans = λ s is. scans_start s c.args.drive c.args.block c.args.wanted c.args.start.now is;
}

pub loop-call-preserved : goal.loop-call-preserved
loop-call-preserved c = record {
  some = c.step.ensures.some c.loop-call.invariant.some;
  few = omega (arith, c.step.ensures.few);
  scans = λ s is.
      let done = continued (Begun s) (take c.loop-call.call-index c.args.calls.now) in
      let found = c.step.new.self in
      let next = continued-more (Begun s) c.args.calls.now c.loop-call.call-index c.call-item.result c.loop-call-test.true c.call-item.is in
      subst (λ (t : Tale). ScansTo found.last found.count found.found c.args.wanted (values t c.args.drive c.args.block) (last t c.args.drive c.args.block)) (sym next)
      (c.step.ensures.scans done (c.loop-call.invariant.scans s is));
}
