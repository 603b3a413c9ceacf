use Rattle.std.proofs.Common.{arith, ◌<◌, length, get_or}
use Rattle.std.proofs.lemmas.List.{get_or_default}
use Rattle.mdv_shelf.specs.Tale.{Begun}
use Rattle.mdv_shelf.specs.MemHistory.{continued}
use Rattle.mdv_shelf.proofs.MemCrash.{crash_sizes, crash_latest, crash_left, started, crash_rest, crash_done}
use Rattle.mdv_shelf.proofs.mem_shelf.crash.crash_disks.Goals as goal

pub loop-drive-preserved : goal.loop-drive-preserved
loop-drive-preserved c =
    let l = c.loop-drive in
    let held = l.invariant in
    let first = c.args.disks.now in
    let d = get_or l.disks l.drive c.index-disks-drive.result in
    let after = c.crash-rest.new.self in
    let lt : l.drive < length l.disks = omega (arith, c.loop-drive-test.true, l.auto.disks) in
    let is = get_or_default l.disks l.drive c.index-disks-drive.result d lt in
    let same = c.crash-rest.ensures.length in
    record {
      sizes = crash_sizes l.disks first l.drive d after lt is held.sizes same;
      latest = crash_latest l.disks first l.drive d after lt is held.sizes same c.crash-rest.ensures.latest held.latest;
      done = λ s begins. crash_done l.disks first l.drive d after lt is held.sizes same l.rest.now c.args.choice.now held.rest (continued (Begun s) c.args.calls.now)
          (c.crash-rest.ensures.picks s (started l.disks first l.drive d after lt is held.sizes same held.left s begins)) (held.done s begins);
      left = crash_left l.disks first l.drive d after lt is held.sizes same held.left;
      rest = crash_rest l.disks first l.drive d after lt is held.sizes same l.rest.now c.args.choice.now held.rest c.crash-rest.result.now c.crash-rest.ensures.rest;
    }
