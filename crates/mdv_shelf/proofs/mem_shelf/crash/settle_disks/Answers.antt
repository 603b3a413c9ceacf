use Rattle.std.proofs.Common.{◌∙◌, ap, sym, arith, ◌<◌, length}
use Rattle.mdv_shelf.specs.declared.mem_shelf.disk.Disk.{Disk}
use Rattle.mdv_shelf.proofs.MemLaws.{settled_more, settled_latest}
use Rattle.mdv_shelf.proofs.mem_shelf.crash.settle_disks.Goals as goal

pub loop-i-preserved : goal.loop-i-preserved
loop-i-preserved c =
    let lt : c.loop-i.i < length c.loop-i.disks = omega (arith, c.loop-i-test.true, c.loop-i.auto.disks) in
    record {
      latest = settled_latest c.loop-i.disks c.loop-i.i c.index-disks-i.result c.settle.new.self lt c.index-disks-i.is (c.settle.ensures.latest ∙ ap (λ (x : Disk). x.latest.items) (sym c.index-disks-i.is)) ∙ c.loop-i.invariant.latest;
      start = settled_more c.loop-i.disks c.loop-i.i c.index-disks-i.result c.settle.new.self lt c.index-disks-i.is c.args.disks.now (c.settle.ensures.start ∙ ap (λ (x : Disk). x.latest.items) (sym c.index-disks-i.is)) c.loop-i.invariant.latest c.loop-i.invariant.start;
    }
