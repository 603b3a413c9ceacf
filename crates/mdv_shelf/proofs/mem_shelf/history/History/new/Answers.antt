use Rattle.std.proofs.Common.{arith}
use Rattle.mdv_shelf.proofs.MemCrash.{after_new}
use Rattle.mdv_shelf.proofs.mem_shelf.history.History.new.Goals as goal

pub invariant_of-result : goal.invariant_of-result
invariant_of-result c =
    let done = after_new c.in_ok-blank_disks.field-0.items c.args.sizes.now c.new.result.items c.new-3.result.items c.new.ensures.items c.new-3.ensures.items
    c.in_ok-blank_disks.ensures.start c.in_ok-blank_disks.ensures.latest in
    record {
      few = omega (arith, done.number, c.if-sizes.false);
      before = omega arith;
      shows = done.shows;
      within = done.within;
      tells = done.tells;
    }

pub returns-clause-tale : goal.returns-clause-tale
returns-clause-tale c = (after_new c.in_ok-blank_disks.field-0.items c.args.sizes.now c.new.result.items c.new-3.result.items c.new.ensures.items c.new-3.ensures.items
    c.in_ok-blank_disks.ensures.start c.in_ok-blank_disks.ensures.latest).tale

pub returns-clause-sizes : goal.returns-clause-sizes
returns-clause-sizes c = (after_new c.in_ok-blank_disks.field-0.items c.args.sizes.now c.new.result.items c.new-3.result.items c.new.ensures.items c.new-3.ensures.items
    c.in_ok-blank_disks.ensures.start c.in_ok-blank_disks.ensures.latest).sizes_are
