use Rattle.std.proofs.Common.{◌∙◌, ap, arith, length}
use Rattle.std.proofs.lemmas.List.{with_items_is}
use Rattle.std.specs.Vec.{with_item}
use Rattle.mdv_shelf.specs.MemHistory.{start_blocks, latest_blocks}
use Rattle.mdv_shelf.proofs.MemLaws.{same_number}
use Rattle.mdv_shelf.proofs.MemCrash.{after_back, lent_picks}
use Rattle.mdv_shelf.proofs.mem_shelf.history.History.bring_back.Goals as goal

pub invariant_of-self : goal.invariant_of-self
invariant_of-self c =
    let now = c.args.self.now in
    let done = after_back c.args.self.now.disks.items _ c.args.drive c.index_mut.result.now c.crash.new.self c.args.self.now.calls.items c.args.self.now.told_before c.args.self.now.told.items
    (omega (arith, c.requires, same_number c.args.self.now.disks.items)) c.index_mut.ensures.value c.crash.ensures.length c.crash.ensures.latest
    (lent_picks c.args.drive c.index_mut.result.now c.crash.new.self c.deref.result.now c.args.self.now.calls.items c.deref.ensures.value c.crash.ensures.picks)
    (ap start_blocks (with_items_is (with_item c.args.self.now.disks c.args.drive c.crash.new.self) c.settle_disks.new.disks (c.settle_disks.auto.disks ∙ c.deref_mut.ensures.len))
    ∙ c.settle_disks.ensures.start ∙ ap latest_blocks c.deref_mut.ensures.value)
    (ap latest_blocks (with_items_is (with_item c.args.self.now.disks c.args.drive c.crash.new.self) c.settle_disks.new.disks (c.settle_disks.auto.disks ∙ c.deref_mut.ensures.len))
    ∙ c.settle_disks.ensures.latest ∙ ap latest_blocks c.deref_mut.ensures.value)
    c.args.self.now.shows c.args.self.now.within c.begin_anew.new.calls.items c.begin_anew.new.told_before c.begin_anew.ensures.calls (c.begin_anew.ensures.told ∙ ap length c.deref-2.ensures.value) c.args.self.now.tells in
    record {
      few = omega (arith, now.few, done.number);
      before = omega (arith, c.begin_anew.ensures.told, ap length c.deref-2.ensures.value);
      shows = done.shows;
      within = done.within;
      tells = done.tells;
    }

pub returns-clause-tale : goal.returns-clause-tale
returns-clause-tale c = (after_back c.args.self.now.disks.items _ c.args.drive c.index_mut.result.now c.crash.new.self c.args.self.now.calls.items c.args.self.now.told_before c.args.self.now.told.items
    (omega (arith, c.requires, same_number c.args.self.now.disks.items)) c.index_mut.ensures.value c.crash.ensures.length c.crash.ensures.latest
    (lent_picks c.args.drive c.index_mut.result.now c.crash.new.self c.deref.result.now c.args.self.now.calls.items c.deref.ensures.value c.crash.ensures.picks)
    (ap start_blocks (with_items_is (with_item c.args.self.now.disks c.args.drive c.crash.new.self) c.settle_disks.new.disks (c.settle_disks.auto.disks ∙ c.deref_mut.ensures.len))
    ∙ c.settle_disks.ensures.start ∙ ap latest_blocks c.deref_mut.ensures.value)
    (ap latest_blocks (with_items_is (with_item c.args.self.now.disks c.args.drive c.crash.new.self) c.settle_disks.new.disks (c.settle_disks.auto.disks ∙ c.deref_mut.ensures.len))
    ∙ c.settle_disks.ensures.latest ∙ ap latest_blocks c.deref_mut.ensures.value)
    c.args.self.now.shows c.args.self.now.within c.begin_anew.new.calls.items c.begin_anew.new.told_before c.begin_anew.ensures.calls (c.begin_anew.ensures.told ∙ ap length c.deref-2.ensures.value) c.args.self.now.tells).tale

pub returns-clause-sizes : goal.returns-clause-sizes
returns-clause-sizes c = (after_back c.args.self.now.disks.items _ c.args.drive c.index_mut.result.now c.crash.new.self c.args.self.now.calls.items c.args.self.now.told_before c.args.self.now.told.items
    (omega (arith, c.requires, same_number c.args.self.now.disks.items)) c.index_mut.ensures.value c.crash.ensures.length c.crash.ensures.latest
    (lent_picks c.args.drive c.index_mut.result.now c.crash.new.self c.deref.result.now c.args.self.now.calls.items c.deref.ensures.value c.crash.ensures.picks)
    (ap start_blocks (with_items_is (with_item c.args.self.now.disks c.args.drive c.crash.new.self) c.settle_disks.new.disks (c.settle_disks.auto.disks ∙ c.deref_mut.ensures.len))
    ∙ c.settle_disks.ensures.start ∙ ap latest_blocks c.deref_mut.ensures.value)
    (ap latest_blocks (with_items_is (with_item c.args.self.now.disks c.args.drive c.crash.new.self) c.settle_disks.new.disks (c.settle_disks.auto.disks ∙ c.deref_mut.ensures.len))
    ∙ c.settle_disks.ensures.latest ∙ ap latest_blocks c.deref_mut.ensures.value)
    c.args.self.now.shows c.args.self.now.within c.begin_anew.new.calls.items c.begin_anew.new.told_before c.begin_anew.ensures.calls (c.begin_anew.ensures.told ∙ ap length c.deref-2.ensures.value) c.args.self.now.tells).sizes
