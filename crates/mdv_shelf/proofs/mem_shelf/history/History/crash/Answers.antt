use Rattle.std.proofs.Common.{◌∙◌, arith, ap, length}
use Rattle.std.proofs.lemmas.List.{with_items_is}
use Rattle.mdv_shelf.proofs.MemCrash.{moved, after_crash}
use Rattle.mdv_shelf.proofs.mem_shelf.history.History.crash.Goals as goal

pub invariant_of-self : goal.invariant_of-self
invariant_of-self c =
    let now = c.args.self.now in
    let done = after_crash c.args.self.now.disks.items _ c.args.self.now.calls.items c.begin_anew.new.calls.items c.args.self.now.told_before c.begin_anew.new.told_before c.args.self.now.told.items c.args.choice.now
    (moved c.args.self.now.disks.items c.deref_mut.result.now c.crash_disks.new.disks _ c.args.self.now.calls.items c.deref.result.now c.args.choice.now
    c.deref_mut.ensures.value c.deref.ensures.value (with_items_is c.args.self.now.disks c.crash_disks.new.disks (c.crash_disks.auto.disks ∙ c.deref_mut.ensures.len))
    (record { sizes = c.crash_disks.ensures.sizes; latest = c.crash_disks.ensures.latest; picks = c.crash_disks.ensures.picks }))
    c.begin_anew.ensures.calls (c.begin_anew.ensures.told ∙ ap length c.deref-2.ensures.value) c.args.self.now.within c.args.self.now.tells in
    record {
      few = omega (arith, now.few, done.number);
      before = omega (arith, c.begin_anew.ensures.told, ap length c.deref-2.ensures.value);
      shows = done.shows;
      within = done.within;
      tells = done.tells;
    }

pub returns-clause-tale : goal.returns-clause-tale
returns-clause-tale c = (after_crash c.args.self.now.disks.items _ c.args.self.now.calls.items c.begin_anew.new.calls.items c.args.self.now.told_before c.begin_anew.new.told_before c.args.self.now.told.items c.args.choice.now
    (moved c.args.self.now.disks.items c.deref_mut.result.now c.crash_disks.new.disks _ c.args.self.now.calls.items c.deref.result.now c.args.choice.now
    c.deref_mut.ensures.value c.deref.ensures.value (with_items_is c.args.self.now.disks c.crash_disks.new.disks (c.crash_disks.auto.disks ∙ c.deref_mut.ensures.len))
    (record { sizes = c.crash_disks.ensures.sizes; latest = c.crash_disks.ensures.latest; picks = c.crash_disks.ensures.picks }))
    c.begin_anew.ensures.calls (c.begin_anew.ensures.told ∙ ap length c.deref-2.ensures.value) c.args.self.now.within c.args.self.now.tells).tale

pub returns-clause-sizes : goal.returns-clause-sizes
returns-clause-sizes c = (after_crash c.args.self.now.disks.items _ c.args.self.now.calls.items c.begin_anew.new.calls.items c.args.self.now.told_before c.begin_anew.new.told_before c.args.self.now.told.items c.args.choice.now
    (moved c.args.self.now.disks.items c.deref_mut.result.now c.crash_disks.new.disks _ c.args.self.now.calls.items c.deref.result.now c.args.choice.now
    c.deref_mut.ensures.value c.deref.ensures.value (with_items_is c.args.self.now.disks c.crash_disks.new.disks (c.crash_disks.auto.disks ∙ c.deref_mut.ensures.len))
    (record { sizes = c.crash_disks.ensures.sizes; latest = c.crash_disks.ensures.latest; picks = c.crash_disks.ensures.picks }))
    c.begin_anew.ensures.calls (c.begin_anew.ensures.told ∙ ap length c.deref-2.ensures.value) c.args.self.now.within c.args.self.now.tells).sizes
