use Rattle.std.proofs.Common.{◌≡◌, subst, sym}
use Rattle.mdv_change.specs.declared.change.Change.{Change}
use Rattle.mdv_change.specs.Apply.{IsApplied, below_change, clear_change}
use Rattle.mdv_change.proofs.making.apply.Goals as goal

pub returns-in-Clear : goal.returns-in-Clear
returns-in-Clear c =
    let made = c.clear_named.ensures c.args.geometry.now c.args.drives.now in
    let same : clear_change c.as_slice-in-Clear.result.now c.as_slice-in-Clear-2.result.now ≡ c.args.change.now = cc (c.in-Clear.is, c.as_slice-in-Clear.ensures.value, c.as_slice-in-Clear-2.ensures.value) in
    subst (λ (x : Change). IsApplied c.args.geometry.now c.args.drives.now x c.args.table.now c.clear_named.new.table c.clear_named.result) same made

pub returns-in-MakeMirror : goal.returns-in-MakeMirror
returns-in-MakeMirror c =
    let made = c.make_mirror.ensures c.args.geometry.now c.args.drives.now in
    subst (λ (x : Change). IsApplied c.args.geometry.now c.args.drives.now x c.args.table.now c.make_mirror.new.table c.make_mirror.result) (sym c.in-MakeMirror.is) made

pub returns-in-Attach : goal.returns-in-Attach
returns-in-Attach c =
    let made = c.attach.ensures c.args.geometry.now c.args.drives.now in
    subst (λ (x : Change). IsApplied c.args.geometry.now c.args.drives.now x c.args.table.now c.attach.new.table c.attach.result) (sym c.in-Attach.is) made

pub returns-in-Detach : goal.returns-in-Detach
returns-in-Detach c =
    let made = c.detach.ensures c.args.geometry.now c.args.drives.now in
    subst (λ (x : Change). IsApplied c.args.geometry.now c.args.drives.now x c.args.table.now c.detach.new.table c.detach.result) (sym c.in-Detach.is) made

pub returns-in-Offline : goal.returns-in-Offline
returns-in-Offline c =
    let made = c.take_offline.ensures c.args.geometry.now c.args.drives.now in
    subst (λ (x : Change). IsApplied c.args.geometry.now c.args.drives.now x c.args.table.now c.take_offline.new.table c.take_offline.result) (sym c.in-Offline.is) made

pub returns-in-Online : goal.returns-in-Online
returns-in-Online c =
    let made = c.take_online.ensures c.args.geometry.now c.args.drives.now in
    subst (λ (x : Change). IsApplied c.args.geometry.now c.args.drives.now x c.args.table.now c.take_online.new.table c.take_online.result) (sym c.in-Online.is) made

pub returns-in-Grow : goal.returns-in-Grow
returns-in-Grow c =
    let made = c.grow.ensures c.args.drives.now in
    subst (λ (x : Change). IsApplied c.args.geometry.now c.args.drives.now x c.args.table.now c.grow.new.table c.grow.result) (sym c.in-Grow.is) made

pub returns-in-ClearBelow : goal.returns-in-ClearBelow
returns-in-ClearBelow c =
    let made = c.clear_below.ensures c.args.geometry.now c.args.drives.now in
    let same : below_change c.as_slice-in-ClearBelow.result.now c.as_slice-in-ClearBelow-2.result.now ≡ c.args.change.now = cc (c.in-ClearBelow.is, c.as_slice-in-ClearBelow.ensures.value, c.as_slice-in-ClearBelow-2.ensures.value) in
    subst (λ (x : Change). IsApplied c.args.geometry.now c.args.drives.now x c.args.table.now c.clear_below.new.table c.clear_below.result) same made
