use Rattle.std.proofs.Common.{List, take, slice_index_or, sym, subst}
use Rattle.std.proofs.lemmas.List.{take_more}
use Rattle.std.proofs.lemmas.List.Elements.{Contains-get_or}
use Rattle.mdv_base.specs.declared.drive.DriveNo.{DriveNo}
use Rattle.mdv_look.specs.Peeking.{AreAllOf}
use Rattle.mdv_look.proofs.Peeks.{all_more, all_none}
use Rattle.mdv_look.proofs.peeking.set_of.Goals as goal

pub loop-drive-init : goal.loop-drive-init
loop-drive-init c = all_none c.new-set.result c.new-set.ensures.none

pub insert-requires : goal.insert-requires
insert-requires c = c.requires _ (Contains-get_or c.args.drives.now c.loop-drive.drive-index (record { 0 = 0 }) c.loop-drive-test.true)

pub loop-drive-preserved : goal.loop-drive-preserved
loop-drive-preserved c =
    let drives = c.args.drives.now in
    let drive : DriveNo = slice_index_or drives c.loop-drive.drive-index (record { 0 = 0 }) in
    let front = take c.loop-drive.drive-index drives in
    subst (λ (ds : List DriveNo). AreAllOf ds c.insert.new.self) (sym (take_more drives c.loop-drive.drive-index (record { 0 = 0 }) c.loop-drive-test.true))
    (all_more front drive c.loop-drive.set c.insert.new.self c.loop-drive.invariant c.insert.ensures.added c.insert.ensures.others)
