use Rattle.std.proofs.Common.{◌∙◌, List, take, slice_index_or, sym, subst}
use Rattle.std.proofs.lemmas.List.{take_more}
use Rattle.std.proofs.lemmas.List.Elements.{Contains-get_or}
use Rattle.mdv_base.specs.DriveSet.{has_drive}
use Rattle.mdv_base.specs.declared.drive.DriveNo.{DriveNo}
use Rattle.mdv_look.specs.Looking.{AreLeftOf}
use Rattle.mdv_look.proofs.Looks.{left_in, left_out, yes_not, up_not, failed_not}
use Rattle.mdv_look.proofs.looking.left_of.Goals as goal
use Rattle.mdv_look.proofs.looking.left_of.Goals.{then-contains+then-not-contains, else-contains, else-contains-via-then-contains+else-not-contains, else-contains-via-else-contains}

pub insert-requires : goal.insert-requires
insert-requires c = c.requires _ (Contains-get_or c.args.drives.now c.loop-drive.drive-index (record { 0 = 0 }) c.loop-drive-test.true)

pub loop-drive-preserved : goal.loop-drive-preserved
loop-drive-preserved c =
    let drives = c.args.drives.now in
    let drive : DriveNo = slice_index_or drives c.loop-drive.drive-index (record { 0 = 0 }) in
    let front = take c.loop-drive.drive-index drives in
    let up = c.args.up.now in
    let failed = c.args.failed.now in
    subst (λ (ds : List DriveNo). AreLeftOf ds up failed c.if-contains.left) (sym (take_more drives c.loop-drive.drive-index (record { 0 = 0 }) c.loop-drive-test.true))
    (elim c.if-contains.branch [
      | then-contains+then-not-contains w ↦ rw w.left-is (left_in front drive up failed c.loop-drive.left c.loop-drive.invariant w.insert.new.self
          (yes_not (has_drive up drive) (has_drive failed drive) (sym c.contains.ensures ∙ w.if-contains.true) (sym w.contains-then-contains.ensures ∙ w.if-not-contains.true)) w.insert.ensures.added w.insert.ensures.others)
      | else-contains w ↦ rw w.left-is (left_out front drive up failed c.loop-drive.left c.loop-drive.invariant (elim w.else-contains.branch [
        | else-contains-via-then-contains+else-not-contains v ↦ failed_not (has_drive up drive) (has_drive failed drive) (sym v.contains-then-contains.ensures ∙ v.if-not-contains.false)
        | else-contains-via-else-contains v ↦ up_not (has_drive up drive) (has_drive failed drive) (sym c.contains.ensures ∙ v.if-contains.false)
      ]))
    ])
