use Rattle.std.proofs.Common.{◌≡◌, ◌≢◌, ◌+◌, List, ℕ, Bool, take, slice_index_or, refl, sym, subst, arith}
use Rattle.std.proofs.lemmas.List.{take_more}
use Rattle.std.proofs.lemmas.List.Elements.{Contains-get_or}
use Rattle.mdv_base.specs.declared.drive.DriveNo.{DriveNo}
use Rattle.mdv_base.specs.declared.drive.Failed.{Failed}
use Rattle.mdv_base.specs.DriveSet.{Drives, has_drive}
use Rattle.mdv_shelf.specs.Calls.{InDrive}
use Rattle.mdv_look.proofs.Bringing.{SoFar, Tried, fresh_at, so_far_more, so_far_none, tried_badly, tried_well}
use Rattle.mdv_look.proofs.drives.bring_up.Goals as goal
use Rattle.mdv_look.proofs.drives.bring_up.Goals.{in-Ok, in-Err}

pub loop-drive-init : goal.loop-drive-init
loop-drive-init g c = so_far_none g.S.Shelf c.args.shelf.now c.new-up.result c.new-up.ensures.none

pub try_drive-requires : goal.try_drive-requires
try_drive-requires g c =
    subst (λ (sizes : List ℕ). InDrive sizes (slice_index_or c.args.drives.now c.loop-drive.drive-index (record { 0 = 0 })).0 0 1) (sym c.loop-drive.invariant.kept.keeps.same_sizes)
    (c.requires.each _ (Contains-get_or c.args.drives.now c.loop-drive.drive-index (record { 0 = 0 }) c.loop-drive-test.true))

pub insert-requires : goal.insert-requires
insert-requires g c =
    let there = (c.requires.each _ (Contains-get_or c.args.drives.now c.loop-drive.drive-index (record { 0 = 0 }) c.loop-drive-test.true)).known in
    omega (arith, there, c.requires.few)

pub loop-drive-preserved : goal.loop-drive-preserved
loop-drive-preserved g c =
    let drives = c.args.drives.now in
    let drive : DriveNo = slice_index_or drives c.loop-drive.drive-index (record { 0 = 0 }) in
    let front = take c.loop-drive.drive-index drives in
    let fresh = fresh_at drives c.loop-drive.drive-index (record { 0 = 0 }) c.requires.once c.loop-drive-test.true in
    let more : (later : Drives) → Tried g.S.Shelf c.loop-drive.shelf c.try_drive.new.shelf drive (has_drive later drive) → ((other : DriveNo) → other ≢ drive → has_drive later other ≡ has_drive c.loop-drive.up other)
    → SoFar g.S.Shelf c.args.shelf.now c.try_drive.new.shelf (take (c.loop-drive.drive-index + 1) drives) later =
    λ later tried same. subst (λ (ds : List DriveNo). SoFar g.S.Shelf c.args.shelf.now c.try_drive.new.shelf ds later) (sym (take_more drives c.loop-drive.drive-index (record { 0 = 0 }) c.loop-drive-test.true))
    (so_far_more g.S.Shelf c.args.shelf.now c.loop-drive.shelf c.try_drive.new.shelf front drive c.loop-drive.up later fresh c.loop-drive.invariant tried same) in
    elim c.match-try_drive.branch [
      | in-Ok w ↦ let tried = tried_well g.S.Shelf c.loop-drive.shelf c.try_drive.new.shelf drive w.in-Ok.ensures.kept {T = Unit {0}} {E = Failed} w.in-Ok.field-0 w.in-Ok.ensures.cause w.in-Ok.ensures.tale w.in-Ok.ensures.counted in
          rw w.up-is (more w.insert.new.self (subst (λ (b : Bool). Tried g.S.Shelf c.loop-drive.shelf c.try_drive.new.shelf drive b) (sym w.insert.ensures.added) tried) w.insert.ensures.others)
      | in-Err w ↦ let tried = tried_badly g.S.Shelf c.loop-drive.shelf c.try_drive.new.shelf drive w.in-Err.ensures.kept {T = Unit {0}} {E = Failed} w.in-Err.field-0 w.in-Err.ensures.cause w.in-Err.ensures.tale w.in-Err.ensures.counted in
          rw w.up-is (more c.loop-drive.up (subst (λ (b : Bool). Tried g.S.Shelf c.loop-drive.shelf c.try_drive.new.shelf drive b) (sym (c.loop-drive.invariant.ups.others drive fresh)) tried) (λ other apart. refl))
    ]
