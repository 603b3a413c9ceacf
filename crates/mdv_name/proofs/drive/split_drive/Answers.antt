use Rattle.std.proofs.Common.{ℕ, List, subst, sym}
use Rattle.mdv_name.specs.Numeral.{BeginsWithPart}
use Rattle.mdv_name.proofs.Numerals.{one_part}
use Rattle.mdv_name.proofs.Drives.{drive_parts, target_on, disk_on}
use Rattle.mdv_name.proofs.drive.split_drive.Goals as goal

pub returns-in_err-target-clause-none : goal.returns-in_err-target-clause-none
returns-in_err-target-clause-none c =
    rw c.from_residual-in_err-target.ensures (λ d rest front.
    let parts = drive_parts _ d rest front in
    let controller = one_part 99 _ _ d.controller _ (target_on d rest) c.in_ok-controller.ensures.value parts.controller in
    c.in_err-target.ensures.none d.target (disk_on d rest) (subst (λ (l : List ℕ). BeginsWithPart 116 l d.target (disk_on d rest)) (sym controller.1) parts.target))

pub returns-in_err-disk-clause-none : goal.returns-in_err-disk-clause-none
returns-in_err-disk-clause-none c =
    rw c.from_residual-in_err-disk.ensures (λ d rest front.
    let parts = drive_parts _ d rest front in
    let controller = one_part 99 _ _ d.controller _ (target_on d rest) c.in_ok-controller.ensures.value parts.controller in
    let target = one_part 116 _ _ d.target _ (disk_on d rest) c.in_ok-target.ensures.value (subst (λ (l : List ℕ). BeginsWithPart 116 l d.target (disk_on d rest)) (sym controller.1) parts.target) in
    c.in_err-disk.ensures.none d.disk rest (subst (λ (l : List ℕ). BeginsWithPart 100 l d.disk rest) (sym target.1) parts.disk))
