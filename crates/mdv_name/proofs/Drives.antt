-- The parts of a drive's text, one behind the other.
use Rattle.std.proofs.Common.{◌≡◌, ℕ, false, refl, sym, ◌∙◌, ap, subst, List, [], ◌∷◌, ◌++◌, append_assoc, append-nil, length, Bool, ◌==◌, arith, decimal}
use Rattle.mdv_base.specs.declared.drive.DriveName.{DriveName}
use Rattle.mdv_base.specs.declared.drive.SliceName.{SliceName}
use Rattle.mdv_name.specs.Numeral.{BeginsWithPart}
use Rattle.mdv_name.specs.Drive.{IsDriveName, IsSliceName, drive_text, slice_text, BeginsWithDrive}
use Rattle.mdv_name.proofs.Numerals.{one_part}

-- what follows the target, and what follows the controller
abbrev pub disk_on : DriveName → List ℕ → List ℕ
disk_on d rest = 100 ∷ (decimal d.disk ++ rest)

abbrev pub target_on : DriveName → List ℕ → List ℕ
target_on d rest = 116 ∷ (decimal d.target ++ disk_on d rest)

pub record DriveParts (t : List ℕ) (d : DriveName) (rest : List ℕ) : Type 0 where
  pub controller : BeginsWithPart 99 t d.controller (target_on d rest)
  pub target : BeginsWithPart 116 (target_on d rest) d.target (disk_on d rest)
  pub disk : BeginsWithPart 100 (disk_on d rest) d.disk rest

drive_text-append : (d : DriveName) (rest : List ℕ) → drive_text d ++ rest ≡ 99 ∷ (decimal d.controller ++ target_on d rest)
drive_text-append d rest = simp append_assoc

pub drive_parts : (t : List ℕ) (d : DriveName) (rest : List ℕ) → BeginsWithDrive t d rest → DriveParts t d rest
drive_parts t d rest front =
    record {
      controller = record { fits = front.form.controller; spelled = front.spelled ∙ drive_text-append d rest; ended = refl };
      target = record { fits = front.form.target; spelled = refl; ended = refl };
      disk = record { fits = front.form.disk; spelled = refl; ended = front.ended };
    }

-- three parts that follow one another are a drive
pub drive_from_parts : (t u v rest : List ℕ) (d : DriveName) → BeginsWithPart 99 t d.controller u → BeginsWithPart 116 u d.target v → BeginsWithPart 100 v d.disk rest → BeginsWithDrive t d rest
drive_from_parts t u v rest d first second third =
    record {
      form = record { controller = first.fits; target = second.fits; disk = third.fits };
      spelled = first.spelled ∙ ap (λ (l : List ℕ). 99 ∷ (decimal d.controller ++ l)) (second.spelled ∙ ap (λ (l : List ℕ). 116 ∷ (decimal d.target ++ l)) third.spelled) ∙ sym (drive_text-append d rest);
      ended = third.ended;
    }

-- a text begins with one drive at most
pub one_drive : (t : List ℕ) (d e : DriveName) (r s : List ℕ) → BeginsWithDrive t d r → BeginsWithDrive t e s → (d ≡ e) × (r ≡ s)
one_drive t d e r s first second =
    let a = drive_parts t d r first in
    let b = drive_parts t e s second in
    let controller = one_part 99 t d.controller e.controller (target_on d r) (target_on e s) a.controller b.controller in
    let target_again : BeginsWithPart 116 (target_on d r) e.target (disk_on e s) = subst (λ (l : List ℕ). BeginsWithPart 116 l e.target (disk_on e s)) (sym controller.1) b.target in
    let target = one_part 116 (target_on d r) d.target e.target (disk_on d r) (disk_on e s) a.target target_again in
    let disk_again : BeginsWithPart 100 (disk_on d r) e.disk s = subst (λ (l : List ℕ). BeginsWithPart 100 l e.disk s) (sym target.1) b.disk in
    let disk = one_part 100 (disk_on d r) d.disk e.disk r s a.disk disk_again in
    (λ i. record { controller = controller.0 i; target = target.0 i; disk = disk.0 i }, disk.1)

-- what follows a slice's drive
abbrev pub slice_on : SliceName → List ℕ
slice_on s = 115 ∷ (decimal s.slice ++ [])

pub record SliceParts (t : List ℕ) (s : SliceName) : Type 0 where
  pub drive : BeginsWithDrive t s.drive (slice_on s)
  pub slice : BeginsWithPart 115 (slice_on s) s.slice []

pub whole_drive : (t : List ℕ) (d : DriveName) → IsDriveName d → t ≡ drive_text d → BeginsWithDrive t d []
whole_drive t d form is = record { form = form; spelled = is ∙ sym (append-nil (drive_text d)); ended = refl }

pub slice_parts : (t : List ℕ) (s : SliceName) → IsSliceName s → t ≡ slice_text s → SliceParts t s
slice_parts t s form is =
    record {
      drive = record {
        form = form.drive;
        spelled = is ∙ append_assoc (drive_text s.drive) (115 ∷ []) (decimal s.slice) ∙ ap (λ (l : List ℕ). drive_text s.drive ++ 115 ∷ l) (sym (append-nil (decimal s.slice)));
        ended = refl;
      };
      slice = record { fits = omega (arith, form.slice); spelled = refl; ended = refl };
    }

pub drive_text_injective : (d e : DriveName) → IsDriveName d → IsDriveName e → drive_text d ≡ drive_text e → d ≡ e
drive_text_injective d e first second is = (one_drive (drive_text d) d e [] [] (whole_drive (drive_text d) d first refl) (whole_drive (drive_text d) e second is)).0

pub slice_text_injective : (s t : SliceName) → IsSliceName s → IsSliceName t → slice_text s ≡ slice_text t → s ≡ t
slice_text_injective s t first second is =
    let a = slice_parts (slice_text s) s first refl in
    let b = slice_parts (slice_text s) t second is in
    let drive = one_drive (slice_text s) s.drive t.drive (slice_on s) (slice_on t) a.drive b.drive in
    let again : BeginsWithPart 115 (slice_on s) t.slice [] = subst (λ (l : List ℕ). BeginsWithPart 115 l t.slice []) (sym drive.1) b.slice in
    let slice = one_part 115 (slice_on s) s.slice t.slice [] [] a.slice again in
    λ i. record { drive = drive.0 i; slice = slice.0 i }

-- what tests as not empty isn't
pub never_empty : (rest : List ℕ) (empty : Bool) → empty ≡ (length rest == 0) → empty ≡ false → rest ≡ [] → ⊥
never_empty rest empty test refused is = let yes : (length rest == 0) ≡ (length {A = ℕ} [] == 0) = ap (λ (l : List ℕ). length l == 0) is in cc
