-- The line of a drive at its place.
use Rattle.std.proofs.Common.{◌≡◌, ◌≤◌, ◌+◌, ℕ, refl, sym, ◌∙◌, ap, subst, List, get_or, Option, None, Some}
use Rattle.std.proofs.lemmas.Option.{get_or_from_slice_get}
use Rattle.std.specs.Prelude.{slice_get}
use Rattle.std.specs.Option.{option_map}
use Rattle.mdv_base.specs.declared.drive.DriveName.{DriveName}
use Rattle.mdv_name.specs.declared.drive_line.DriveLine.{DriveLine}
use Rattle.mdv_name.specs.declared.entry.SliceEntry.{SliceEntry}
use Rattle.mdv_name.specs.declared.geometry.Geometry.{Geometry}
use Rattle.mdv_name.specs.DriveIndex.{IsDriveAt, drive_of, named_drive}
use Rattle.mdv_name.specs.Geometry.{IsFreshSlice}
use Rattle.mdv_name.proofs.Places.{slice_get-map}

pub record LineAt (lines : List DriveLine) (n : ℕ) (name : DriveName) : Type 0 where
  pub line : DriveLine
  pub place : slice_get lines n ≡ Some line
  pub named : drive_of line.kind ≡ Some name

mapped : (o : Option DriveLine) (name : DriveName) → option_map named_drive o ≡ Some (Some name) → (l : DriveLine) × (o ≡ Some l) × (drive_of l.kind ≡ Some name)
mapped None name is = cc
mapped (Some l) name is = (l, refl, cc)

pub line_at : (lines : List DriveLine) (n : ℕ) (name : DriveName) → IsDriveAt lines n name → LineAt lines n name
line_at lines n name at =
    let m = mapped (slice_get lines n) name (sym (slice_get-map named_drive lines n) ∙ at) in
    record { line = m.0; place = m.1; named = m.2 }

pub at_line : (lines : List DriveLine) (n : ℕ) (name : DriveName) (line : DriveLine) → slice_get lines n ≡ Some line → drive_of line.kind ≡ Some name → IsDriveAt lines n name
at_line lines n name line place named = slice_get-map named_drive lines n ∙ ap (option_map named_drive) place ∙ ap (λ (o : Option DriveName). Some o) named

-- what a fresh slice's drive is, where the drive's place is known
pub fresh_blocks : (g : Geometry) (s : SliceEntry) (m n : ℕ) (read : DriveLine) → IsFreshSlice g s m → ((k : ℕ) → IsDriveAt g.drives k s.name.drive → k ≡ n) → read ≡ get_or g.drives n read → s.start + s.blocks ≤ read.blocks
fresh_blocks g s m n read fresh only is =
    let same : m ≡ n = only m (at_line g.drives m s.name.drive fresh.line fresh.place fresh.named) in
    let line : read ≡ fresh.line = is ∙ ap (λ (k : ℕ). get_or g.drives k read) (sym same) ∙ get_or_from_slice_get g.drives m fresh.line read fresh.place in
    subst (λ (l : DriveLine). s.start + s.blocks ≤ l.blocks) (sym line) fresh.within
