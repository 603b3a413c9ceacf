-- How drives and slices are spelled.
use Rattle.std.specs.Prelude.{◌≡◌, ◌<◌, ◌⊎◌, ℕ, false, List, ◌++◌, codes, decimal}
use Rattle.mdv_base.specs.declared.drive.DriveName.{DriveName}
use Rattle.mdv_base.specs.declared.drive.SliceName.{SliceName}
use Rattle.mdv_text.specs.Numeral.{begins_with_digit}

pub record IsDriveName (d : DriveName) : Type 0 where
  pub controller : d.controller < 256
  pub target : d.target < 256
  pub disk : d.disk < 256

pub record IsSliceName (s : SliceName) : Type 0 where
  pub drive : IsDriveName s.drive
  pub slice : s.slice < 8

-- as `c0t12d3`
abbrev pub drive_text : DriveName → List ℕ
drive_text d = codes "c" ++ decimal d.controller ++ codes "t" ++ decimal d.target ++ codes "d" ++ decimal d.disk

-- as `c0t12d3s7`
abbrev pub slice_text : SliceName → List ℕ
slice_text s = drive_text s.drive ++ codes "s" ++ decimal s.slice

-- plain, or as a device
abbrev pub SpellsSlice : SliceName → List ℕ → Type 0
SpellsSlice s text = (text ≡ slice_text s) ⊎ ((text ≡ codes "/dev/dsk/" ++ slice_text s) ⊎ (text ≡ codes "/dev/rdsk/" ++ slice_text s))

-- the drive is spelled at the text's front, all digits of its last number included
pub record BeginsWithDrive (text : List ℕ) (d : DriveName) (rest : List ℕ) : Type 0 where
  pub form : IsDriveName d
  pub spelled : text ≡ drive_text d ++ rest
  pub ended : begins_with_digit rest ≡ false
