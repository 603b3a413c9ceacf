-- The texts of names.
use Rattle.std.specs.Prelude.{◌<◌, ℕ, Bool, false, true, List, [], ◌∷◌, ◌++◌, length, Option, None, Some, IfSome}
use Rattle.mdv_fields.specs.Numbers.{u16_text}
use Rattle.mdv_base.specs.Name.{IsName}
use Rattle.mdv_fields.specs.Below.{DriveName, SliceName, VolId, PoolId}

-- a byte each
abbrev pub drive_text : DriveName → List ℕ
drive_text d = d.controller ∷ d.target ∷ d.disk ∷ []

abbrev pub DriveFits : DriveName → Type 0
DriveFits d = (d.controller < 256) × ((d.target < 256) × (d.disk < 256))

unfoldable pub slice_text : SliceName → List ℕ
slice_text s = drive_text s.drive ++ s.slice ∷ []

abbrev pub SliceFits : SliceName → Type 0
SliceFits s = DriveFits s.drive × (s.slice < 256)

abbrev pub volume_id_text : VolId → List ℕ
volume_id_text v = u16_text v.0

-- d0 to d8191
abbrev pub VolumeIdFits : VolId → Type 0
VolumeIdFits v = v.0 < 8192

abbrev pub pool_id_text : PoolId → List ℕ
pool_id_text p = u16_text p.0

-- hsp000 to hsp999
abbrev pub PoolIdFits : PoolId → Type 0
PoolIdFits p = p.0 < 1000

-- a flag and a number, both zero without a pool
abbrev pub pool_flag : Option PoolId → ℕ
pool_flag None = 0
pool_flag (Some p) = 1

abbrev pub pool_number : Option PoolId → ℕ
pool_number None = 0
pool_number (Some p) = p.0

abbrev pub pool_text : Option PoolId → List ℕ
pool_text o = pool_flag o ∷ u16_text (pool_number o)

abbrev pub PoolFits : Option PoolId → Type 0
PoolFits o = IfSome o PoolIdFits

abbrev pub flag_text : Bool → List ℕ
flag_text false = 0 ∷ []
flag_text true = 1 ∷ []

-- a byte of length and the bytes, none where nothing is named
abbrev pub name_text : List ℕ → List ℕ
name_text bytes = length bytes ∷ bytes

abbrev pub owner_text : Option (List ℕ) → List ℕ
owner_text None = 0 ∷ []
owner_text (Some name) = name_text name

abbrev pub OwnerFits : Option (List ℕ) → Type 0
OwnerFits o = IfSome o IsName
