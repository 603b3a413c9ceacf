-- How volumes and pools are spelled.
use Rattle.std.specs.Prelude.{◌≡◌, ◌<◌, ◌+◌, ◌/◌, ◌%◌, ◌⊎◌, ℕ, Option, None, Some, List, [], ◌∷◌}
use Rattle.std.specs.Prelude.{◌++◌, codes, decimal}
use Rattle.mdv_base.specs.Name.{IsName}
use Rattle.mdv_name.specs.declared.volume.VolName.{VolName}
use Rattle.mdv_name.specs.declared.volume.PoolName.{PoolName}

abbrev pub IsSetName : Option (List ℕ) → Type 0
IsSetName None = Unit {0}
IsSetName (Some set) = IsName set

pub record IsVolName (v : VolName) : Type 0 where
  pub set : IsSetName v.set
  pub volume : v.volume.0 < 8192

pub record IsPoolName (p : PoolName) : Type 0 where
  pub set : IsSetName p.set
  pub pool : p.pool.0 < 1000

-- a set's name and the stroke behind it, where there is a set
abbrev pub set_text : Option (List ℕ) → List ℕ
set_text None = []
set_text (Some set) = set ++ codes "/"

-- as `d12`
abbrev pub number_text : ℕ → List ℕ
number_text n = codes "d" ++ decimal n

-- as `d12` or `blue/d12`
abbrev pub volume_text : VolName → List ℕ
volume_text v = set_text v.set ++ number_text v.volume.0

-- below `/dev/md/`, a volume's number stands in a directory `dsk` or `rdsk`
abbrev pub SpellsInDirectory : ℕ → List ℕ → Type 0
SpellsInDirectory n path = (path ≡ codes "dsk/" ++ number_text n) ⊎ (path ≡ codes "rdsk/" ++ number_text n)

-- as `dsk/d12` or `blue/rdsk/d12`
abbrev pub SpellsDevice : VolName → List ℕ → Type 0
SpellsDevice v path = (directory : List ℕ) × SpellsInDirectory v.volume.0 directory × (path ≡ set_text v.set ++ directory)

-- plain, or as a device
abbrev pub SpellsVolume : VolName → List ℕ → Type 0
SpellsVolume v text = (text ≡ volume_text v) ⊎ ((path : List ℕ) × SpellsDevice v path × (text ≡ codes "/dev/md/" ++ path))

abbrev pub three_digits : ℕ → List ℕ
three_digits n = (48 + n / 100) ∷ (48 + n / 10 % 10) ∷ (48 + n % 10) ∷ []

-- as `hsp007`
abbrev pub pool_number_text : ℕ → List ℕ
pool_number_text n = codes "hsp" ++ three_digits n

-- as `hsp007` or `blue/hsp007`
abbrev pub pool_text : PoolName → List ℕ
pool_text p = set_text p.set ++ pool_number_text p.pool.0
