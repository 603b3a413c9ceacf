-- How soft partitions lie on their bases.
use Rattle.std.specs.Prelude.{◌≡◌, ℕ, Bool, true, ◌==◌, All}
use Rattle.mdv_fitting.specs.Below.{Geometry, Lists, Plan, Base, Slice, Volume, OneSoft, OneVolume, VolumeKind, Soft, LieApart, runs_on, size_on, slice_at, start_on}
use Rattle.mdv_fitting.specs.Parts.{may_start_at}

-- on a slice extents are counted from where a component may begin, on a volume from its first block
abbrev pub may_count : Geometry → Lists → Base → ℕ → Bool
may_count g lists (Slice s) start = may_start_at lists s start (slice_at g.slices s)
may_count g lists (Volume v) start = start == 0

abbrev pub is_kind_counted : Geometry → Lists → VolumeKind → Bool
is_kind_counted g lists (Soft s) = may_count g lists s.base s.start
is_kind_counted g lists _ = true

abbrev pub is_counted : Geometry → Lists → OneVolume → Bool
is_counted g lists w = is_kind_counted g lists w.kind

-- all on its base are counted from one block, and their extents lie apart with their headers, within the base
pub record IsOnBase (g : Geometry) (p : Plan) (s : OneSoft) : Type 0 where
  pub counted : may_count g p.lists s.base s.start ≡ true
  pub together : start_on g p s.base ≡ s.start
  pub apart : LieApart (size_on g p s.base) (runs_on s.base p)

abbrev pub IsKindOnBase : Geometry → Plan → VolumeKind → Type 0
IsKindOnBase g p (Soft s) = IsOnBase g p s
IsKindOnBase g p _ = Unit {0}

abbrev pub IsVolumeOnBase : Geometry → Plan → OneVolume → Type 0
IsVolumeOnBase g p w = IsKindOnBase g p w.kind

abbrev pub AreOnBases : Geometry → Plan → Type 0
AreOnBases g p = All (IsVolumeOnBase g p) p.volumes
