-- The extents of all soft partitions on each base, by the base's number.
use Rattle.std.specs.Prelude.{◌≡◌, ◌↔◌, ◌==◌, ℕ, Bool, true, IsTrue, List, [], ◌++◌, Option, None, Some, Vec, if◌then◌else◌, All}
use Rattle.std.specs.BTreeMap.{BTreeMap, get}
use Rattle.std.specs.Ordering.{nat_cmp}
use Rattle.std.specs.declared.alloc.Global.{Global}
use Rattle.mdv_fitting.specs.Below.{Base, Slice, Volume, Geometry, LieApart, OneVolume, Plan, Run, VolumeKind, Soft, OneSoft, blocks_behind, slice_at, volume_blocks, volume_of}
use Rattle.mdv_fitting.specs.Keys.{base_key, kind_runs_at, runs_at}

abbrev pub RunMap : Type 0
RunMap = BTreeMap ℕ (Vec Run Global)

abbrev pub items_of : Option (Vec Run Global) → List Run
items_of None = []
items_of (Some v) = v.items

-- none where they were taken out
abbrev pub items_at : RunMap → ℕ → List Run
items_at m k = items_of (get nat_cmp m k)

abbrev pub AreRuns : List OneVolume → RunMap → Type 0
AreRuns vs m = (k : ℕ) → items_at m k ≡ runs_at k vs

-- with those of one volume more
abbrev pub HasRuns : RunMap → VolumeKind → RunMap → Type 0
HasRuns m kind n = (k : ℕ) → items_at n k ≡ items_at m k ++ kind_runs_at k kind

-- without those of one base
abbrev pub HasNoRuns : RunMap → ℕ → RunMap → Type 0
HasNoRuns m key n = (k : ℕ) → items_at n k ≡ (if key == k then [] else items_at m k)

-- how many blocks the base has from there on
abbrev pub size_from : Geometry → Plan → Base → ℕ → ℕ
size_from g p (Slice s) start = blocks_behind start (slice_at g.slices s)
size_from g p (Volume v) start = volume_blocks (volume_of p v)

abbrev pub soft_size : Geometry → Plan → OneSoft → ℕ
soft_size g p s = size_from g p s.base s.start

-- the extents on its base lie apart
abbrev pub IsSoftApart : Geometry → Plan → OneSoft → Type 0
IsSoftApart g p s = LieApart (soft_size g p s) (runs_at (base_key s.base) p.volumes)

abbrev pub IsKindApart : Geometry → Plan → VolumeKind → Type 0
IsKindApart g p (Soft s) = IsSoftApart g p s
IsKindApart g p _ = Unit {0}

abbrev pub IsVolumeApart : Geometry → Plan → OneVolume → Type 0
IsVolumeApart g p w = IsKindApart g p w.kind

-- soft partitions on one base find it as large
abbrev pub SameSize : Geometry → Plan → VolumeKind → VolumeKind → Type 0
SameSize g p (Soft s) (Soft t) = base_key s.base ≡ base_key t.base → soft_size g p s ≡ soft_size g p t
SameSize g p _ _ = Unit {0}

abbrev pub AreSameSize : Geometry → Plan → Type 0
AreSameSize g p = All (λ v. All (λ w. SameSize g p v.kind w.kind) p.volumes) p.volumes

-- what is told of a volume by the extents that are left, and which are left then
abbrev pub Judges : Geometry → Plan → RunMap → VolumeKind → RunMap → Bool → Type 0
Judges g p m (Soft s) n told = (IsTrue told ↔ LieApart (soft_size g p s) (items_at m (base_key s.base))) × HasNoRuns m (base_key s.base) n
Judges g p m _ n told = (told ≡ true) × ((k : ℕ) → items_at n k ≡ items_at m k)
