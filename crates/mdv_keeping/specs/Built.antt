-- The changes that the program makes yet, and those that name a slice which is set aside for replicas.
use Rattle.std.specs.Prelude.{◌≡◌, ◌<◌, Bool, false, None, Option, Some, All}
use Rattle.std.specs.List.{list_any}
use Rattle.mdv_keeping.specs.Below.{AddRow, Base, Change, Clear, ClearAll, ClearBelow, Geometry, MakeStripe, RowAsked, Slice, SliceAt, Volume, slice_at}

abbrev pub IsSlice : Base → Type 0
IsSlice (Slice slice) = Unit {0}
IsSlice (Volume volume) = ⊥

-- a row of slices
abbrev pub IsOfSlices : RowAsked → Type 0
IsOfSlices asked = All IsSlice asked.components

-- a volume of rows of slices, without spares, a row of slices more for one, and the clearing of volumes and pools
abbrev pub IsBuilt : Change → Type 0
IsBuilt (MakeStripe volume rows pool) = (volume.0 < 8192) × (pool ≡ None) × All IsOfSlices rows
IsBuilt (AddRow volume row) = IsOfSlices row
IsBuilt (Clear volumes pools) = Unit {0}
IsBuilt (ClearBelow volumes pools) = Unit {0}
IsBuilt ClearAll = Unit {0}
IsBuilt other = ⊥

abbrev pub is_db_at : Option SliceAt → Bool
is_db_at None = false
is_db_at (Some at) = at.db

-- a slice that is set aside for replicas
abbrev pub is_db : Geometry → Base → Bool
is_db g (Slice slice) = is_db_at (slice_at g.slices slice)
is_db g (Volume volume) = false

abbrev pub has_db : Geometry → RowAsked → Bool
has_db g asked = list_any (is_db g) asked.components

-- one of the slices that a built change names is set aside for replicas
abbrev pub names_db : Geometry → Change → Bool
names_db g (MakeStripe volume rows pool) = list_any (has_db g) rows
names_db g (AddRow volume row) = has_db g row
names_db g other = false
