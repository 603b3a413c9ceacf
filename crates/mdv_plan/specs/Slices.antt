-- What a table of drives says of its slices, and which new uses of a slice clash with those that there are.
use Rattle.std.specs.Prelude.{◌≡◌, ◌<◌, ◌+◌, ◌==◌, ◌&&◌, ℕ, Bool, true, false, not, nat_lt, List, length, slice_index_or, Option, None, Some, if◌then◌else◌}
use Rattle.std.specs.List.{list_any}
use Rattle.mdv_plan.specs.Below.{DriveName, SliceName, Geometry, SliceAt, SliceLine}
use Rattle.mdv_plan.specs.Uses.{same_slice}
use Rattle.mdv_plan.specs.declared.clash.Asked.{Asked}
use Rattle.mdv_plan.specs.declared.clash.Asked.TheVariants.{ReplicasTo, OneComponent, Extents, OneSpare}
use Rattle.mdv_plan.specs.declared.uses.SliceUse.{SliceUse}
use Rattle.mdv_plan.specs.declared.uses.User.{User}
use Rattle.mdv_plan.specs.declared.uses.User.TheVariants.{Replica, Component, Extent, Spare}
pub use Rattle.mdv_name.specs.SliceIndex.{HasSlice, slice_at}
pub use Rattle.mdv_name.specs.Sound.{IsSound, IsSoundSlice}

-- they lie on one drive and share a block, as each slice does with itself
abbrev pub share_a_block : SliceAt → SliceAt → Bool
share_a_block a b = (a.drive.0 == b.drive.0) && (nat_lt a.start (b.start + b.blocks) && nat_lt b.start (a.start + a.blocks))

abbrev pub overlap_at : Option SliceAt → Option SliceAt → Bool
overlap_at (Some a) (Some b) = share_a_block a b
overlap_at (Some a) None = false
overlap_at None b = false

-- the slices of these names share a block
abbrev pub overlap : Geometry → SliceName → SliceName → Bool
overlap g m n = overlap_at (slice_at g.slices m) (slice_at g.slices n)

abbrev pub same_drive : DriveName → DriveName → Bool
same_drive a b = (a.target == b.target && a.disk == b.disk) && a.controller == b.controller

-- the slice of this number on the same drive
abbrev pub beside : SliceName → ℕ → SliceName
beside name number = record { drive = name.drive; slice = number }

-- for each number of a slice, whether that one of its drive shares a block with the slice
pub record AreNeighbours (g : Geometry) (name : SliceName) (marks : List Bool) : Type 0 where
  pub size : length marks ≡ 8
  pub marked : (i : ℕ) → i < 8 → slice_index_or marks i false ≡ overlap g (beside name i) name

-- What may stand beside a use of the same slice: other uses behind replicas, several soft partitions, and one spare in several pools. Replicas may be
-- put in front of another use where they end at its start or before.
abbrev pub can_share : Asked → User → ℕ → Bool
can_share (ReplicasTo end) Replica start = false
can_share (ReplicasTo end) _ start = not (nat_lt start end)
can_share OneComponent Replica start = true
can_share OneComponent _ start = false
can_share Extents Replica start = true
can_share Extents (Component v) start = false
can_share Extents (Extent v) start = true
can_share Extents (Spare p) start = false
can_share OneSpare Replica start = true
can_share OneSpare (Component v) start = false
can_share OneSpare (Extent v) start = false
can_share OneSpare (Spare p) start = true

-- a use that stands in the way: of the same slice one that can't share it, of another slice any where the slices overlap
abbrev pub clashes_with : Geometry → Asked → SliceName → SliceUse → Bool
clashes_with g asked name u = if same_slice u.slice name then not (can_share asked u.by u.start) else overlap g u.slice name

abbrev pub clashes : Geometry → Asked → SliceName → List SliceUse → Bool
clashes g asked name uses = list_any (clashes_with g asked name) uses

-- the slice is there, and set aside for replicas
pub record IsDb (g : Geometry) (name : SliceName) : Type 0 where
  pub at : SliceAt
  pub has : HasSlice g.slices name at
  pub db : at.db ≡ true

-- another slice that overlaps it is set aside for replicas
abbrev pub is_other_db : Geometry → SliceName → SliceLine → Bool
is_other_db g name line = (line.at.db && not (same_slice line.name name)) && overlap g line.name name

abbrev pub meets_db : Geometry → SliceName → Bool
meets_db g name = list_any (is_other_db g name) g.slices
