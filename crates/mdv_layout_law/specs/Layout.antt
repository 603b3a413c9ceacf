-- Where the volumes of a plan lie: the map of each of them.
use Rattle.std.specs.Prelude.{◌≡◌, ℕ, ◌+◌, ◌-◌, Option, None, Some, List, map, if◌then◌else◌}
use Rattle.mdv_layout_law.specs.Below.{Base, Component, Geometry, Map, Mirror, OneSoft, OneVolume, Plan, Raid, Row, Slice, SliceAt, SliceName, Soft, Stripe, Table, VolId, Volume, VolumeKind, has_parent, no_map, run_map, slice_at, soft_on, striped, volume_of}
use Rattle.mdv_layout_law.specs.Chained.{chained, front_map}

-- so many blocks of a slice, from that one on
abbrev pub at_map : Option SliceAt → ℕ → ℕ → Map
at_map None first count = no_map
at_map (Some at) first count = run_map at.drive.0 (at.start + first) count

-- how many blocks a slice has from that one on
abbrev pub blocks_behind : ℕ → Option SliceAt → ℕ
blocks_behind first None = 0
blocks_behind first (Some at) = at.blocks - first

-- a soft partition on a slice: its extents are counted from its start
abbrev pub on_slice : Geometry → SliceName → OneSoft → Map
on_slice g slice soft = soft_on (at_map (slice_at g.slices slice) soft.start (blocks_behind soft.start (slice_at g.slices slice))) soft.extents

-- one that lies on a slice, and nothing where it lies on a volume
abbrev pub leaf_on : Geometry → OneSoft → Base → Map
leaf_on g soft (Slice slice) = on_slice g slice soft
leaf_on g soft (Volume volume) = no_map

abbrev pub leaf_kind : Geometry → VolumeKind → Map
leaf_kind g (Soft soft) = leaf_on g soft soft.base
leaf_kind g _ = no_map

-- a volume that may be a component: a soft partition on a slice
abbrev pub leaf_of : Geometry → Option OneVolume → Map
leaf_of g None = no_map
leaf_of g (Some of) = leaf_kind g of.kind

-- the blocks of a component, of a slice or of a soft partition
abbrev pub component_map : Geometry → Plan → Component → Base → Map
component_map g p c (Slice slice) = at_map (slice_at g.slices slice) c.start c.blocks
component_map g p c (Volume volume) = front_map c.blocks (leaf_of g (volume_of p volume))

-- a row: its components are the columns of a stripe
abbrev pub row_map : Geometry → Plan → Row → Map
row_map g p row = striped row.interlace (map (λ (c : Component). component_map g p c c.on) row.components)

-- rows one behind another
abbrev pub rows_map : Geometry → Plan → List Row → Map
rows_map g p rows = chained (map (row_map g p) rows)

abbrev pub below_kind : Geometry → Plan → VolumeKind → Map
below_kind g p (Stripe stripe) = rows_map g p stripe.rows
below_kind g p _ = no_map

-- a volume on which soft partitions may lie: one of rows
abbrev pub below_map : Geometry → Plan → Option OneVolume → Map
below_map g p None = no_map
below_map g p (Some of) = below_kind g p of.kind

-- a soft partition, on a slice or on a volume of rows
abbrev pub soft_partition : Geometry → Plan → OneSoft → Base → Map
soft_partition g p soft (Slice slice) = on_slice g slice soft
soft_partition g p soft (Volume volume) = soft_on (below_map g p (volume_of p volume)) soft.extents

-- of the table, since what may be read of a mirror is in its status; mirrors and RAID-5 volumes have no map yet
abbrev pub kind_map : Geometry → Table → VolumeKind → Option Map
kind_map g t (Stripe stripe) = Some (rows_map g t.plan stripe.rows)
kind_map g t (Mirror mirror) = None
kind_map g t (Raid raid) = None
kind_map g t (Soft soft) = Some (soft_partition g t.plan soft soft.base)

abbrev pub map_at : Geometry → Table → Option OneVolume → Option Map
map_at g t None = None
map_at g t (Some of) = kind_map g t of.kind

-- the map of a volume; none of one that isn't there, nor of one that another uses
abbrev pub map_of : Geometry → Table → VolId → Option Map
map_of g t volume = if has_parent t.plan volume then None else map_at g t (volume_of t.plan volume)

abbrev pub IsMapOf : Geometry → Table → VolId → Map → Type 0
IsMapOf g t volume v = map_of g t volume ≡ Some v

-- a map is of the volumes alone, not of the places of replicas, nor yet of what is noted of states
abbrev pub VolumesTell : Type 0
VolumesTell = (g : Geometry) (t u : Table) (volume : VolId) → t.plan.volumes ≡ u.plan.volumes → map_of g t volume ≡ map_of g u volume
