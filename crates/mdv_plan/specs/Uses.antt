-- Which blocks of slices are in use by what: by replicas, components, soft partitions and spares.
use Rattle.std.specs.Prelude.{ℕ, Bool, false, ◌==◌, List, [], ◌∷◌, ◌++◌, map, if◌then◌else◌}
use Rattle.std.specs.List.{flat_map}
use Rattle.mdv_plan.specs.Below.{VolId, PoolId, Place, Run}
use Rattle.mdv_plan.specs.declared.lists.Lists.{Lists}
use Rattle.mdv_plan.specs.declared.lists.Lists.TheVariants.{One, Two}
use Rattle.mdv_plan.specs.declared.plan.Plan.{Plan}
use Rattle.mdv_plan.specs.declared.pool.Pool.{Pool}
use Rattle.mdv_plan.specs.declared.pool.Spare.{Spare as SparePlan}
use Rattle.mdv_plan.specs.declared.uses.SliceUse.{SliceUse}
use Rattle.mdv_plan.specs.declared.uses.User.{User}
use Rattle.mdv_plan.specs.declared.uses.User.TheVariants.{Replica, Component, Extent, Spare}
use Rattle.mdv_plan.specs.declared.volume.Base.{Base}
use Rattle.mdv_plan.specs.declared.volume.Base.TheVariants.{Slice, Volume}
use Rattle.mdv_plan.specs.declared.volume.Component.{Component as Part}
use Rattle.mdv_plan.specs.declared.volume.Row.{Row}
use Rattle.mdv_plan.specs.declared.volume.Volume.{Volume as OneVolume}
use Rattle.mdv_plan.specs.declared.volume.VolumeKind.{VolumeKind}
use Rattle.mdv_plan.specs.declared.volume.VolumeKind.TheVariants.{Stripe, Mirror, Raid, Soft}
pub use Rattle.mdv_name.specs.SliceIndex.{same_slice}

-- a run of a base, where the base is a slice
abbrev pub uses_on : Base → ℕ → Run → User → List SliceUse
uses_on (Slice s) start run by = record { slice = s; start = start; run = run; by = by } ∷ []
uses_on (Volume v) start run by = []

-- so many blocks from the start on
abbrev pub first_blocks : ℕ → Run
first_blocks blocks = record { at = 0; blocks = blocks }

abbrev pub component_uses : VolId → Part → List SliceUse
component_uses v c = uses_on c.on c.start (first_blocks c.blocks) (Component v)

abbrev pub row_uses : VolId → Row → List SliceUse
row_uses v row = flat_map (component_uses v) row.components

abbrev pub extent_uses : VolId → Base → ℕ → Run → List SliceUse
extent_uses v on start run = uses_on on start run (Extent v)

-- a volume's own components and extents; a mirror's blocks are those of its submirrors
abbrev pub kind_uses : VolId → VolumeKind → List SliceUse
kind_uses v (Stripe s) = flat_map (row_uses v) s.rows
kind_uses v (Mirror m) = []
kind_uses v (Raid r) = flat_map (component_uses v) r.columns
kind_uses v (Soft s) = flat_map (extent_uses v s.base s.start) s.extents

abbrev pub volume_uses : OneVolume → List SliceUse
volume_uses v = kind_uses v.number v.kind

abbrev pub place_use : Place → SliceUse
place_use p = record { slice = p.slice; start = p.start; run = first_blocks p.blocks; by = Replica }

abbrev pub list_uses : Lists → List SliceUse
list_uses (One places) = map place_use places
list_uses (Two from to) = map place_use from ++ map place_use to

abbrev pub spare_use : PoolId → SparePlan → SliceUse
spare_use p s = record { slice = s.slice; start = s.start; run = first_blocks s.blocks; by = Spare p }

-- whether a component lies on it or not
abbrev pub pool_uses : Pool → List SliceUse
pool_uses p = map (spare_use p.number) p.spares

-- all uses of slices
abbrev pub uses_of : Plan → List SliceUse
uses_of p = list_uses p.lists ++ flat_map volume_uses p.volumes ++ flat_map pool_uses p.pools

abbrev pub same_base : Base → Base → Bool
same_base (Slice a) (Slice b) = same_slice a b
same_base (Volume a) (Volume b) = a.0 == b.0
same_base (Slice a) (Volume b) = false
same_base (Volume a) (Slice b) = false

abbrev pub kind_runs : Base → VolumeKind → List Run
kind_runs on (Soft s) = if same_base s.base on then s.extents else []
kind_runs on _ = []

-- the extents that a volume has on a base
abbrev pub volume_runs : Base → OneVolume → List Run
volume_runs on v = kind_runs on v.kind

-- those of all soft partitions on it
abbrev pub runs_on : Base → Plan → List Run
runs_on on p = flat_map (volume_runs on) p.volumes
