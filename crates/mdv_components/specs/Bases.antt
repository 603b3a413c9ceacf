-- What stands against a base that is asked for as a component.
use Rattle.std.specs.Prelude.{Bool, true, false, not, ◌==◌, ◌||◌, List, [], ◌∷◌, Option, None, Some, is_some}
use Rattle.std.specs.List.{find, list_any}
use Rattle.mdv_components.specs.declared.cause.Cause.{Cause}
use Rattle.mdv_components.specs.declared.cause.Cause.TheVariants.{NoSuchVolume, NoSuchPool, NoSuchSlice, NameTaken, WrongKind, SliceInUse, HasParent}
use Rattle.mdv_components.specs.Below.{PoolId, Pool, uses_of, DriveNo, VolId, Geometry, SliceAt, Plan, Base, Slice, Volume, OneVolume, VolumeKind, Soft, SliceUse, OneComponent, has_parent, slice_at, overlap, clashes, meets_db}

abbrev pub volume_of : Plan → VolId → Option OneVolume
volume_of p v = find (λ w. w.number.0 == v.0) p.volumes

-- the plan doesn't have the volume
abbrev pub is_missing : Plan → Base → Bool
is_missing p (Slice s) = false
is_missing p (Volume v) = not (is_some (volume_of p v))

abbrev pub has_drive : List DriveNo → DriveNo → Bool
has_drive drives drive = list_any (λ d. d.0 == drive.0) drives

abbrev pub is_on : List DriveNo → Option SliceAt → Bool
is_on drives None = false
is_on drives (Some at) = has_drive drives at.drive

-- there is no such slice, or not on a drive of the database
abbrev pub is_foreign : Geometry → List DriveNo → Base → Bool
is_foreign g drives (Slice s) = not (is_on drives (slice_at g.slices s))
is_foreign g drives (Volume v) = false

abbrev pub is_slice : Base → Bool
is_slice (Slice s) = true
is_slice (Volume v) = false

abbrev pub is_leaf_kind : VolumeKind → Bool
is_leaf_kind (Soft s) = is_slice s.base
is_leaf_kind _ = false

abbrev pub is_leaf_volume : Option OneVolume → Bool
is_leaf_volume None = false
is_leaf_volume (Some v) = is_leaf_kind v.kind

-- neither a slice nor a soft partition on a slice
abbrev pub is_no_leaf : Plan → Base → Bool
is_no_leaf p (Slice s) = false
is_no_leaf p (Volume v) = not (is_leaf_volume (volume_of p v))

-- a use stands in the way, or a slice that is set aside for replicas
abbrev pub is_slice_in_use : Geometry → List SliceUse → Base → Bool
is_slice_in_use g uses (Slice s) = clashes g OneComponent s uses || meets_db g s
is_slice_in_use g uses (Volume v) = false

abbrev pub is_volume_in_use : Plan → Base → Bool
is_volume_in_use p (Slice s) = false
is_volume_in_use p (Volume v) = has_parent p v

abbrev pub slices_meet : Geometry → Base → Base → Bool
slices_meet g (Slice a) (Slice b) = overlap g a b
slices_meet g (Slice a) (Volume b) = false
slices_meet g (Volume a) b = false

abbrev pub same_volume : Base → Base → Bool
same_volume (Volume a) (Volume b) = a.0 == b.0
same_volume (Volume a) (Slice b) = false
same_volume (Slice a) b = false

-- two of the bases share blocks of a drive
abbrev pub has_meeting : Geometry → List Base → Bool
has_meeting g [] = false
has_meeting g (b ∷ bs) = list_any (slices_meet g b) bs || has_meeting g bs

-- a volume stands among the bases twice
abbrev pub has_twice : List Base → Bool
has_twice [] = false
has_twice (b ∷ bs) = list_any (same_volume b) bs || has_twice bs

abbrev pub pool_of : Plan → PoolId → Option Pool
pool_of p pool = find (λ q. q.number.0 == pool.0) p.pools

abbrev pub no_pool : Plan → Option PoolId → Bool
no_pool p None = false
no_pool p (Some pool) = not (is_some (pool_of p pool))

-- what refuses a volume of components on these bases, whatever its kind
abbrev pub base_condition : Geometry → List DriveNo → Plan → VolId → List Base → Option PoolId → Cause → Bool
base_condition g drives p v bases pool NoSuchVolume = list_any (is_missing p) bases
base_condition g drives p v bases pool NoSuchPool = no_pool p pool
base_condition g drives p v bases pool NoSuchSlice = list_any (is_foreign g drives) bases
base_condition g drives p v bases pool NameTaken = is_some (volume_of p v)
base_condition g drives p v bases pool WrongKind = list_any (is_no_leaf p) bases
base_condition g drives p v bases pool SliceInUse = list_any (is_slice_in_use g (uses_of p)) bases || has_meeting g bases
base_condition g drives p v bases pool HasParent = list_any (is_volume_in_use p) bases || has_twice bases
base_condition g drives p v bases pool _ = false
