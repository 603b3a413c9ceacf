-- Spares that leave pools: what refuses it, and what is left.
use Rattle.std.specs.Prelude.{Bool, false, not, List, [], ◌∷◌, map, filter, if◌then◌else◌}
use Rattle.std.specs.List.{flat_map, list_any}
use Rattle.mdv_spares.specs.Below.{DriveNo, SliceName, Geometry, Plan, Pool, Spare, Table, Cause, NoSuchPool, NoSuchSlice, WrongState, SpareInUse, is_foreign, same_slice}
use Rattle.mdv_spares.specs.Meant.{is_meant, is_no_pool, is_absent, is_in_use, with_pools, states_left}
use Rattle.mdv_spares.specs.Pools.{slice_base}
use Rattle.mdv_spares.specs.declared.meant.Meant.{Meant}

-- what refuses it: one isn't in a pool that is meant, or a component lies on it
abbrev pub delete_condition : Geometry → List DriveNo → Table → Meant → List SliceName → Cause → Bool
delete_condition g drives t m slices NoSuchPool = is_no_pool t.plan m
delete_condition g drives t m slices NoSuchSlice = list_any (is_foreign g drives) (map slice_base slices)
delete_condition g drives t m slices WrongState = list_any (is_absent t.plan m) slices
delete_condition g drives t m slices SpareInUse = list_any (is_in_use t.status.spares) slices
delete_condition g drives t m slices _ = false

-- it is none of the slices
abbrev pub stays : List SliceName → Spare → Bool
stays slices t = not (list_any (same_slice t.slice) slices)

abbrev pub pool_less : List SliceName → Pool → Pool
pool_less slices q = record q { spares = filter (stays slices) q.spares }

abbrev pub less_if_meant : Meant → List SliceName → Pool → List Pool
less_if_meant m slices q = if is_meant m q then pool_less slices q ∷ [] else []

-- the pools that are meant, without them
abbrev pub pools_less : Plan → Meant → List SliceName → List Pool
pools_less p m slices = flat_map (less_if_meant m slices) p.pools

abbrev pub spares_deleted : Meant → List SliceName → Table → Table
spares_deleted m slices t =
    record {
      plan = with_pools t.plan (pools_less t.plan m slices);
      status = record t.status { spares = states_left t.plan m slices t.status.spares };
    }
