-- A spare in whose place another one comes: what refuses it, and the table after.
use Rattle.std.specs.Prelude.{Bool, false, ◌&&◌, ◌||◌, List, [], ◌∷◌, map, if◌then◌else◌}
use Rattle.std.specs.List.{flat_map, list_any}
use Rattle.mdv_spares.specs.Below.{DriveNo, SliceName, Geometry, Plan, Pool, Spare, Table, SliceUse, Cause, NoSuchPool, NoSuchSlice, WrongState, SliceInUse, SpareInUse, TooSmall, is_foreign, uses_of}
use Rattle.mdv_spares.specs.Meant.{has_spare, is_absent, is_in_use, is_meant, is_meant_with, is_no_pool, states_left, with_pools}
use Rattle.mdv_spares.specs.Pools.{is_barred, is_spare, is_too_small, slice_base, spare_on, with_state}
use Rattle.mdv_spares.specs.declared.meant.Meant.{Meant}

-- the pool is meant and has the spare that goes, and the one that comes already
abbrev pub has_both : Meant → SliceName → SliceName → Pool → Bool
has_both m old new q = is_meant_with m old q && has_spare new q

-- such a pool has the new one already, or a use stands in the way
abbrev pub is_taken_beside : Geometry → List SliceUse → Plan → Meant → SliceName → SliceName → Bool
is_taken_beside g uses p m old new = list_any (has_both m old new) p.pools || is_barred g uses new

-- what refuses it: what refuses that the old one leaves, and that the new one comes
abbrev pub replace_condition : Geometry → List DriveNo → Table → Meant → SliceName → SliceName → Cause → Bool
replace_condition g drives t m old new NoSuchPool = is_no_pool t.plan m
replace_condition g drives t m old new NoSuchSlice = list_any (is_foreign g drives) (map slice_base (old ∷ new ∷ []))
replace_condition g drives t m old new WrongState = is_absent t.plan m old
replace_condition g drives t m old new SliceInUse = is_taken_beside g (uses_of t.plan) t.plan m old new
replace_condition g drives t m old new SpareInUse = is_in_use t.status.spares old
replace_condition g drives t m old new TooSmall = is_too_small g t.plan new
replace_condition g drives t m old new _ = false

-- the new spare where it lies on the old slice
abbrev pub renewed : SliceName → Spare → Spare → Spare
renewed old new t = if is_spare old t then new else t

abbrev pub pool_renewed : SliceName → Spare → Pool → Pool
pool_renewed old new q = record q { spares = map (renewed old new) q.spares }

abbrev pub renewed_if_meant : Meant → SliceName → Spare → Pool → List Pool
renewed_if_meant m old new q = if is_meant m q then pool_renewed old new q ∷ [] else []

-- the pools that are meant, with the new one in the place of the old one
abbrev pub pools_renewed : Geometry → Plan → Meant → SliceName → SliceName → List Pool
pools_renewed g p m old new = flat_map (renewed_if_meant m old (spare_on g p new)) p.pools

abbrev pub spare_replaced : Geometry → Meant → SliceName → SliceName → Table → Table
spare_replaced g m old new t =
    record {
      plan = with_pools t.plan (pools_renewed g t.plan m old new);
      status = record t.status { spares = states_left t.plan m (old ∷ []) (with_state t.status.spares new) };
    }
