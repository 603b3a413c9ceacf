-- Slices that come into every pool: what refuses them, and the table after.
use Rattle.std.specs.Prelude.{Bool, false, ◌+◌, ◌||◌, nat_lt, List, [], ◌∷◌, ◌++◌, length, map}
use Rattle.std.specs.List.{list_any}
use Rattle.mdv_spares.specs.Below.{DriveNo, SliceName, Geometry, Plan, Pool, Table, SliceUse, Cause, NoSuchSlice, TooMany, SliceInUse, TooSmall, has_meeting, is_foreign, uses_of}
use Rattle.mdv_spares.specs.Meant.{is_there, with_pools}
use Rattle.mdv_spares.specs.Pools.{is_barred, is_too_small, slice_base, spare_on, with_states}
use Rattle.mdv_spares.specs.declared.meant.Meant.TheVariants.{All}

-- a pool has it already, or a use stands in the way
abbrev pub is_taken_in_one : Geometry → List SliceUse → Plan → SliceName → Bool
is_taken_in_one g uses p s = is_there p All s || is_barred g uses s

-- it would have more than 100 spares
abbrev pub is_overfull : List SliceName → Pool → Bool
is_overfull slices q = nat_lt 100 (length q.spares + length slices)

-- what refuses the slices, where there is no pool too
abbrev pub all_condition : Geometry → List DriveNo → Plan → List SliceName → Cause → Bool
all_condition g drives p slices NoSuchSlice = list_any (is_foreign g drives) (map slice_base slices)
all_condition g drives p slices TooMany = list_any (is_overfull slices) p.pools
all_condition g drives p slices SliceInUse = list_any (is_taken_in_one g (uses_of p) p) slices || has_meeting g (map slice_base slices)
all_condition g drives p slices TooSmall = list_any (is_too_small g p) slices
all_condition g drives p slices _ = false

-- the pool with these behind its spares
abbrev pub pool_longer : Geometry → Plan → List SliceName → Pool → Pool
pool_longer g p slices q = record q { spares = q.spares ++ map (spare_on g p) slices }

abbrev pub pools_longer : Geometry → Plan → List SliceName → List Pool
pools_longer g p slices = map (pool_longer g p slices) p.pools

-- the slices that come into a pool: none where there is no pool
abbrev pub coming : List Pool → List SliceName → List SliceName
coming [] slices = []
coming (q ∷ qs) slices = slices

abbrev pub spares_added : Geometry → List SliceName → Table → Table
spares_added g slices t =
    record {
      plan = with_pools t.plan (pools_longer g t.plan slices);
      status = record t.status { spares = with_states t.status.spares (coming t.plan.pools slices) };
    }
