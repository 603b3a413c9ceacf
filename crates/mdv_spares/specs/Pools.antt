-- Slices that come into a pool: what refuses them, what the pool is, and their states.
use Rattle.std.specs.Prelude.{ℕ, Bool, false, ◌+◌, ◌==◌, ◌&&◌, ◌||◌, nat_lt, is_some, List, [], ◌∷◌, ◌++◌, length, map, Option, None, Some, if◌then◌else◌}
use Rattle.std.specs.List.{find, fold, list_any}
use Rattle.std.specs.Option.{option_or}
use Rattle.mdv_spares.specs.Below.{DriveNo, SliceName, PoolId, Geometry, Plan, Pool, Spare, SpareStatus, Available, SliceUse, OneSpare, Base, Slice, Cause, NoSuchSlice, NameTaken, TooMany, SliceInUse, TooSmall}
use Rattle.mdv_spares.specs.Below.{has_meeting, is_foreign, pool_of, room_of, start_of, clashes, meets_db, same_slice, uses_of, slice_code, with_put}

abbrev pub slice_base : SliceName → Base
slice_base s = Slice s

abbrev pub spares_at : Option Pool → List Spare
spares_at None = []
spares_at (Some q) = q.spares

-- the spares of the pool, none where there is no such pool
abbrev pub spares_of : Plan → PoolId → List Spare
spares_of p q = spares_at (pool_of p q)

abbrev pub is_spare : SliceName → Spare → Bool
is_spare s t = same_slice t.slice s

-- the spare that the first pool has which has one on the slice
abbrev pub spare_in : List Pool → SliceName → Option Spare
spare_in [] s = None
spare_in (q ∷ qs) s = option_or (find (is_spare s) q.spares) (spare_in qs s)

abbrev pub new_spare : Geometry → Plan → SliceName → Spare
new_spare g p s = record { slice = s; start = start_of g p (Slice s); blocks = room_of g p (Slice s) }

abbrev pub spare_or : Option Spare → Spare → Spare
spare_or None t = t
spare_or (Some t) other = t

-- as other pools have it, else from the first block that a component could have
abbrev pub spare_on : Geometry → Plan → SliceName → Spare
spare_on g p s = spare_or (spare_in p.pools s) (new_spare g p s)

-- a use stands in the way
abbrev pub is_barred : Geometry → List SliceUse → SliceName → Bool
is_barred g uses s = clashes g OneSpare s uses || meets_db g s

-- the pool has it already, or a use stands in the way
abbrev pub is_taken : Geometry → List SliceUse → List Spare → SliceName → Bool
is_taken g uses had s = list_any (is_spare s) had || is_barred g uses s

abbrev pub is_too_small : Geometry → Plan → SliceName → Bool
is_too_small g p s = (spare_on g p s).blocks == 0

-- what refuses the slices; a new pool must not be there yet
abbrev pub spares_condition : Geometry → List DriveNo → Plan → Bool → PoolId → List SliceName → Cause → Bool
spares_condition g drives p new q slices NoSuchSlice = list_any (is_foreign g drives) (map slice_base slices)
spares_condition g drives p new q slices NameTaken = new && is_some (pool_of p q)
spares_condition g drives p new q slices TooMany = nat_lt 100 (length (spares_of p q) + length slices)
spares_condition g drives p new q slices SliceInUse = list_any (is_taken g (uses_of p) (spares_of p q)) slices || has_meeting g (map slice_base slices)
spares_condition g drives p new q slices TooSmall = list_any (is_too_small g p) slices
spares_condition g drives p new q slices _ = false

-- the pool with these behind its spares
abbrev pub pool_with : Geometry → Plan → PoolId → List SliceName → Pool
pool_with g p q slices = record { number = q; spares = spares_of p q ++ map (spare_on g p) slices }

abbrev pub available : SliceName → SpareStatus
available s = record { slice = s; state = Available }

abbrev pub spare_key : SpareStatus → ℕ
spare_key s = slice_code s.slice

abbrev pub with_state : List SpareStatus → SliceName → List SpareStatus
with_state states s = if is_some (find (λ x. spare_key x == slice_code s) states) then states else with_put spare_key (available s) states

-- each of the slices has a state: the one that it had, else Available
abbrev pub with_states : List SpareStatus → List SliceName → List SpareStatus
with_states states slices = fold with_state states slices
