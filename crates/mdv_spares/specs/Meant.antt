-- Which pools a command means, and which spares they have.
use Rattle.std.specs.Prelude.{ℕ, Bool, true, false, not, ◌==◌, ◌&&◌, is_some, List, [], ◌∷◌, Option, None, Some, if◌then◌else◌}
use Rattle.std.specs.List.{find, flat_map, list_any}
use Rattle.mdv_spares.specs.Below.{SliceName, Plan, Pool, SpareStatus, SpareState, InUse, pool_of, slice_code, kept, replaced}
use Rattle.mdv_spares.specs.Pools.{is_spare, spare_key}
use Rattle.mdv_spares.specs.declared.meant.Meant.{Meant}
use Rattle.mdv_spares.specs.declared.meant.Meant.TheVariants.{One, All}

abbrev pub is_meant : Meant → Pool → Bool
is_meant (One q) r = r.number.0 == q.0
is_meant All r = true

-- one is named that isn't there
abbrev pub is_no_pool : Plan → Meant → Bool
is_no_pool p (One q) = not (is_some (pool_of p q))
is_no_pool p All = false

abbrev pub has_spare : SliceName → Pool → Bool
has_spare s q = list_any (is_spare s) q.spares

abbrev pub is_meant_with : Meant → SliceName → Pool → Bool
is_meant_with m s q = is_meant m q && has_spare s q

-- a pool that is meant has the spare
abbrev pub is_there : Plan → Meant → SliceName → Bool
is_there p m s = list_any (is_meant_with m s) p.pools

abbrev pub is_absent : Plan → Meant → SliceName → Bool
is_absent p m s = not (is_there p m s)

-- another pool than those that are meant has it
abbrev pub is_left_with : Meant → SliceName → Pool → Bool
is_left_with m s q = not (is_meant m q) && has_spare s q

abbrev pub state_of : List SpareStatus → SliceName → Option SpareStatus
state_of states s = find (λ x. spare_key x == slice_code s) states

abbrev pub is_used : SpareState → Bool
is_used InUse = true
is_used _ = false

abbrev pub is_used_at : Option SpareStatus → Bool
is_used_at None = false
is_used_at (Some x) = is_used x.state

-- a component lies on the spare
abbrev pub is_in_use : List SpareStatus → SliceName → Bool
is_in_use states s = is_used_at (state_of states s)

abbrev pub pool_key : Pool → ℕ
pool_key q = q.number.0

-- the pools, with these in the place of those of their numbers
abbrev pub with_pools : Plan → List Pool → Plan
with_pools p changed = record p { pools = replaced pool_key p.pools changed }

-- its number, where no other pool has it
abbrev pub lost_key : Plan → Meant → SliceName → List ℕ
lost_key p m s = if list_any (is_left_with m s) p.pools then [] else slice_code s ∷ []

-- a spare that no pool has any more has no state
abbrev pub states_left : Plan → Meant → List SliceName → List SpareStatus → List SpareStatus
states_left p m slices states = kept spare_key (flat_map (lost_key p m) slices) states
