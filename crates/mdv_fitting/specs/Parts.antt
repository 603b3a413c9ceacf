-- Where components, extents and spares lie on slices.
use Rattle.std.specs.Prelude.{ℕ, Bool, false, ◌+◌, ◌==◌, ◌&&◌, nat_le, List, ◌++◌, Option, None, Some, if◌then◌else◌}
use Rattle.std.specs.List.{flat_map}
use Rattle.mdv_fitting.specs.Below.{SliceName, Geometry, SliceAt, Lists, Plan, SliceUse, end_of, first_block, pool_uses, slice_at, volume_uses}

-- all uses of slices but those by replicas
abbrev pub parts_of : Plan → List SliceUse
parts_of p = flat_map volume_uses p.volumes ++ flat_map pool_uses p.pools

-- behind the replicas of a slice that is set aside for some, and else at its first block
abbrev pub may_start : Lists → SliceName → ℕ → SliceAt → Bool
may_start lists s start at = if at.db then nat_le (first_block lists s at) start else start == 0

abbrev pub may_start_at : Lists → SliceName → ℕ → Option SliceAt → Bool
may_start_at lists s start None = false
may_start_at lists s start (Some at) = may_start lists s start at

-- it ends within the slice
abbrev pub ends_at : SliceUse → Option SliceAt → Bool
ends_at u None = false
ends_at u (Some at) = nat_le (u.start + end_of u.run) at.blocks

abbrev pub lies : Geometry → Lists → SliceUse → Bool
lies g lists u = may_start_at lists u.slice u.start (slice_at g.slices u.slice) && ends_at u (slice_at g.slices u.slice)
