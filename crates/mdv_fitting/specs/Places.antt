-- Where the replicas of a table lie.
use Rattle.std.specs.Prelude.{Bool, false, not, ◌+◌, ◌&&◌, nat_le, Option, None, Some}
use Rattle.std.specs.List.{list_all}
use Rattle.mdv_fitting.specs.Below.{Place, Geometry, SliceAt, Lists, One, Two, slice_at, meets_db}

-- within a slice that is set aside for replicas
abbrev pub lies_at : Place → Option SliceAt → Bool
lies_at p None = false
lies_at p (Some at) = at.db && nat_le (p.start + p.blocks) at.blocks

-- it has 16 to 8192 blocks, and no other slice that is set aside overlaps its own
abbrev pub is_placed : Geometry → Place → Bool
is_placed g p = (nat_le 16 p.blocks && nat_le p.blocks 8192) && (lies_at p (slice_at g.slices p.slice) && not (meets_db g p.slice))

-- of all lists
abbrev pub are_placed : Geometry → Lists → Bool
are_placed g (One places) = list_all (is_placed g) places
are_placed g (Two from to) = list_all (is_placed g) from && list_all (is_placed g) to
