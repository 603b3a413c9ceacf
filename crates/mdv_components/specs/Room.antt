-- From which block on a new component has its blocks, and how many it can have.
use Rattle.std.specs.Prelude.{ℕ, Bool, ◌||◌, nat_lt, unwrap_or, ◌+◌, ◌-◌, ◌^◌, max, min, sum_by, List, Option, None, Some, if◌then◌else◌}
use Rattle.std.specs.List.{fold}
use Rattle.mdv_components.specs.Below.{Component, PartStatus, Okay, SliceName, Place, Run, Geometry, SliceAt, Lists, One, Two, Plan, Base, Slice, Volume, OneVolume, VolumeKind, Soft, slice_at, same_slice}
use Rattle.mdv_components.specs.Bases.{volume_of}

-- behind the replica too, where it lies on the slice
abbrev pub behind : SliceName → ℕ → Place → ℕ
behind s block p = if same_slice p.slice s then max block (p.start + p.blocks) else block

abbrev pub behind_all : SliceName → ℕ → List Place → ℕ
behind_all s block places = fold (behind s) block places

-- behind block 16, where a boot looks for a replica, and behind all replicas of the slice
abbrev pub behind_replicas : Lists → SliceName → ℕ
behind_replicas (One places) s = behind_all s 17 places
behind_replicas (Two from to) s = behind_all s (behind_all s 17 from) to

-- the first block of a slice that isn't for replicas
abbrev pub first_block : Lists → SliceName → SliceAt → ℕ
first_block lists s at = if at.db then behind_replicas lists s else 0

abbrev pub start_at : Lists → SliceName → Option SliceAt → ℕ
start_at lists s None = 0
start_at lists s (Some at) = first_block lists s at

abbrev pub room_at : Lists → SliceName → Option SliceAt → ℕ
room_at lists s None = 0
room_at lists s (Some at) = at.blocks - first_block lists s at

abbrev pub run_blocks : Run → ℕ
run_blocks r = r.blocks

-- the blocks of a soft partition, of which no more than 2 ^ 63 count
abbrev pub kind_blocks : VolumeKind → ℕ
kind_blocks (Soft s) = min (sum_by run_blocks s.extents) (2 ^ 63)
kind_blocks _ = 0

abbrev pub volume_blocks : Option OneVolume → ℕ
volume_blocks None = 0
volume_blocks (Some v) = kind_blocks v.kind

-- the block of a base from which a component is counted
abbrev pub start_of : Geometry → Plan → Base → ℕ
start_of g p (Slice s) = start_at p.lists s (slice_at g.slices s)
start_of g p (Volume v) = 0

-- how many blocks a component can have on a base
abbrev pub room_of : Geometry → Plan → Base → ℕ
room_of g p (Slice s) = room_at p.lists s (slice_at g.slices s)
room_of g p (Volume v) = volume_blocks (volume_of p v)

-- how many blocks each of the bases has for a component
abbrev pub least_room : Geometry → Plan → List Base → ℕ
least_room g p bases = fold (λ least b. min least (room_of g p b)) (2 ^ 63) bases

-- the interlace that is asked for, else 32 blocks
abbrev pub interlace_of : Option ℕ → ℕ
interlace_of asked = unwrap_or asked 32

-- outside 16 to 204800 blocks
abbrev pub is_bad_interlace : ℕ → Bool
is_bad_interlace blocks = nat_lt blocks 16 || nat_lt 204800 blocks

abbrev pub component_on : Geometry → Plan → ℕ → Base → Component
component_on g p blocks b = record { on = b; start = start_of g p b; blocks = blocks }

-- a component that lies on its own base
abbrev pub okay_part : Base → PartStatus
okay_part b = record { state = Okay; spare = None }
