-- Which blocks of a base are free for extents, and what they give where some are needed.
use Rattle.std.specs.Prelude.{ℕ, Bool, ◌+◌, ◌-◌, ◌*◌, ◌^◌, ◌==◌, ◌&&◌, nat_le, nat_lt, min, unwrap_or, List, [], ◌∷◌, ◌++◌, length, Option, None, Some, Result, Ok, Err, if◌then◌else◌}
use Rattle.std.specs.List.{list_all}
use Rattle.std.specs.Option.{option_or}
use Rattle.mdv_softs.specs.Below.{Geometry, SliceAt, Plan, Base, Slice, Volume, OneVolume, VolumeKind, OneRaid, Stripe, Mirror, Raid, Soft, Run, SpaceFault, TooShort}
use Rattle.mdv_softs.specs.Below.{volume_of, start_of, stripe_blocks, slice_at, same_base, runs_on, end_of, free_of, allotted, lie_apart}
use Rattle.mdv_softs.specs.declared.room.Room.{Room}
use Rattle.mdv_softs.specs.declared.room.Room.TheVariants.{Extents, TooMany, Only, Unfit}

-- from which block of the base the volume's extents are counted, where it is a soft partition on it
abbrev pub kind_start : Base → VolumeKind → Option ℕ
kind_start on (Soft s) = if same_base s.base on then Some s.start else None
kind_start on _ = None

abbrev pub start_in : List OneVolume → Base → Option ℕ
start_in [] on = None
start_in (v ∷ vs) on = option_or (kind_start on v.kind) (start_in vs on)

-- as those of the soft partitions that are there, else from where a component would begin
abbrev pub start_on : Geometry → Plan → Base → ℕ
start_on g p on = unwrap_or (start_in p.volumes on) (start_of g p on)

-- no more than 2 ^ 63 blocks count, of a column nor of the volume
abbrev pub raid_blocks : OneRaid → ℕ
raid_blocks r = min ((length r.columns - 1) * min (r.units * r.interlace) (2 ^ 63)) (2 ^ 63)

-- the blocks of a volume on which soft partitions may lie
abbrev pub kind_blocks : VolumeKind → ℕ
kind_blocks (Stripe s) = stripe_blocks (Stripe s)
kind_blocks (Mirror m) = min m.blocks (2 ^ 63)
kind_blocks (Raid r) = raid_blocks r
kind_blocks (Soft s) = 0

abbrev pub volume_blocks : Option OneVolume → ℕ
volume_blocks None = 0
volume_blocks (Some v) = kind_blocks v.kind

abbrev pub blocks_behind : ℕ → Option SliceAt → ℕ
blocks_behind start None = 0
blocks_behind start (Some at) = at.blocks - start

-- how many blocks the base has from there on
abbrev pub size_on : Geometry → Plan → Base → ℕ
size_on g p (Slice s) = blocks_behind (start_on g p (Slice s)) (slice_at g.slices s)
size_on g p (Volume v) = volume_blocks (volume_of p v)

abbrev pub lies_within : ℕ → Run → Bool
lies_within blocks r = nat_le 1 r.at && nat_le (end_of r) blocks

abbrev pub free_within : ℕ → List Run → List Run
free_within blocks used = if list_all (lies_within blocks) used then free_of blocks used else []

-- The runs of the base that are free. Where an extent of the table doesn't lie within its base, none is.
abbrev pub free_on : Geometry → Plan → Base → List Run
free_on g p on = free_within (size_on g p on) (runs_on on p)

-- behind the extents that there are
abbrev pub with_extents : List Run → List Run → Room
with_extents had new = if nat_lt 16 (length had + length new) then TooMany else Extents (had ++ new)

abbrev pub room_with : List Run → Result (List Run) SpaceFault → Room
room_with had (Ok new) = with_extents had new
room_with had (Err (TooShort blocks)) = Only blocks
room_with had (Err _) = TooMany

-- so many blocks more than those of the extents that there are
abbrev pub room_for : Geometry → Plan → Base → List Run → ℕ → Room
room_for g p on had need = if need == 0 then Extents had else room_with had (allotted (free_on g p on) need)

-- extents that are asked for lie apart from each other and from those that the base has
abbrev pub fits_on : Geometry → Plan → Base → List Run → Bool
fits_on g p on runs = lie_apart (size_on g p on) (runs_on on p ++ runs)

-- these extents
abbrev pub given_room : Geometry → Plan → Base → List Run → Room
given_room g p on runs = if nat_lt 16 (length runs) then TooMany else (if fits_on g p on runs then Extents runs else Unfit)

abbrev pub extents_in : Room → List Run
extents_in (Extents runs) = runs
extents_in _ = []
