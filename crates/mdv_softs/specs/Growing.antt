-- Blocks that come to a soft partition: what refuses them, and what the volume is then.
use Rattle.std.specs.Prelude.{ℕ, Bool, true, false, not, ◌==◌, [], Option, None, Some}
use Rattle.mdv_softs.specs.Below.{VolId, Geometry, Plan, Status, Table, OneVolume, VolumeKind, Soft, Cause, NoSuchVolume, WrongKind, WrongState, TooMany, TooSmall, NoSpace, volume_of, is_no_volume}
use Rattle.mdv_softs.specs.Asking.{is_initializing, is_too_many, is_short}
use Rattle.mdv_softs.specs.Room.{room_for, extents_in}
use Rattle.mdv_softs.specs.declared.room.Room.{Room}
use Rattle.mdv_softs.specs.declared.room.Room.TheVariants.{Extents}

abbrev pub is_soft : VolumeKind → Bool
is_soft (Soft s) = true
is_soft _ = false

abbrev pub is_soft_at : Option OneVolume → Bool
is_soft_at None = false
is_soft_at (Some v) = is_soft v.kind

abbrev pub is_no_soft : Plan → VolId → Bool
is_no_soft p v = not (is_soft_at (volume_of p v))

abbrev pub is_kind_unready : Status → VolumeKind → Bool
is_kind_unready s (Soft soft) = is_initializing s soft.base
is_kind_unready s _ = false

abbrev pub is_unready_at : Status → Option OneVolume → Bool
is_unready_at s None = false
is_unready_at s (Some v) = is_kind_unready s v.kind

-- its base is a RAID-5 volume that is Initializing
abbrev pub is_unready : Table → VolId → Bool
is_unready t v = is_unready_at t.status (volume_of t.plan v)

abbrev pub kind_room : Geometry → Plan → VolumeKind → ℕ → Room
kind_room g p (Soft s) need = room_for g p s.base s.extents need
kind_room g p _ need = Extents []

abbrev pub room_at : Geometry → Plan → Option OneVolume → ℕ → Room
room_at g p None need = Extents []
room_at g p (Some v) need = kind_room g p v.kind need

-- its extents, with those that its base gives behind them
abbrev pub grown_room : Geometry → Plan → VolId → ℕ → Room
grown_room g p v need = room_at g p (volume_of p v) need

-- what refuses the blocks
abbrev pub grow_condition : Geometry → Table → VolId → ℕ → Cause → Bool
grow_condition g t v need NoSuchVolume = is_no_volume t.plan v
grow_condition g t v need WrongKind = is_no_soft t.plan v
grow_condition g t v need WrongState = is_unready t v
grow_condition g t v need TooMany = is_too_many (grown_room g t.plan v need)
grow_condition g t v need TooSmall = need == 0
grow_condition g t v need NoSpace = is_short (grown_room g t.plan v need)
grow_condition g t v need _ = false

abbrev pub kind_grown : Room → VolumeKind → VolumeKind
kind_grown room (Soft s) = Soft (record s { extents = extents_in room })
kind_grown room kind = kind

-- with these extents
abbrev pub grown : Room → OneVolume → OneVolume
grown room v = record v { kind = kind_grown room v.kind }
