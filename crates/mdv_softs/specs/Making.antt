-- The making of a soft partition: what refuses it, and what the volume is.
use Rattle.std.specs.Prelude.{Bool, false, ◌==◌, ◌||◌, is_some, List, [], length}
use Rattle.mdv_softs.specs.Below.{DriveNo, VolId, Geometry, Plan, Table, Base, OneVolume, VolumeStatus, Soft, SoftKind, Cause, NoSuchVolume, NoSuchSlice, NameTaken, WrongState, TooMany, SliceInUse, HasParent, Nested, TooSmall, NoSpace}
use Rattle.mdv_softs.specs.Below.{is_foreign, is_missing, volume_of, uses_of}
use Rattle.mdv_softs.specs.Asking.{is_initializing, is_slice_in_use, is_volume_taken, is_nested, is_too_many, is_short, is_unfit}
use Rattle.mdv_softs.specs.Room.{room_for, given_room, start_on, extents_in}
use Rattle.mdv_softs.specs.declared.making.RoomAsked.{RoomAsked}
use Rattle.mdv_softs.specs.declared.making.RoomAsked.TheVariants.{Blocks, Extents}
use Rattle.mdv_softs.specs.declared.making.SoftAsked.{SoftAsked}
use Rattle.mdv_softs.specs.declared.room.Room.{Room}

-- what the base gives on which it shall lie
abbrev pub room_on : Geometry → Plan → Base → RoomAsked → Room
room_on g p on (Blocks blocks) = room_for g p on [] blocks
room_on g p on (Extents runs) = given_room g p on runs

abbrev pub soft_room : Geometry → Plan → SoftAsked → Room
soft_room g p asked = room_on g p asked.base asked.room

-- no block is asked for, or no extent
abbrev pub is_nothing : RoomAsked → Bool
is_nothing (Blocks blocks) = blocks == 0
is_nothing (Extents runs) = length runs == 0

-- what refuses the soft partition
abbrev pub soft_condition : Geometry → List DriveNo → Table → VolId → SoftAsked → Cause → Bool
soft_condition g drives t v asked NoSuchVolume = is_missing t.plan asked.base
soft_condition g drives t v asked NoSuchSlice = is_foreign g drives asked.base
soft_condition g drives t v asked NameTaken = is_some (volume_of t.plan v)
soft_condition g drives t v asked WrongState = is_initializing t.status asked.base
soft_condition g drives t v asked TooMany = is_too_many (soft_room g t.plan asked)
soft_condition g drives t v asked SliceInUse = is_slice_in_use g (uses_of t.plan) asked.base
soft_condition g drives t v asked HasParent = is_volume_taken t.plan asked.base
soft_condition g drives t v asked Nested = is_nested t.plan asked.base
soft_condition g drives t v asked TooSmall = is_nothing asked.room || is_unfit (soft_room g t.plan asked)
soft_condition g drives t v asked NoSpace = is_short (soft_room g t.plan asked)
soft_condition g drives t v asked _ = false

-- a soft partition of these extents
abbrev pub soft_on : Geometry → Plan → VolId → Base → Room → OneVolume
soft_on g p v on room = record { number = v; kind = Soft (record { base = on; start = start_on g p on; extents = extents_in room }) }

-- it has no state
abbrev pub soft_status : VolId → VolumeStatus
soft_status v = record { number = v; kind = SoftKind }
