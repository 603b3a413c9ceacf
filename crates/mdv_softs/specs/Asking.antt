-- What stands against a base on which soft partitions shall lie.
use Rattle.std.specs.Prelude.{ℕ, Bool, true, false, ◌||◌, List, Option, None, Some}
use Rattle.std.specs.List.{list_any}
use Rattle.mdv_softs.specs.Below.{VolId, Geometry, Plan, Status, VolumeStatus, KindStatus, RaidKind, RaidState, Okay, Initializing, Keeping, Base, Slice, Volume, OneVolume, VolumeKind, Mirror}
use Rattle.mdv_softs.specs.Below.{SliceUse, SomeExtents, Carried, InitializingWord, volume_of, is_taken, clashes, has_soft, has_soft_in, meets_db, status_at}
use Rattle.mdv_softs.specs.declared.room.Room.{Room}
use Rattle.mdv_softs.specs.declared.room.Room.TheVariants.{TooMany, Only, Unfit}

-- zeros or parity are being written to all of it
abbrev pub is_being_made : RaidState → Bool
is_being_made Okay = false
is_being_made Initializing = true
is_being_made Keeping = true

abbrev pub is_kind_being_made : KindStatus → Bool
is_kind_being_made (RaidKind r) = is_being_made r.state
is_kind_being_made _ = false

abbrev pub is_made_at : Option VolumeStatus → Bool
is_made_at None = false
is_made_at (Some s) = is_kind_being_made s.kind

-- the base is a RAID-5 volume that is Initializing
abbrev pub is_initializing : Status → Base → Bool
is_initializing s (Slice n) = false
is_initializing s (Volume v) = is_made_at (status_at s v)

-- a use stands in the way, or a slice that is set aside for replicas
abbrev pub is_slice_in_use : Geometry → List SliceUse → Base → Bool
is_slice_in_use g uses (Slice s) = clashes g SomeExtents s uses || meets_db g s
is_slice_in_use g uses (Volume v) = false

-- another volume than soft partitions uses it
abbrev pub is_volume_taken : Plan → Base → Bool
is_volume_taken p (Slice s) = false
is_volume_taken p (Volume v) = is_taken p v

-- it is a soft partition, or has one as a component, or a submirror of it has
abbrev pub contains_soft : Plan → VolumeKind → Bool
contains_soft p (Mirror m) = list_any (has_soft_in p) m.submirrors
contains_soft p kind = has_soft kind

abbrev pub contains_soft_at : Plan → Option OneVolume → Bool
contains_soft_at p None = false
contains_soft_at p (Some v) = contains_soft p v.kind

-- the base is a soft partition, or contains one
abbrev pub is_nested : Plan → Base → Bool
is_nested p (Slice s) = false
is_nested p (Volume v) = contains_soft_at p (volume_of p v)

abbrev pub is_too_many : Room → Bool
is_too_many TooMany = true
is_too_many _ = false

abbrev pub is_short : Room → Bool
is_short (Only blocks) = true
is_short _ = false

abbrev pub is_unfit : Room → Bool
is_unfit Unfit = true
is_unfit _ = false

abbrev pub blocks_in : Room → ℕ
blocks_in (Only blocks) = blocks
blocks_in _ = 0

-- what a refusal tells: that the base is Initializing, or how many blocks its free runs could give
abbrev pub carried_of : Room → Carried
carried_of room = record { state = InitializingWord; blocks = blocks_in room }
