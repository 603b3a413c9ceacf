-- A submirror that is taken away, goes offline or comes back: what refuses it, and what changes.
use Rattle.std.specs.Prelude.{Bool, false, not, ◌==◌, ◌&&◌, ◌||◌, filter, Option}
use Rattle.std.specs.Option.{option_map}
use Rattle.mdv_copies.specs.Below.{VolId, Table, OneVolume, VolumeKind, Mirror, Cause, Carried, Refusal, StateWord, NoSuchVolume, WrongKind, WrongState, LastCopy, first_of, is_no_mirror, is_no_stripe, is_no_volume, order, told}
use Rattle.mdv_copies.specs.Copies.{is_last}
use Rattle.mdv_copies.specs.Legs.{is_in, is_offline, legs_of}
use Rattle.mdv_copies.specs.States.{is_all_okay, online_word, sub_word}

-- it isn't in the mirror, or not all of it is Okay and nothing forces it
abbrev pub is_held : Table → VolId → VolId → Bool → Bool
is_held t m v force = not (is_in (legs_of t m) v) || (not force && not (is_all_okay t m v))

-- what refuses that the submirror is taken away
abbrev pub detach_condition : Table → VolId → VolId → Bool → Cause → Bool
detach_condition t m v force NoSuchVolume = is_no_volume t.plan m || is_no_volume t.plan v
detach_condition t m v force WrongKind = is_no_mirror t.plan m || is_no_stripe t.plan v
detach_condition t m v force WrongState = is_held t m v force
detach_condition t m v force LastCopy = is_last t m v
detach_condition t m v force _ = false

-- that it goes offline: the same, and nothing forces it
abbrev pub offline_condition : Table → VolId → VolId → Cause → Bool
offline_condition t m v cause = detach_condition t m v false cause

-- that it comes back
abbrev pub online_condition : Table → VolId → VolId → Cause → Bool
online_condition t m v NoSuchVolume = is_no_volume t.plan m || is_no_volume t.plan v
online_condition t m v WrongKind = is_no_mirror t.plan m || is_no_stripe t.plan v
online_condition t m v WrongState = not (is_offline (legs_of t m) v)
online_condition t m v _ = false

-- a refusal for a state tells this one
abbrev pub with_word : StateWord → Carried
with_word word = record { state = word; blocks = 0 }

-- why it can't be taken away, if it can't
abbrev pub detach_refusal : Table → VolId → VolId → Bool → Option Refusal
detach_refusal t m v force = option_map (told (with_word (sub_word t m v))) (first_of (detach_condition t m v force) order)

abbrev pub offline_refusal : Table → VolId → VolId → Option Refusal
offline_refusal t m v = option_map (told (with_word (sub_word t m v))) (first_of (offline_condition t m v) order)

abbrev pub online_refusal : Table → VolId → VolId → Option Refusal
online_refusal t m v = option_map (told (with_word (online_word t m v))) (first_of (online_condition t m v) order)

abbrev pub stays : VolId → VolId → Bool
stays v w = not (w.0 == v.0)

abbrev pub kind_without : VolId → VolumeKind → VolumeKind
kind_without v (Mirror m) = Mirror (record m { submirrors = filter (stays v) m.submirrors })
kind_without v kind = kind

-- the mirror without this submirror; its size stays
abbrev pub without_sub : VolId → OneVolume → OneVolume
without_sub v m = record m { kind = kind_without v m.kind }
