-- What a table tells of each thing that a note can name.
use Rattle.std.specs.Prelude.{ℕ, Bool, ◌==◌, List, [], ◌∷◌, Option, None, Some, find, slice_get, if◌then◌else◌}
use Rattle.std.specs.Option.{option_map}
use Rattle.mdv_notes.specs.Below.{VolId, SliceName, slice_code, KindStatus, StripeNoted, MirrorNoted, RaidNoted, PartStatus, RaidState, SpareState, SpareStatus, SpareUse, Status, VolumeStatus, Table}
use Rattle.mdv_notes.specs.Flags.{subs_of}
use Rattle.mdv_notes.specs.Regions.{is_region_dirty}
use Rattle.mdv_notes.specs.Spares.{spare_key}
use Rattle.mdv_notes.specs.declared.note.PartAt.{PartAt}

-- what is noted of a volume
abbrev pub status_at : Status → VolId → Option VolumeStatus
status_at s v = find (λ w. w.number.0 == v.0) s.volumes

-- one thing of it, and something else where there is nothing
abbrev pub told_of : {A : Type 0} → A → (KindStatus → A) → Option VolumeStatus → A
told_of none one None = none
told_of none one (Some s) = one s.kind

abbrev pub kind_parts : KindStatus → List PartStatus
kind_parts (StripeNoted parts) = parts
kind_parts (RaidNoted r) = r.columns
kind_parts _ = []

-- the state of a component
abbrev pub part_at : Status → PartAt → Option PartStatus
part_at s at = slice_get (told_of [] kind_parts (status_at s at.volume)) at.place

abbrev pub spare_of : Option PartStatus → Option SpareUse
spare_of None = None
spare_of (Some p) = p.spare

-- the spare on which it lies
abbrev pub spare_under : Status → PartAt → Option SpareUse
spare_under s at = spare_of (part_at s at)

abbrev pub kind_dirty : KindStatus → List ℕ
kind_dirty (MirrorNoted m) = m.dirty
kind_dirty _ = []

-- the regions of a mirror
abbrev pub dirty_of : Status → VolId → List ℕ
dirty_of s m = told_of [] kind_dirty (status_at s m)

abbrev pub region_at : Status → VolId → ℕ → Bool
region_at s m r = is_region_dirty (dirty_of s m) r

abbrev pub kind_flags : KindStatus → List Bool
kind_flags (MirrorNoted m) = m.offline
kind_flags _ = []

-- the flag beside this submirror
abbrev pub flag_of : VolId → List VolId → List Bool → Option Bool
flag_of v [] flags = None
flag_of v (w ∷ ws) [] = None
flag_of v (w ∷ ws) (flag ∷ flags) = if w.0 == v.0 then Some flag else flag_of v ws flags

-- whether a submirror of a mirror is offline
abbrev pub offline_at : Table → VolId → VolId → Option Bool
offline_at t m v = flag_of v (subs_of t.plan m) (told_of [] kind_flags (status_at t.status m))

abbrev pub kind_state : KindStatus → Option RaidState
kind_state (RaidNoted r) = Some r.state
kind_state _ = None

-- how far a RAID-5 volume is made
abbrev pub raid_at : Status → VolId → Option RaidState
raid_at s v = told_of None kind_state (status_at s v)

abbrev pub state_in : SpareStatus → SpareState
state_in s = s.state

-- the state of a spare
abbrev pub spare_at : Status → SliceName → Option SpareState
spare_at s name = option_map state_in (find (λ x. spare_key x == slice_code name) s.spares)
