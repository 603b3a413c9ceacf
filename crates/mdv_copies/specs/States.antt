-- The state of a submirror, and what it and its mirror have where it goes offline, comes back or is taken away.
use Rattle.std.specs.Prelude.{ℕ, Bool, false, not, ◌==◌, ◌&&◌, List, [], ◌∷◌, ◌++◌, map, Option, None, Some, if◌then◌else◌}
use Rattle.std.specs.List.{list_all, list_any}
use Rattle.mdv_base.specs.declared.state_word.StateWord.TheVariants as word
use Rattle.mdv_copies.specs.Below.{VolId, Status, Table, VolumeStatus, KindStatus, StripeKind, MirrorKind, PartStatus, State, StateWord, Okay, Resyncing, Maintenance, LastErred, has_dirty, part_resumed, parts_at, status_at}
use Rattle.mdv_copies.specs.Legs.{flags_less, flags_with, is_in, is_offline, legs_of}

-- 0 of Okay, and more of what is worse
abbrev pub badness : State → ℕ
badness Okay = 0
badness (Resyncing r) = 1
badness Maintenance = 2
badness LastErred = 3

abbrev pub is_as_bad : ℕ → PartStatus → Bool
is_as_bad n part = badness part.state == n

-- whether a component is in a state that is so bad
abbrev pub has_one : ℕ → List PartStatus → Bool
has_one n parts = list_any (is_as_bad n) parts

-- the worst state of these components
abbrev pub worst : List PartStatus → StateWord
worst parts = if has_one 3 parts then word.LastErred else (if has_one 2 parts then word.Maintenance else (if has_one 1 parts then word.Resyncing else word.Okay))

abbrev pub parts_of : Status → VolId → List PartStatus
parts_of s v = parts_at (status_at s v)

abbrev pub is_okay : PartStatus → Bool
is_okay part = is_as_bad 0 part

-- whether the submirror isn't offline, and all its components are Okay
abbrev pub is_all_okay : Table → VolId → VolId → Bool
is_all_okay t m v = not (is_offline (legs_of t m) v) && list_all is_okay (parts_of t.status v)

-- its state, where it is in the mirror
abbrev pub sub_word : Table → VolId → VolId → StateWord
sub_word t m v = if is_offline (legs_of t m) v then word.Offline else (if is_in (legs_of t m) v then worst (parts_of t.status v) else word.Absent)

-- that of a submirror that isn't offline
abbrev pub online_word : Table → VolId → VolId → StateWord
online_word t m v = if is_in (legs_of t m) v then word.Online else word.Absent

abbrev pub kind_flagged : List Bool → KindStatus → KindStatus
kind_flagged flags (MirrorKind s) = MirrorKind (record s { offline = flags })
kind_flagged flags kind = kind

abbrev pub flagged : List Bool → VolumeStatus → VolumeStatus
flagged flags s = record s { kind = kind_flagged flags s.kind }

abbrev pub flagged_at : List Bool → Option VolumeStatus → List VolumeStatus
flagged_at flags None = []
flagged_at flags (Some s) = flagged flags s ∷ []

-- the mirror's state without this submirror, whose own state stays
abbrev pub detach_states : Table → VolId → VolId → List VolumeStatus
detach_states t m v = flagged_at (flags_less (legs_of t m) v) (status_at t.status m)

-- the mirror's state with this submirror offline, or not
abbrev pub switched : Table → VolId → VolId → Bool → List VolumeStatus
switched t m v is = flagged_at (flags_with (legs_of t m) v is) (status_at t.status m)

abbrev pub kind_dirty : KindStatus → Bool
kind_dirty (MirrorKind s) = has_dirty s.dirty
kind_dirty _ = false

abbrev pub dirty_at : Option VolumeStatus → Bool
dirty_at None = false
dirty_at (Some s) = kind_dirty s.kind

-- whether a region of the mirror is dirty
abbrev pub is_dirty : Status → VolId → Bool
is_dirty s m = dirty_at (status_at s m)

abbrev pub kind_resumed : Bool → KindStatus → KindStatus
kind_resumed dirty (StripeKind parts) = StripeKind (map (part_resumed dirty) parts)
kind_resumed dirty kind = kind

abbrev pub resumed_at : Bool → Option VolumeStatus → List VolumeStatus
resumed_at dirty None = []
resumed_at dirty (Some s) = record s { kind = kind_resumed dirty s.kind } ∷ []

-- the states of the mirror and of its submirror that is offline no more
abbrev pub online_states : Table → VolId → VolId → List VolumeStatus
online_states t m v = switched t m v false ++ resumed_at (is_dirty t.status m) (status_at t.status v)
