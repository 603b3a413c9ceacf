-- The submirrors of a mirror, each with whether it is offline.
use Rattle.std.specs.Prelude.{Bool, false, not, ◌==◌, ◌&&◌, List, [], ◌∷◌, map, filter, drop, Option, None, Some, if◌then◌else◌}
use Rattle.std.specs.List.{list_any}
use Rattle.mdv_copies.specs.Below.{VolId, Table, VolumeStatus, KindStatus, MirrorKind, status_at, subs_of}
use Rattle.mdv_copies.specs.declared.legs.Leg.{Leg}

abbrev pub leg : VolId → Bool → Leg
leg v is = record { volume = v; offline = is }

abbrev pub first_flag : List Bool → Bool
first_flag [] = false
first_flag (flag ∷ flags) = flag

-- one of which nothing is noted isn't offline
abbrev pub legs : List VolId → List Bool → List Leg
legs [] flags = []
legs (v ∷ vs) flags = leg v (first_flag flags) ∷ legs vs (drop 1 flags)

abbrev pub kind_flags : KindStatus → List Bool
kind_flags (MirrorKind s) = s.offline
kind_flags _ = []

abbrev pub flags_at : Option VolumeStatus → List Bool
flags_at None = []
flags_at (Some s) = kind_flags s.kind

-- those of the mirror, in order
abbrev pub legs_of : Table → VolId → List Leg
legs_of t m = legs (subs_of t.plan m) (flags_at (status_at t.status m))

abbrev pub is_leg : VolId → Leg → Bool
is_leg v l = l.volume.0 == v.0

abbrev pub is_offline_leg : VolId → Leg → Bool
is_offline_leg v l = is_leg v l && l.offline

-- whether the volume is in the mirror
abbrev pub is_in : List Leg → VolId → Bool
is_in ls v = list_any (is_leg v) ls

-- whether it is offline there
abbrev pub is_offline : List Leg → VolId → Bool
is_offline ls v = list_any (is_offline_leg v) ls

abbrev pub is_other : VolId → Leg → Bool
is_other v l = not (is_leg v l)

-- another submirror, which isn't offline
abbrev pub is_beside : VolId → Leg → Bool
is_beside v l = is_other v l && not l.offline

abbrev pub volume_in : Leg → VolId
volume_in l = l.volume

abbrev pub flag_in : Leg → Bool
flag_in l = l.offline

-- the other submirrors that aren't offline
abbrev pub others : List Leg → VolId → List VolId
others ls v = map volume_in (filter (is_beside v) ls)

-- the flags of the other submirrors
abbrev pub flags_less : List Leg → VolId → List Bool
flags_less ls v = map flag_in (filter (is_other v) ls)

abbrev pub leg_put : VolId → Bool → Leg → Leg
leg_put v is l = if is_leg v l then leg l.volume is else l

-- the flags, with that of this submirror set so
abbrev pub flags_with : List Leg → VolId → Bool → List Bool
flags_with ls v is = map flag_in (map (leg_put v is) ls)
