-- One submirror more: what refuses it, and what changes.
use Rattle.std.specs.Prelude.{ℕ, Bool, true, false, not, ◌==◌, ◌&&◌, ◌||◌, nat_lt, List, [], ◌∷◌, ◌++◌, length, Option, None, Some, if◌then◌else◌}
use Rattle.mdv_submirrors.specs.Below.{VolId, Plan, Cause, NoSuchVolume, WrongKind, TooMany, HasParent, Nested, TooSmall, OneVolume, VolumeKind, Mirror, Status, VolumeStatus, KindStatus, MirrorKind, Resyncing, Whole, volume_of, has_parent, has_soft_in}
use Rattle.mdv_submirrors.specs.Joining.{joined, status_at}
use Rattle.mdv_submirrors.specs.Sizes.{blocks_of, is_no_volume, is_no_stripe}

abbrev pub is_mirror : VolumeKind → Bool
is_mirror (Mirror m) = true
is_mirror _ = false

abbrev pub is_mirror_volume : Option OneVolume → Bool
is_mirror_volume None = false
is_mirror_volume (Some v) = is_mirror v.kind

abbrev pub is_no_mirror : Plan → VolId → Bool
is_no_mirror p v = not (is_mirror_volume (volume_of p v))

abbrev pub kind_subs : VolumeKind → List VolId
kind_subs (Mirror m) = m.submirrors
kind_subs _ = []

abbrev pub subs_at : Option OneVolume → List VolId
subs_at None = []
subs_at (Some v) = kind_subs v.kind

abbrev pub subs_of : Plan → VolId → List VolId
subs_of p v = subs_at (volume_of p v)

abbrev pub kind_size : VolumeKind → ℕ
kind_size (Mirror m) = m.blocks
kind_size _ = 0

abbrev pub size_at : Option OneVolume → ℕ
size_at None = 0
size_at (Some v) = kind_size v.kind

-- the size of the mirror
abbrev pub size_of : Plan → VolId → ℕ
size_of p v = size_at (volume_of p v)

-- soft partitions lie on the mirror, and the stripe has one as a component
abbrev pub is_nesting : Plan → VolId → VolId → Bool
is_nesting p m v = has_soft_in p v && has_parent p m

-- what refuses it: the mirror has four already, or the stripe would bring a soft partition below others, or is smaller than the mirror
abbrev pub attach_condition : Plan → VolId → VolId → Cause → Bool
attach_condition p m v NoSuchVolume = is_no_volume p m || is_no_volume p v
attach_condition p m v WrongKind = is_no_mirror p m || is_no_stripe p v
attach_condition p m v TooMany = nat_lt 3 (length (subs_of p m))
attach_condition p m v HasParent = has_parent p v
attach_condition p m v Nested = is_nesting p m v
attach_condition p m v TooSmall = nat_lt (blocks_of p v) (size_of p m)
attach_condition p m v _ = false

abbrev pub kind_with : VolId → VolumeKind → VolumeKind
kind_with v (Mirror m) = Mirror (record m { submirrors = m.submirrors ++ v ∷ [] })
kind_with v kind = kind

-- a mirror with this submirror behind the others
abbrev pub with_sub : VolId → OneVolume → OneVolume
with_sub v m = record m { kind = kind_with v m.kind }

-- one submirror more that isn't offline
abbrev pub flags_with : List Bool → List Bool
flags_with flags = if length flags == 4 then flags else flags ++ false ∷ []

abbrev pub flagged : KindStatus → KindStatus
flagged (MirrorKind s) = MirrorKind (record s { offline = flags_with s.offline })
flagged kind = kind

abbrev pub with_flag : VolumeStatus → VolumeStatus
with_flag s = record s { kind = flagged s.kind }

abbrev pub flag_at : Option VolumeStatus → List VolumeStatus
flag_at None = []
flag_at (Some s) = with_flag s ∷ []

-- the mirror has one more that isn't offline, and that is copied whole
abbrev pub attach_states : Status → VolId → VolId → List VolumeStatus
attach_states s m v = flag_at (status_at s m) ++ joined (Resyncing Whole) s v ∷ []
