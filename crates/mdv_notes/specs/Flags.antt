-- Which submirrors of a mirror are offline.
use Rattle.std.specs.Prelude.{Bool, ◌==◌, List, [], ◌∷◌, Option, None, Some, find, if◌then◌else◌}
use Rattle.mdv_notes.specs.Below.{VolId, Plan, OneVolume, VolumeKind, MirrorKind}

abbrev pub flag_noted : VolId → Bool → Option VolId → Bool → Bool
flag_noted v is None flag = flag
flag_noted v is (Some w) flag = if w.0 == v.0 then is else flag

-- each submirror has its flag beside it, and that of this one is so
abbrev pub flags_noted : VolId → Bool → List VolId → List Bool → List Bool
flags_noted v is vs [] = []
flags_noted v is [] (flag ∷ flags) = flag ∷ flags
flags_noted v is (w ∷ ws) (flag ∷ flags) = flag_noted v is (Some w) flag ∷ flags_noted v is ws flags

abbrev pub kind_subs : VolumeKind → List VolId
kind_subs (MirrorKind m) = m.submirrors
kind_subs _ = []

abbrev pub subs_at : Option OneVolume → List VolId
subs_at None = []
subs_at (Some w) = kind_subs w.kind

-- the submirrors of a mirror, in order
abbrev pub subs_of : Plan → VolId → List VolId
subs_of p m = subs_at (find (λ w. w.number.0 == m.0) p.volumes)
