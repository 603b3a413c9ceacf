-- The states of a stripe that becomes a submirror.
use Rattle.std.specs.Prelude.{ℕ, ◌==◌, List, [], ◌∷◌, map, Option, None, Some}
use Rattle.std.specs.List.{find}
use Rattle.mdv_submirrors.specs.Below.{VolId, Status, VolumeStatus, KindStatus, StripeKind, PartStatus, State, Okay, Resyncing, Whole, replaced}

abbrev pub kind_parts : KindStatus → List PartStatus
kind_parts (StripeKind parts) = parts
kind_parts _ = []

abbrev pub parts_at : Option VolumeStatus → List PartStatus
parts_at None = []
parts_at (Some s) = kind_parts s.kind

-- a spare that a component lies on stays
abbrev pub with_state : State → PartStatus → PartStatus
with_state state part = record part { state = state }

abbrev pub status_at : Status → VolId → Option VolumeStatus
status_at s v = find (λ w. w.number.0 == v.0) s.volumes

-- each of its components is in this state
abbrev pub joined : State → Status → VolId → VolumeStatus
joined state s v = record { number = v; kind = StripeKind (map (with_state state) (parts_at (status_at s v))) }

-- the first submirror of a new mirror is Okay, the others are copied whole
abbrev pub all_joined : Status → List VolId → List VolumeStatus
all_joined s [] = []
all_joined s (v ∷ vs) = joined Okay s v ∷ map (joined (Resyncing Whole) s) vs

abbrev pub status_key : VolumeStatus → ℕ
status_key w = w.number.0

-- each of these in the place of the one of its volume
abbrev pub noted : List VolumeStatus → List VolumeStatus → List VolumeStatus
noted statuses ws = replaced status_key statuses ws
