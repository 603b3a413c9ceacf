-- By what each volume is used: by one mirror, stripe or RAID-5 volume, by soft partitions, or by nothing.
use Rattle.std.specs.Prelude.{◌≡◌, ℕ, Bool, false, nat_eq, List, [], map}
use Rattle.std.specs.List.{IsDistinct, flat_map, list_any}
use Rattle.mdv_shape.specs.Below.{VolId, Plan, OneVolume, VolumeKind, Soft, kind_below, volume_key}

abbrev pub kind_taken : VolumeKind → List VolId
kind_taken (Soft s) = []
kind_taken kind = kind_below kind

abbrev pub kind_carried : VolumeKind → List VolId
kind_carried (Soft s) = kind_below (Soft s)
kind_carried kind = []

abbrev pub taken_by : OneVolume → List VolId
taken_by w = kind_taken w.kind

abbrev pub carried_by : OneVolume → List VolId
carried_by w = kind_carried w.kind

-- the volumes that mirrors, stripes and RAID-5 volumes name, each as often as it is named
abbrev pub taken : Plan → List ℕ
taken p = map volume_key (flat_map taken_by p.volumes)

-- those on which soft partitions lie
abbrev pub carrying : Plan → List ℕ
carrying p = map volume_key (flat_map carried_by p.volumes)

abbrev pub is_taken : Plan → ℕ → Bool
is_taken p n = list_any (nat_eq n) (taken p)

-- none of them is named twice, and no soft partition lies on one
pub record HaveOwners (p : Plan) : Type 0 where
  pub once : IsDistinct nat_eq (taken p)
  pub apart : list_any (is_taken p) (carrying p) ≡ false
