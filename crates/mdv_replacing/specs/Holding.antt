-- Which volume has a component of a mirror or a RAID-5 volume.
use Rattle.std.specs.Prelude.{Bool, true, false, not, Option, None, Some, if◌then◌else◌}
use Rattle.std.specs.List.{find, list_any}
use Rattle.mdv_replacing.specs.Below.{VolId, Plan, Base, OneVolume, VolumeKind, Stripe, Mirror, Raid, has_part_on, is_part_on, volume_of}

-- it has a component with this base itself
abbrev pub is_in_kind : Base → VolumeKind → Bool
is_in_kind b (Stripe s) = list_any (has_part_on b) s.rows
is_in_kind b (Raid r) = list_any (is_part_on b) r.columns
is_in_kind b _ = false

abbrev pub is_in_at : Base → Option OneVolume → Bool
is_in_at b None = false
is_in_at b (Some v) = is_in_kind b v.kind

abbrev pub is_in : Plan → Base → VolId → Bool
is_in p b v = is_in_at b (volume_of p v)

-- the first submirror of a mirror that has one, or the RAID-5 volume itself
abbrev pub kind_holder : Plan → VolId → Base → VolumeKind → Option VolId
kind_holder p v b (Mirror m) = find (is_in p b) m.submirrors
kind_holder p v b (Raid r) = if list_any (is_part_on b) r.columns then Some v else None
kind_holder p v b _ = None

abbrev pub holder_at : Plan → VolId → Base → Option OneVolume → Option VolId
holder_at p v b None = None
holder_at p v b (Some w) = kind_holder p v b w.kind

-- the volume that has the component with this base, if there is such a component
abbrev pub holder_of : Plan → VolId → Base → Option VolId
holder_of p v b = holder_at p v b (volume_of p v)

abbrev pub is_redundant : VolumeKind → Bool
is_redundant (Mirror m) = true
is_redundant (Raid r) = true
is_redundant _ = false

abbrev pub is_redundant_at : Option OneVolume → Bool
is_redundant_at None = false
is_redundant_at (Some v) = is_redundant v.kind

-- neither a mirror nor a RAID-5 volume
abbrev pub is_other_kind : Plan → VolId → Bool
is_other_kind p v = not (is_redundant_at (volume_of p v))
