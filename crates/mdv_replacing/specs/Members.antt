-- The components of a volume, each with its state.
use Rattle.std.specs.Prelude.{Bool, not, List, [], ◌∷◌, map, filter, Option, None, Some}
use Rattle.std.specs.List.{find, flat_map}
use Rattle.mdv_replacing.specs.Below.{VolId, Plan, Table, Base, Component, OneVolume, VolumeKind, Stripe, Raid, VolumeStatus, KindStatus, StripeKind, RaidKind, PartStatus, is_part_on, row_parts, status_at, volume_of}
use Rattle.mdv_replacing.specs.Holding.{holder_of}
use Rattle.mdv_replacing.specs.declared.members.Member.{Member}

abbrev pub kind_components : VolumeKind → List Component
kind_components (Stripe s) = flat_map row_parts s.rows
kind_components (Raid r) = r.columns
kind_components _ = []

abbrev pub components_at : Option OneVolume → List Component
components_at None = []
components_at (Some v) = kind_components v.kind

-- the volume's own, in order
abbrev pub components_of : Plan → VolId → List Component
components_of p v = components_at (volume_of p v)

abbrev pub kind_states : KindStatus → List PartStatus
kind_states (StripeKind parts) = parts
kind_states (RaidKind r) = r.columns
kind_states _ = []

abbrev pub states_at : Option VolumeStatus → List PartStatus
states_at None = []
states_at (Some s) = kind_states s.kind

abbrev pub member : Component → PartStatus → Member
member c part = record { component = c; part = part }

-- as far as there are both components and states
abbrev pub members : List Component → List PartStatus → List Member
members [] parts = []
members (c ∷ cs) [] = []
members (c ∷ cs) (part ∷ parts) = member c part ∷ members cs parts

abbrev pub members_of : Table → VolId → List Member
members_of t v = members (components_of t.plan v) (states_at (status_at t.status v))

abbrev pub is_member : Base → Member → Bool
is_member b m = is_part_on b m.component

abbrev pub is_beside : Base → Member → Bool
is_beside b m = not (is_member b m)

abbrev pub member_in : Table → Option VolId → Base → Option Member
member_in t None b = None
member_in t (Some h) b = find (is_member b) (members_of t h)

-- the component of the mirror or RAID-5 volume with this base
abbrev pub member_of : Table → VolId → Base → Option Member
member_of t v b = member_in t (holder_of t.plan v b) b

abbrev pub part_in : Member → PartStatus
part_in m = m.part

-- the states of the other columns of a RAID-5 volume; none of a mirror, which has no components itself
abbrev pub others : Table → VolId → Base → List PartStatus
others t v b = map part_in (filter (is_beside b) (members_of t v))
