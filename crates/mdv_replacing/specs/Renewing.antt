-- A component that is enabled, or in whose place another one comes: what its volume and the states are then, and which spare comes free.
use Rattle.std.specs.Prelude.{ℕ, List, [], ◌∷◌, map, Option, None, Some, if◌then◌else◌}
use Rattle.std.specs.Option.{option_map}
use Rattle.mdv_replacing.specs.Below.{VolId, SliceName, Geometry, Plan, Table, Base, Component, Row, OneVolume, VolumeKind, Stripe, Raid, VolumeStatus, KindStatus, StripeKind, RaidKind, PartStatus, SpareUse, Resyncing, Whole, is_part_on, start_of, status_at, volume_of}
use Rattle.mdv_replacing.specs.Holding.{holder_of}
use Rattle.mdv_replacing.specs.Members.{components_of, is_member, member_of, members}
use Rattle.mdv_replacing.specs.declared.members.Member.{Member}

-- the new base from this block on in the place of the old one; how many blocks there are stays
abbrev pub renewed : Base → Base → ℕ → Component → Component
renewed old new start c = if is_part_on old c then record { on = new; start = start; blocks = c.blocks } else c

abbrev pub row_renewed : Base → Base → ℕ → Row → Row
row_renewed old new start r = record r { components = map (renewed old new start) r.components }

abbrev pub kind_renewed : Base → Base → ℕ → VolumeKind → VolumeKind
kind_renewed old new start (Stripe s) = Stripe (record s { rows = map (row_renewed old new start) s.rows })
kind_renewed old new start (Raid r) = Raid (record r { columns = map (renewed old new start) r.columns })
kind_renewed old new start kind = kind

abbrev pub volume_renewed : Base → Base → ℕ → OneVolume → OneVolume
volume_renewed old new start v = record v { kind = kind_renewed old new start v.kind }

abbrev pub renewed_in : Plan → Base → Base → ℕ → Option VolId → Option OneVolume
renewed_in p old new start None = None
renewed_in p old new start (Some h) = option_map (volume_renewed old new start) (volume_of p h)

-- the submirror or RAID-5 volume that has the old component, with the new one in its place
abbrev pub renewed_volume : Geometry → Plan → VolId → Base → Base → Option OneVolume
renewed_volume g p v old new = renewed_in p old new (start_of g p new) (holder_of p v old)

-- it is copied whole, to its own base
abbrev pub part_renewed : Base → Member → PartStatus
part_renewed b m = if is_member b m then record { state = Resyncing Whole; spare = None } else m.part

abbrev pub parts_renewed : Base → List Component → List PartStatus → List PartStatus
parts_renewed b cs parts = map (part_renewed b) (members cs parts)

abbrev pub kind_restated : Base → List Component → KindStatus → KindStatus
kind_restated b cs (StripeKind parts) = StripeKind (parts_renewed b cs parts)
kind_restated b cs (RaidKind r) = RaidKind (record r { columns = parts_renewed b cs r.columns })
kind_restated b cs kind = kind

abbrev pub restated : Base → List Component → VolumeStatus → VolumeStatus
restated b cs s = record s { kind = kind_restated b cs s.kind }

abbrev pub restated_at : Base → List Component → Option VolumeStatus → List VolumeStatus
restated_at b cs None = []
restated_at b cs (Some s) = restated b cs s ∷ []

abbrev pub restated_in : Table → Base → Option VolId → List VolumeStatus
restated_in t b None = []
restated_in t b (Some h) = restated_at b (components_of t.plan h) (status_at t.status h)

-- the states of the submirror or RAID-5 volume that has the component
abbrev pub part_states : Table → VolId → Base → List VolumeStatus
part_states t v b = restated_in t b (holder_of t.plan v b)

abbrev pub spare_slices : Option SpareUse → List SliceName
spare_slices None = []
spare_slices (Some u) = u.slice ∷ []

abbrev pub freed_at : Option Member → List SliceName
freed_at None = []
freed_at (Some m) = spare_slices m.part.spare

-- the spare on which it lay
abbrev pub freed_spares : Table → VolId → Base → List SliceName
freed_spares t v b = freed_at (member_of t v b)
