-- Volumes that are soft partitions, or have one as a component.
use Rattle.std.specs.Prelude.{Bool, true, false, not, Option, None, Some}
use Rattle.std.specs.List.{list_any}
use Rattle.mdv_components.specs.Below.{VolId, Plan, Component, Row, OneVolume, VolumeKind, Stripe, Mirror, Raid, Soft}
use Rattle.mdv_components.specs.Bases.{is_slice, volume_of}

-- a component that isn't a slice is a soft partition
abbrev pub is_on_soft : Component → Bool
is_on_soft c = not (is_slice c.on)

abbrev pub is_row_on_soft : Row → Bool
is_row_on_soft row = list_any is_on_soft row.components

-- it is a soft partition, or has one as a component
abbrev pub has_soft : VolumeKind → Bool
has_soft (Stripe s) = list_any is_row_on_soft s.rows
has_soft (Mirror m) = false
has_soft (Raid r) = list_any is_on_soft r.columns
has_soft (Soft s) = true

abbrev pub has_soft_at : Option OneVolume → Bool
has_soft_at None = false
has_soft_at (Some v) = has_soft v.kind

abbrev pub has_soft_in : Plan → VolId → Bool
has_soft_in p v = has_soft_at (volume_of p v)
