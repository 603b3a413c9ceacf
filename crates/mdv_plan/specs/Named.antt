-- The volumes that a volume names.
use Rattle.std.specs.Prelude.{List, [], ◌∷◌}
use Rattle.std.specs.List.{flat_map}
use Rattle.mdv_base.specs.declared.name.VolId.{VolId}
use Rattle.mdv_plan.specs.declared.volume.Base.{Base}
use Rattle.mdv_plan.specs.declared.volume.Component.{Component}
use Rattle.mdv_plan.specs.declared.volume.Row.{Row}
use Rattle.mdv_plan.specs.declared.volume.VolumeKind.{VolumeKind}
use Rattle.mdv_plan.specs.declared.volume.Base.TheVariants.{Slice, Volume}
use Rattle.mdv_plan.specs.declared.volume.VolumeKind.TheVariants.{Stripe, Mirror, Raid, Soft}

abbrev pub base_below : Base → List VolId
base_below (Slice s) = []
base_below (Volume v) = v ∷ []

abbrev pub component_below : Component → List VolId
component_below c = base_below c.on

abbrev pub row_below : Row → List VolId
row_below row = flat_map component_below row.components

-- the volumes right below it, in the order in which it names them
abbrev pub kind_below : VolumeKind → List VolId
kind_below (Stripe s) = flat_map row_below s.rows
kind_below (Mirror m) = m.submirrors
kind_below (Raid r) = flat_map component_below r.columns
kind_below (Soft s) = base_below s.base
