-- Which volumes name a volume or a pool.
use Rattle.std.specs.Prelude.{Bool, false, ◌==◌, Option, None, Some}
use Rattle.std.specs.List.{list_any}
use Rattle.mdv_plan.specs.Below.{VolId, PoolId}
use Rattle.mdv_plan.specs.declared.plan.Plan.{Plan}
use Rattle.mdv_plan.specs.declared.volume.Base.{Base}
use Rattle.mdv_plan.specs.declared.volume.Base.TheVariants.{Slice, Volume}
use Rattle.mdv_plan.specs.declared.volume.Component.{Component}
use Rattle.mdv_plan.specs.declared.volume.Row.{Row}
use Rattle.mdv_plan.specs.declared.volume.VolumeKind.{VolumeKind}
use Rattle.mdv_plan.specs.declared.volume.VolumeKind.TheVariants.{Stripe, Mirror, Raid, Soft}

abbrev pub is_volume : VolId → Base → Bool
is_volume v (Slice s) = false
is_volume v (Volume w) = w.0 == v.0

abbrev pub is_component : VolId → Component → Bool
is_component v c = is_volume v c.on

abbrev pub is_in_row : VolId → Row → Bool
is_in_row v row = list_any (is_component v) row.components

abbrev pub is_submirror : VolId → VolId → Bool
is_submirror v w = w.0 == v.0

-- the volume is a submirror, a component, a column or the base
abbrev pub names_volume : VolId → VolumeKind → Bool
names_volume v (Stripe s) = list_any (is_in_row v) s.rows
names_volume v (Mirror m) = list_any (is_submirror v) m.submirrors
names_volume v (Raid r) = list_any (is_component v) r.columns
names_volume v (Soft s) = is_volume v s.base

-- the same, and what names it leaves no room for a soft partition
abbrev pub takes_volume : VolId → VolumeKind → Bool
takes_volume v (Soft s) = false
takes_volume v kind = names_volume v kind

abbrev pub is_pool : PoolId → Option PoolId → Bool
is_pool p None = false
is_pool p (Some q) = q.0 == p.0

-- the volume takes its spares from the pool
abbrev pub names_pool : PoolId → VolumeKind → Bool
names_pool p (Stripe s) = is_pool p s.spares
names_pool p (Mirror m) = false
names_pool p (Raid r) = is_pool p r.spares
names_pool p (Soft s) = false

-- some volume of the plan uses it
abbrev pub has_parent : Plan → VolId → Bool
has_parent p v = list_any (λ w. names_volume v w.kind) p.volumes

-- some volume that isn't a soft partition does
abbrev pub is_taken : Plan → VolId → Bool
is_taken p v = list_any (λ w. takes_volume v w.kind) p.volumes

abbrev pub is_pool_named : Plan → PoolId → Bool
is_pool_named p pool = list_any (λ w. names_pool pool w.kind) p.volumes
