-- What parts name, and the longest run of parts of one kind at a list's front, and what stands behind it.
use Rattle.std.specs.Prelude.{Option, None, Some, List, [], ◌∷◌}
use Rattle.mdv_base.specs.declared.drive.SliceName.{SliceName}
use Rattle.mdv_base.specs.declared.name.VolId.{VolId}
use Rattle.mdv_base.specs.declared.name.PoolId.{PoolId}
use Rattle.mdv_parts.specs.declared.part.Part.{Part}
use Rattle.mdv_parts.specs.declared.part.Part.TheVariants.{Slice, Volume, Pool}
use Rattle.mdv_parts.specs.declared.component.Component.{Component}

abbrev pub slice_of : Part → Option SliceName
slice_of (Slice s) = Some s
slice_of _ = None

abbrev pub volume_of : Part → Option VolId
volume_of (Volume v) = Some v
volume_of _ = None

abbrev pub pool_of : Part → Option PoolId
pool_of (Pool p) = Some p
pool_of _ = None

-- a slice, or a volume of the same database
abbrev pub component_of : Part → Option Component
component_of (Slice s) = Some (Component.Slice s)
component_of (Volume v) = Some (Component.Volume v)
component_of _ = None

abbrev pub grown : {A : Type 0} → Option A → List A → List A
grown None xs = []
grown (Some x) xs = x ∷ xs

-- what the parts of the kind name, up to the first of another kind
abbrev pub front : {A : Type 0} → (Part → Option A) → List Part → List A
front kind [] = []
front kind (p ∷ ps) = grown (kind p) (front kind ps)

abbrev pub passed : {A : Type 0} → Option A → List Part → List Part → List Part
passed None here on = here
passed (Some x) here on = on

-- from the first part of another kind on
abbrev pub behind : {A : Type 0} → (Part → Option A) → List Part → List Part
behind kind [] = []
behind kind (p ∷ ps) = passed (kind p) (p ∷ ps) (behind kind ps)
