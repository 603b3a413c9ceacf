-- The places that a plan lists, and the slices that it uses.
use Rattle.std.specs.Prelude.{◌==◌, ◌&&◌, Bool, not, List, [], ◌∷◌, ◌++◌, map, filter, flat_map, Contains}
use Rattle.std.specs.List.{list_any}
use Rattle.mdv_config.specs.Below.{SliceName, Place, SliceLine, same_slice, Lists, One, Two, Plan, Table, Base, Slice, Volume, Component, Row, OneVolume, VolumeKind, Stripe}
use Rattle.mdv_config.specs.Slices.{Overlaps}

-- the same blocks of one slice
abbrev pub same_place : Place → Place → Bool
same_place p q = same_slice p.slice q.slice && ((p.start == q.start) && (p.blocks == q.blocks))

-- those of the second list that the first one lacks
abbrev pub beside : List Place → List Place → List Place
beside old new = filter (λ p. not (list_any (same_place p) old)) new

-- each listed place once, one that is in both lists too
abbrev pub places_of : Lists → List Place
places_of (One places) = places
places_of (Two old new) = old ++ beside old new

-- the list that was, where places change
abbrev pub first_of : Lists → List Place
first_of (One places) = places
first_of (Two old new) = old

-- the list that comes, where places change
abbrev pub last_of : Lists → List Place
last_of (One places) = places
last_of (Two old new) = new

-- the table with these lists of places
abbrev pub with_lists : Table → Lists → Table
with_lists t lists = record t { plan = record t.plan { lists = lists } }

-- the change of places is over
abbrev pub settled : Table → Table
settled t = record t { plan = record t.plan { lists = One (last_of t.plan.lists) } }

abbrev pub place_slices : List Place → List SliceName
place_slices places = map (λ p. p.slice) places

abbrev pub base_slices : Base → List SliceName
base_slices (Slice s) = s ∷ []
base_slices (Volume v) = []

abbrev pub part_slices : Component → List SliceName
part_slices c = base_slices c.on

abbrev pub row_slices : Row → List SliceName
row_slices row = flat_map part_slices row.components

-- volumes of stripes alone have rows
abbrev pub kind_rows : VolumeKind → List Row
kind_rows (Stripe s) = s.rows
kind_rows other = []

-- the slices of a volume's components, row by row
abbrev pub kind_slices : VolumeKind → List SliceName
kind_slices kind = flat_map row_slices (kind_rows kind)

abbrev pub volume_slices : OneVolume → List SliceName
volume_slices v = kind_slices v.kind

abbrev pub component_slices : List OneVolume → List SliceName
component_slices vs = flat_map volume_slices vs

-- those of the replicas and those of the components
abbrev pub used_slices : Plan → List SliceName
used_slices p = place_slices (places_of p.lists) ++ component_slices p.volumes

-- one of the slices in use is this one or overlaps it
pub record IsInUse (lines : List SliceLine) (uses : List SliceName) (name : SliceName) : Type 0 where
  pub by : SliceName
  pub used : Contains uses by
  pub overlaps : Overlaps lines by name

-- each overlaps none that is in use, and none in front of it
abbrev pub AreFree : List SliceLine → List SliceName → List SliceName → Type 0
AreFree lines uses [] = Unit {0}
AreFree lines uses (name ∷ names) = (IsInUse lines uses name → ⊥) × AreFree lines (uses ++ name ∷ []) names
