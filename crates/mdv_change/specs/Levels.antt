-- The volumes that lie below others, level by level.
use Rattle.std.specs.Prelude.{Bool, false, not, ◌&&◌, slice_index_or, is_some, List, [], ◌++◌, filter, Option, None, Some}
use Rattle.std.specs.List.{flat_map, list_any}
use Rattle.mdv_change.specs.Below.{VolId, Plan, OneVolume, kind_below, volume_of, names_volume}
use Rattle.mdv_change.specs.Clear.{is_named}

abbrev pub below_at : Option OneVolume → List VolId
below_at None = []
below_at (Some w) = kind_below w.kind

abbrev pub below_of : Plan → VolId → List VolId
below_of p v = below_at (volume_of p v)

-- another volume than these uses it
abbrev pub uses_beside : List VolId → VolId → OneVolume → Bool
uses_beside volumes v w = not (is_named volumes w.number) && names_volume v w.kind

abbrev pub is_used_beside : Plan → List VolId → VolId → Bool
is_used_beside p volumes v = list_any (uses_beside volumes v) p.volumes

-- it isn't one of them, and only they use it
abbrev pub falls : Plan → List VolId → VolId → Bool
falls p volumes v = is_some (volume_of p v) && (not (is_named volumes v) && not (is_used_beside p volumes v))

-- it is there, and has neither mark
abbrev pub falls_by : Plan → List Bool → List Bool → VolId → Bool
falls_by p named used v = is_some (volume_of p v) && (not (slice_index_or named v.0 false) && not (slice_index_or used v.0 false))

-- with those right below them that nothing else uses
abbrev pub with_level : Plan → List VolId → List VolId
with_level p volumes = volumes ++ filter (falls p volumes) (flat_map (below_of p) volumes)

-- with all levels: below a soft partition may lie a mirror, below that stripes, and below these soft partitions
abbrev pub with_levels : Plan → List VolId → List VolId
with_levels p volumes = with_level p (with_level p (with_level p volumes))
