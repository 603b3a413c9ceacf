-- Whether each block of a mirror has a copy that may be read.
use Rattle.std.specs.Prelude.{Bool, true, not, List, filter, map}
use Rattle.std.specs.List.{list_all}
use Rattle.mdv_shape.specs.Below.{VolId, Leg, OneVolume, Table, VolumeKind, Mirror, any_below, is_bare, legs_of, volume_in}

abbrev pub is_up : Leg → Bool
is_up l = not l.offline

-- the submirrors that aren't offline
abbrev pub up_in : List Leg → List VolId
up_in ls = map volume_in (filter is_up ls)

abbrev pub is_kind_covered : Table → VolId → VolumeKind → Bool
is_kind_covered t v (Mirror m) = not (any_below (is_bare t (up_in (legs_of t v))) m.blocks)
is_kind_covered t v kind = true

abbrev pub is_covered : Table → OneVolume → Bool
is_covered t w = is_kind_covered t w.number w.kind

abbrev pub are_covered : Table → Bool
are_covered t = list_all (is_covered t) t.plan.volumes
