-- Volumes that are marked by their numbers, and the next one that isn't.
use Rattle.std.specs.Prelude.{◌≡◌, Bool, false, not, Option, None, Some, List, filter, map, slice_index_or}
use Rattle.mdv_print.specs.Below.{OneVolume, VolId}

-- the next volume is this one, with these behind it, or there is none
abbrev pub IsNext : Option (OneVolume × List VolId) → Option OneVolume → List VolId → Type 0
IsNext next None later = next ≡ None
IsNext next (Some w) later = next ≡ Some (w, later)

abbrev pub unmarked_of : List Bool → List OneVolume → List VolId
unmarked_of marks ws = filter (λ v. not (slice_index_or marks v.0 false)) (map (λ w. w.number) ws)
