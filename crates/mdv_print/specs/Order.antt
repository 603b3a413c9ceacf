-- In which order volumes are told.
use Rattle.std.specs.Prelude.{ℕ, zero, suc, Bool, not, ◌==◌, if◌then◌else◌, Option, None, Some, List, [], ◌∷◌, ◌++◌, length, filter, map}
use Rattle.std.specs.List.{find, list_any}
use Rattle.mdv_print.specs.Below.{OneVolume, Plan, VolId, has_parent}
use Rattle.mdv_plan.specs.Named.{kind_below}

abbrev pub is_among : List VolId → VolId → Bool
is_among vs v = list_any (λ w. w.0 == v.0) vs

abbrev pub volume_of : Plan → VolId → Option OneVolume
volume_of p v = find (λ w. w.number.0 == v.0) p.volumes

-- the volume of this number, where it isn't told yet
abbrev pub untold : Plan → List VolId → VolId → Option OneVolume
untold p told v = if is_among told v then None else volume_of p v

abbrev pub first_or : Option OneVolume → List VolId → Option (OneVolume × List VolId) → Option (OneVolume × List VolId)
first_or None vs later = later
first_or (Some w) vs later = Some (w, vs)

-- the first of them that isn't told yet, and those behind it
abbrev pub next_of : Plan → List VolId → List VolId → Option (OneVolume × List VolId)
next_of p told [] = None
next_of p told (v ∷ vs) = first_or (untold p told v) vs (next_of p told vs)

abbrev pub go_on : Option (OneVolume × List VolId) → (OneVolume → List VolId → List OneVolume) → List OneVolume
go_on None next = []
go_on (Some (w, vs)) next = w ∷ next w vs

-- At most so many volumes: the first that isn't told yet, then those below it, and then the others.
abbrev pub walk : ℕ → Plan → List VolId → List VolId → List OneVolume
walk zero p told vs = []
walk (suc n) p told vs = go_on (next_of p told vs) (λ w later. walk n p (told ++ w.number ∷ []) (kind_below w.kind ++ later))

-- each with all volumes below it behind it, and each once; there are no more than the plan has
abbrev pub with_below : Plan → List VolId → List OneVolume
with_below p vs = walk (length p.volumes) p [] vs

-- the volumes that no volume uses, in ascending order
abbrev pub uppermost : Plan → List VolId
uppermost p = filter (λ v. not (has_parent p v)) (map (λ w. w.number) p.volumes)
