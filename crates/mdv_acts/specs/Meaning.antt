-- What the order of wipes is, in words of slices.
use Rattle.std.specs.Prelude.{◌≡◌, ◌⊎◌, true, false, List, [], ◌∷◌, filter, reverse}
use Rattle.std.specs.List.{list_any}
use Rattle.mdv_base.specs.declared.drive.SliceName.{SliceName}
use Rattle.mdv_name.specs.SliceIndex.{same_slice}
use Rattle.mdv_acts.specs.Below.{Place}
use Rattle.mdv_acts.specs.Wipes.{wipe_order}

abbrev pub on_slice : SliceName → List Place → List Place
on_slice slice places = filter (λ (p : Place). same_slice p.slice slice) places

-- behind a place comes one of its slice, or no later one is of it
abbrev pub IsFollowed : Place → List Place → Type 0
IsFollowed p [] = Unit {0}
IsFollowed p (q ∷ rest) = (same_slice q.slice p.slice ≡ true) ⊎ (list_any (λ (r : Place). same_slice r.slice p.slice) (q ∷ rest) ≡ false)

-- the places of each slice stand one behind another
abbrev pub AreTogether : List Place → Type 0
AreTogether [] = Unit {0}
AreTogether (p ∷ rest) = IsFollowed p rest × AreTogether rest

pub record WipeOrdersTell : Type 0 where
  -- they are the places of each slice, the last of the list first
  pub last_first : (places : List Place) (slice : SliceName) → on_slice slice (wipe_order places) ≡ reverse (on_slice slice places)
  -- slice after slice
  pub together : (places : List Place) → AreTogether (wipe_order places)
