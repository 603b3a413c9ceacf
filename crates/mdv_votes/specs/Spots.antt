-- Lists of places and seats, and how many of them are in a set.
use Rattle.std.specs.Prelude.{◌*◌, ◌&&◌, ◌||◌, ◌==◌, not, Bool, true, false, List, [], ◌∷◌, Option, None, Some, length, count_by, nat_lt, nat_le, cond}
use Rattle.std.specs.List.{list_any}
use Rattle.mdv_votes.specs.declared.spot.Spot.{Spot}
use Rattle.mdv_votes.specs.declared.spot.SpotLists.{SpotLists}

-- one seat is never also a place
abbrev pub same_kind : Bool → Bool → Bool
same_kind true b = b
same_kind false b = not b

abbrev pub same_spot : Spot → Spot → Bool
same_spot p q = (p.drive.0 == q.drive.0) && ((p.first == q.first) && same_kind p.mediator q.mediator)

abbrev pub is_in : List Spot → Spot → Bool
is_in list p = list_any (λ q. same_spot q p) list

-- the same spots in the same order
abbrev pub same_spots : List Spot → List Spot → Bool
same_spots [] [] = true
same_spots [] (q ∷ qs) = false
same_spots (p ∷ ps) [] = false
same_spots (p ∷ ps) (q ∷ qs) = same_spot p q && same_spots ps qs

-- more than half of the list is in the set
abbrev pub is_majority : (Spot → Bool) → List Spot → Bool
is_majority set list = nat_lt (length list) (2 * count_by set list)

-- at least half of the list is in the set
abbrev pub is_half : (Spot → Bool) → List Spot → Bool
is_half set list = nat_le (length list) (2 * count_by set list)

abbrev pub is_none : List Spot → Bool
is_none [] = true
is_none (p ∷ ps) = false

-- the test holds of each list of places
abbrev pub covers_second : (List Spot → Bool) → Option (List Spot) → Bool
covers_second test None = true
covers_second test (Some list) = test list

abbrev pub covers : (List Spot → Bool) → SpotLists → Bool
covers test lists = test lists.first && covers_second test lists.second

-- the list that stands once the change of places is over
abbrev pub last_or : List Spot → Option (List Spot) → List Spot
last_or first None = first
last_or first (Some list) = list

abbrev pub last_list : SpotLists → List Spot
last_list lists = last_or lists.first lists.second

abbrev pub in_second : Option (List Spot) → Spot → Bool
in_second None p = false
in_second (Some list) p = is_in list p

-- a place is named by the lists of places, a seat by the mediators
abbrev pub is_named : SpotLists → Spot → Bool
is_named lists p = cond p.mediator (is_in lists.mediators p) (is_in lists.first p || in_second lists.second p)
