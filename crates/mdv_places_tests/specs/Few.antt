-- What is tested of a list that comes, and of a slice.
use Rattle.std.specs.Prelude.{◌≡◌, ◌≤◌, List, [], ◌∷◌, length, All, Some}
use Rattle.mdv_base.specs.declared.place.Place.{Place}
use Rattle.mdv_name.specs.declared.slice_lines.SliceLine.{SliceLine}
use Rattle.mdv_store.specs.declared.seats.Seat.{Seat}
use Rattle.mdv_survey.specs.declared.replica.Replica.{Replica}

-- it isn't empty, nor has it more than fifty places
pub record AreFew (list : List Place) : Type 0 where
  pub some : 1 ≤ length list
  pub few : length list ≤ 50

-- none of the places lies on the slice
abbrev pub IsBare : List Place → SliceLine → Type 0
IsBare places line = All (λ (p : Place). p.slice ≡ line.name → ⊥) places

-- there is one place, and it is active
pub record IsOnly (places : List Place) (seats : List Seat) : Type 0 where
  pub place : Place
  pub replica : Replica
  pub only : places ≡ place ∷ []
  pub active : seats ≡ (record { place = place; replica = Some replica }) ∷ []
