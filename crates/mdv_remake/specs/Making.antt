-- Entries that are made one after another.
use Rattle.std.specs.Prelude.{◌≡◌, ℕ, List, [], ◌∷◌, Option, None, Some, slice_get}
use Rattle.std.specs.List.{filter_map}
use Rattle.mdv_remake.specs.Below.{Change, DriveNo, Entry, Geometry, Refusal, Table, refusal_of, table_after}
use Rattle.mdv_remake.specs.Asked.{asked_of}

-- why the change is refused; where none is asked nothing is
abbrev pub refused : Geometry → List DriveNo → Table → Option Change → Option Refusal
refused g drives t None = None
refused g drives t (Some change) = refusal_of g drives t change

abbrev pub after : Geometry → Table → Option Change → Table
after g t None = t
after g t (Some change) = table_after g t change

-- they are made in this order, and none is refused
abbrev pub AreMade : Geometry → List DriveNo → List Entry → Table → Table → Type 0
AreMade g drives [] old new = new ≡ old
AreMade g drives (e ∷ es) old new = (refused g drives old (asked_of e) ≡ None) × AreMade g drives es (after g old (asked_of e)) new

-- the entries at these places
abbrev pub at_places : List Entry → List ℕ → List Entry
at_places es places = filter_map (λ i. slice_get es i) places
