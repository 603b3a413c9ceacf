-- Where the slices of a table of drives lie, by their numbers.
use Rattle.std.specs.Prelude.{◌≡◌, ℕ, ◌==◌, List, Option}
use Rattle.std.specs.List.{find}
use Rattle.std.specs.Option.{option_map}
use Rattle.mdv_name.specs.declared.slice_lines.SliceLine.{SliceLine}
use Rattle.mdv_fitting.specs.Below.{Geometry, SliceAt, slice_code}
use Rattle.mdv_fitting.specs.Held.{held}
use Rattle.mdv_fitting.specs.declared.held.Held.{Held}

abbrev pub at_of : SliceLine → SliceAt
at_of line = line.at

-- where the first slice of this number lies
abbrev pub at_number : List SliceLine → ℕ → Option SliceAt
at_number lines k = option_map at_of (find (λ line. slice_code line.name == k) lines)

abbrev pub AreAt : List SliceLine → Held SliceAt → Type 0
AreAt lines m = (k : ℕ) → held m k ≡ at_number lines k

abbrev pub AreSlices : Geometry → Held SliceAt → Type 0
AreSlices g m = AreAt g.slices m
