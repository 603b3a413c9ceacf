-- States of spares that a map holds, by the numbers of their slices.
use Rattle.std.specs.Prelude.{◌≡◌, ◌<◌, ◌^◌, ℕ, List, All, map}
use Rattle.std.specs.BTreeMap.{BTreeMap}
use Rattle.mdv_whole.specs.Below.{RecordedSpare, SpareStatus}
use Rattle.mdv_whole.specs.Parted.{with_spares}
use Rattle.mdv_whole.specs.Sides.{spare_key}

abbrev pub by_key : SpareStatus → ℕ × SpareStatus
by_key s = (spare_key s, s)

-- these and no others, in this order
pub record Holds (m : BTreeMap ℕ SpareStatus) (states : List SpareStatus) : Type 0 where
  pub entries : m.entries ≡ map by_key states
  pub keys : All (λ s. spare_key s < 2 ^ 32) states

-- with the states of these spares
abbrev pub HasSpares : BTreeMap ℕ SpareStatus → List RecordedSpare → BTreeMap ℕ SpareStatus → Type 0
HasSpares m spares n = (states : List SpareStatus) → Holds m states → Holds n (with_spares states spares)
