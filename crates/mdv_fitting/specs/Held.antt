-- Values by numbers, in cells, and beside them in a map.
use Rattle.std.specs.Prelude.{◌≡◌, ℕ, ◌%◌, ◌==◌, Bool, true, Option, None, Some, slice_index_or, if◌then◌else◌}
use Rattle.std.specs.BTreeMap.{get}
use Rattle.std.specs.Option.{option_or}
use Rattle.std.specs.Ordering.{nat_cmp}
use Rattle.mdv_fitting.specs.declared.held.Entry.{Entry}
use Rattle.mdv_fitting.specs.declared.held.Held.{Held}

-- what stands in the cell of the number
abbrev pub cell_at : {V : Type 0} → Held V → ℕ → Option (Entry V)
cell_at m k = slice_index_or m.cells.items (k % 8191) None

-- nothing stands there, or the number
abbrev pub is_free : {V : Type 0} → Option (Entry V) → ℕ → Bool
is_free None k = true
is_free (Some e) k = e.key == k

-- the value of the number, which may stand in that cell, or else in the map
abbrev pub in_cell : {V : Type 0} → Option (Entry V) → Option V → ℕ → Option V
in_cell None rest k = rest
in_cell (Some e) rest k = if e.key == k then Some e.value else rest

abbrev pub held : {V : Type 0} → Held V → ℕ → Option V
held m k = in_cell (cell_at m k) (get nat_cmp m.rest k) k

abbrev pub value_at : {V : Type 0} → ℕ → V → ℕ → Option V
value_at key v k = if key == k then Some v else None

-- with one value more; where its number has one, that one stays
abbrev pub HasValue : {V : Type 0} → Held V → ℕ → V → Held V → Type 0
HasValue m key v n = (k : ℕ) → held n k ≡ option_or (held m k) (value_at key v k)

-- with one value put in
abbrev pub PutsValue : {V : Type 0} → Held V → ℕ → V → Held V → Type 0
PutsValue m key v n = (k : ℕ) → held n k ≡ (if key == k then Some v else held m k)
