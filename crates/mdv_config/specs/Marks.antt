-- The marks of the slices in use, eight for each drive.
use Rattle.std.specs.Prelude.{◌≡◌, ◌↔◌, ◌+◌, ◌*◌, ◌++◌, ℕ, Bool, true, false, IsTrue, List, Contains, slice_index_or}
use Rattle.mdv_config.specs.Below.{SliceName, SliceAt, SliceLine, HasSlice}
use Rattle.mdv_config.specs.Lists.{AreFree}

-- where the mark of the n-th slice of a drive is
abbrev pub mark_place : SliceAt → ℕ → ℕ
mark_place at n = at.drive.0 * 8 + n

abbrev pub mark_at : List Bool → SliceAt → ℕ → Bool
mark_at marks at n = slice_index_or marks (mark_place at n) false

-- exactly the slices in use are marked
pub record IsMarked (lines : List SliceLine) (marks : List Bool) (uses : List SliceName) : Type 0 where
  pub used : (name : SliceName) (at : SliceAt) → HasSlice lines name at → mark_at marks at name.slice ≡ true → Contains uses name
  pub marked : (name : SliceName) (at : SliceAt) → HasSlice lines name at → Contains uses name → mark_at marks at name.slice ≡ true

-- where exactly these are in use: whether the others are free, and these are marked then too
pub record TakesAmong (lines : List SliceLine) (uses names : List SliceName) (told : Bool) (new : List Bool) : Type 0 where
  pub free : IsTrue told ↔ AreFree lines uses names
  pub marked : IsTrue told → IsMarked lines new (uses ++ names)

abbrev pub Takes : List SliceLine → List SliceName → List Bool → Bool → List Bool → Type 0
Takes lines names old told new = (uses : List SliceName) → IsMarked lines old uses → TakesAmong lines uses names told new
