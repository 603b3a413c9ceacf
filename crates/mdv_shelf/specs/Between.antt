-- How many calls something took, told from both sides.
use Rattle.std.specs.Prelude.{◌≡◌, ℕ, ◌+◌, ◌-◌, ◌^◌, ◌≤◌, min, Option, Some, Result, OnOk}
use Rattle.mdv_shelf.specs.Calls.{Took, TookAtMost}
use Rattle.mdv_shelf.specs.declared.shelf.Shelf.{Ghosts}

-- a count, where it is told, rose by no less; at its type's end it stands still
abbrev pub RoseByAtLeast : ℕ → Option ℕ → Option ℕ → Type 0
RoseByAtLeast less old new = (n : ℕ) → old ≡ Some n → (m : ℕ) × (new ≡ Some m) × (min (n + less) (2 ^ 64 - 1) ≤ m)

-- it took so many calls at least, and so many at most, and wrote no more than so many blocks
pub record TookBetween {S : Type 0} (calls written : S → Option ℕ) (old new : S) (least most blocks : ℕ) : Type 0 where
  pub at_least : RoseByAtLeast least (calls old) (calls new)
  pub at_most : TookAtMost calls written old new most blocks

-- it makes so many calls, with so many blocks written; where one fails, one at least, and no more of both; and it begins to write
pub record MakesCalls {S T E : Type 0} (shelf : Ghosts S) (old new : S) (calls blocks : ℕ) (result : Result T E) : Type 0 where
  pub done : OnOk result (Took shelf.calls shelf.written old new calls blocks)
  pub any : TookBetween shelf.calls shelf.written old new 1 calls blocks
  pub wrote : RoseByAtLeast 1 (shelf.written old) (shelf.written new)
