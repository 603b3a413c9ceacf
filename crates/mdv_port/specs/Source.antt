-- What a call on a source gives.
use Rattle.std.specs.Prelude.{◌≡◌, ◌≤◌, ℕ, List, [], length, take, drop, Option, Some}

-- a source that had these bytes left gave the first n of them
pub record Takes (bytes : List ℕ) (n : ℕ) (out : List ℕ) (left : Option (List ℕ)) : Type 0 where
  pub given : take n out ≡ take n bytes
  pub rest : left ≡ Some (drop n bytes)
  pub within : n ≤ length bytes
  -- none only at the end of the input
  pub ended : n ≡ 0 → bytes ≡ []
