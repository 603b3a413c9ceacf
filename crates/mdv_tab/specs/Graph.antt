-- Of each name the places that stand on it.
use Rattle.std.specs.Prelude.{◌≡◌, ◌<◌, ◌⊎◌, ℕ, List, [], length, slice_index_or, Contains}

abbrev pub list_at : List (List ℕ) → ℕ → List ℕ
list_at lists i = slice_index_or lists i []

-- the place is one more user of each of the names
pub record AddsUser (old new : List (List ℕ)) (place : ℕ) (stands : List ℕ) : Type 0 where
  pub same : length new ≡ length old
  pub adds : (x : ℕ) → Contains stands x → Contains (list_at new x) place
  pub keeps : (x i : ℕ) → Contains (list_at old x) i → Contains (list_at new x) i
  pub none_else : (x i : ℕ) → Contains (list_at new x) i → Contains (list_at old x) i ⊎ (place ≡ i)

-- each place is a user of the names that it stands on
pub record AreUsers (names : ℕ) (stands users : List (List ℕ)) : Type 0 where
  pub same : length users ≡ names
  pub each : (i x : ℕ) → Contains (list_at stands i) x → Contains (list_at users x) i
  pub within : (i x : ℕ) → Contains (list_at users x) i → i < length stands
