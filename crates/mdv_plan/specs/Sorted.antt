-- Lists in ascending order of a key.
use Rattle.std.specs.Prelude.{◌≡◌, ◌<◌, ◌≤◌, ◌==◌, ℕ, Bool, false, not, slice_index_or, List, [], ◌∷◌, length, nat_lt, if◌then◌else◌, All, AllPairs, filter, map}
use Rattle.std.specs.List.{AllWithin, HoldsAt}

-- each key is below those behind it
abbrev pub IsAscending : {T : Type 0} → (T → ℕ) → List T → Type 0
IsAscending key xs = AllPairs (λ x y. key x < key y) xs

-- the keys ascend and are below the limit
pub record IsSorted {T : Type 0} (key : T → ℕ) (limit : ℕ) (xs : List T) : Type 0 where
  pub ascending : IsAscending key xs
  pub keys : All (λ x. key x < limit) xs

-- one value more, in front of those with a greater key
abbrev pub with_item : {T : Type 0} → (T → ℕ) → T → List T → List T
with_item key x [] = x ∷ []
with_item key x (y ∷ ys) = if nat_lt (key x) (key y) then x ∷ y ∷ ys else y ∷ with_item key x ys

-- one value at its place, or in the place of that of its key
abbrev pub with_put : {T : Type 0} → (T → ℕ) → T → List T → List T
with_put key x [] = x ∷ []
with_put key x (y ∷ ys) = if nat_lt (key x) (key y) then x ∷ y ∷ ys else (if key y == key x then x ∷ ys else y ∷ with_put key x ys)

-- the values of other keys
abbrev pub without : {T : Type 0} → (T → ℕ) → ℕ → List T → List T
without key k xs = filter (λ x. not (key x == k)) xs

-- the values whose keys aren't marked, each key at its number
abbrev pub unmarked : {T : Type 0} → (T → ℕ) → List Bool → List T → List T
unmarked key marks xs = filter (λ x. not (slice_index_or marks (key x) false)) xs

-- one value in the place of that of its key
abbrev pub changed : {T : Type 0} → (T → ℕ) → T → List T → List T
changed key x xs = map (λ y. if key y == key x then x else y) xs

-- the value at this place has the key
pub record IsAt {T : Type 0} (key : T → ℕ) (xs : List T) (k : ℕ) (place : ℕ) : Type 0 where
  pub within : place < length xs
  pub is : HoldsAt (λ x. key x ≡ k) xs place

-- the key would go to this place: smaller ones in front, and greater ones from there on
pub record IsGapFor {T : Type 0} (key : T → ℕ) (xs : List T) (k : ℕ) (place : ℕ) : Type 0 where
  pub within : place ≤ length xs
  pub smaller : AllWithin (λ x. key x < k) xs 0 place
  pub greater : AllWithin (λ x. k < key x) xs place (length xs)
