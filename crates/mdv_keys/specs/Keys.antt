-- Several values of a list at once, by their keys.
use Rattle.std.specs.Prelude.{ℕ, not, ◌==◌, List, [], ◌∷◌, filter}
use Rattle.std.specs.List.{list_any}
use Rattle.mdv_plan.specs.Sorted.{changed}

-- the values whose keys aren't among those that go
abbrev pub kept : {T : Type 0} → (T → ℕ) → List ℕ → List T → List T
kept key gone xs = filter (λ x. not (list_any (λ k. key x == k) gone)) xs

-- each of these in the place of the one of its key
abbrev pub replaced : {T : Type 0} → (T → ℕ) → List T → List T → List T
replaced key xs [] = xs
replaced key xs (y ∷ ys) = changed key y (replaced key xs ys)
