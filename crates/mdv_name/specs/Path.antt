-- The parts of a path.
use Rattle.std.specs.Prelude.{◌≡◌, ℕ, Bool, not, List, ◌∷◌, ◌++◌, ◌==◌, length}
use Rattle.std.specs.List.{prefix_len}
use Rattle.mdv_base.specs.Name.{IsName}

abbrev pub is_within_part : ℕ → Bool
is_within_part b = not (b == 47)

-- the text begins with the set's name and a stroke
pub record BeginsWithSet (text set rest : List ℕ) : Type 0 where
  pub name : IsName set
  pub spelled : text ≡ set ++ 47 ∷ rest

-- the stroke is the text's first
pub record IsSplitAtStroke (text front rest : List ℕ) : Type 0 where
  pub spelled : text ≡ front ++ 47 ∷ rest
  pub first : length front ≡ prefix_len is_within_part text
