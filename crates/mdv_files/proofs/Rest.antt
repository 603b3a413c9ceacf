-- A line that isn't the first stands behind it.
use Rattle.std.proofs.Common.{◌≡◌, ◌↔◌, ℕ, List, [], ◌∷◌, Contains}
use Rattle.std.proofs.lemmas.List.Elements.{Contains-append_right}
use Rattle.std.proofs.lemmas.Map.Made.{Contains-tail}

pub behind_first : (first line : List ℕ) (rest : List (List ℕ)) → (first ≡ line → ⊥) → (Contains (first ∷ rest) line ↔ Contains rest line)
behind_first first line rest other = (λ has. Contains-tail first rest line other has, λ has. Contains-append_right (first ∷ []) rest line has)
