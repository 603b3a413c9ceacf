-- The lines of a text.
use Rattle.std.specs.Prelude.{ℕ, Bool, not, List, [], ◌∷◌, ◌==◌, if◌then◌else◌, take_while}
use Rattle.mdv_text.specs.Words.{lengthened}

abbrev pub is_within_line : ℕ → Bool
is_within_line b = not (b == 10)

-- each line with its newline, which the last may lack
abbrev pub lines : List ℕ → List (List ℕ)
lines [] = []
lines (b ∷ bs) = if b == 10 then (b ∷ []) ∷ lines bs else lengthened b (lines bs)

-- a line without its newline
abbrev pub content : List ℕ → List ℕ
content line = take_while is_within_line line
