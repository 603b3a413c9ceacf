-- The words of a line.
use Rattle.std.specs.Prelude.{◌≡◌, ◌<◌, ℕ, Bool, false, not, List, [], ◌∷◌, ◌++◌, length, ◌==◌}
use Rattle.std.specs.Prelude.{◌||◌, if◌then◌else◌}

-- a blank or a tab
abbrev pub is_blank : ℕ → Bool
is_blank b = b == 32 || b == 9

abbrev pub is_word_byte : ℕ → Bool
is_word_byte b = not (is_blank b)

abbrev pub begins_with_word : List ℕ → Bool
begins_with_word [] = false
begins_with_word (b ∷ bs) = is_word_byte b

-- with the byte in front of the first word
abbrev pub lengthened : ℕ → List (List ℕ) → List (List ℕ)
lengthened b [] = (b ∷ []) ∷ []
lengthened b (w ∷ ws) = (b ∷ w) ∷ ws

-- the longest runs of bytes that aren't blanks, in order
abbrev pub words : List ℕ → List (List ℕ)
words [] = []
words (b ∷ bs) = if is_blank b then words bs else (if begins_with_word bs then lengthened b (words bs) else (b ∷ []) ∷ words bs)

-- the line's first word, and what stands behind it
pub record IsFirstWord (line word rest : List ℕ) : Type 0 where
  pub words : words line ≡ word ∷ words rest
  pub front : List ℕ
  pub place : line ≡ front ++ (word ++ rest)
  pub some : 0 < length word
