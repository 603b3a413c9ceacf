-- Numbers behind a letter.
use Rattle.std.specs.Prelude.{◌≡◌, ◌<◌, ℕ, false, List, ◌∷◌, ◌++◌, decimal}
use Rattle.mdv_text.specs.Numeral.{begins_with_digit}

-- the text begins with the letter and the digits of a number of one byte
pub record BeginsWithPart (letter : ℕ) (text : List ℕ) (n : ℕ) (rest : List ℕ) : Type 0 where
  pub fits : n < 256
  pub spelled : text ≡ letter ∷ (decimal n ++ rest)
  pub ended : begins_with_digit rest ≡ false
