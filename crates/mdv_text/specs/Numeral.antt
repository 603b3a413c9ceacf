-- How decimal numbers begin, and numbers at the front of a text.
use Rattle.std.specs.Prelude.{◌≡◌, ◌<◌, ◌^◌, ℕ, Bool, List, [], ◌∷◌, ◌++◌, length, ◌==◌, ◌||◌, ◌&&◌}
use Rattle.std.specs.Prelude.{not, false, decimal}
use Rattle.std.specs.Char.{is_ascii_digit}

-- with a digit, and with `0` only where nothing follows
abbrev pub begins_as_decimal : List ℕ → Bool
begins_as_decimal [] = false
begins_as_decimal (b ∷ bs) = is_ascii_digit b && (not (b == 48) || length bs == 0)

abbrev pub begins_with_digit : List ℕ → Bool
begins_with_digit [] = false
begins_with_digit (b ∷ bs) = is_ascii_digit b

-- all digits at the front of the text spell the number
pub record BeginsWithNumeral (text : List ℕ) (n : ℕ) (rest : List ℕ) : Type 0 where
  pub fits : n < 2 ^ 64
  pub spelled : text ≡ decimal n ++ rest
  pub ended : begins_with_digit rest ≡ false
