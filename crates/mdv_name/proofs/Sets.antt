-- A name spelled with a set or without one.
use Rattle.std.proofs.Common.{◌≡◌, ◌<◌, ◌/◌, ◌%◌, decimal, arith, ℕ, Option, None, Some, List, [], ◌∷◌, ◌++◌, ◌∙◌, append_assoc}
use Rattle.std.proofs.lemmas.Fmt.{decimal_digit}
use Rattle.mdv_name.specs.Path.{BeginsWithSet}
use Rattle.mdv_name.specs.Volume.{IsSetName, set_text, three_digits}

pub refute_set : (t tail : List ℕ) (set : Option (List ℕ)) → IsSetName set → t ≡ set_text set ++ tail → (t ≡ tail → ⊥) → ((s : List ℕ) → BeginsWithSet t s tail → ⊥) → ⊥
refute_set t tail None name is alone behind = alone is
refute_set t tail (Some s) name is alone behind = behind s (record { name = name; spelled = is ∙ append_assoc s (47 ∷ []) tail })

-- the three digits of a pool's number, one by one
pub three_digits-decimal : (n : ℕ) → n < 1000 → decimal (n / 100) ++ decimal (n / 10 % 10) ++ decimal (n % 10) ≡ three_digits n
three_digits-decimal n small = rw (decimal_digit (n / 100) (omega arith), decimal_digit (n / 10 % 10) (omega arith), decimal_digit (n % 10) (omega arith))
