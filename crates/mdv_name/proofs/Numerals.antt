-- A number behind a letter.
use Rattle.std.proofs.Common.{◌≡◌, ℕ, List, [], ◌∷◌, arith}
use Rattle.mdv_text.specs.Numeral.{BeginsWithNumeral}
use Rattle.mdv_text.proofs.Numerals.{one_numeral}
use Rattle.mdv_name.specs.Numeral.{BeginsWithPart}

-- the same behind a letter
pub one_part : (letter : ℕ) (t : List ℕ) (m n : ℕ) (r s : List ℕ) → BeginsWithPart letter t m r → BeginsWithPart letter t n s → (m ≡ n) × (r ≡ s)
one_part letter [] m n r s first second = let never = first.spelled in absurd (cc)
one_part letter (b ∷ bs) m n r s first second =
    let tail : (k : ℕ) (rest : List ℕ) → BeginsWithPart letter (b ∷ bs) k rest → BeginsWithNumeral bs k rest = λ k rest part. record { fits = omega (arith, part.fits); spelled = let is = part.spelled in cc; ended = part.ended } in
    one_numeral bs m n r s (tail m r first) (tail n s second)
