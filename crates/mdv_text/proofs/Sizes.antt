-- A size has one count and one unit.
use Rattle.std.proofs.Common.{◌≡◌, ◌<◌, ◌≤◌, ◌*◌, ℕ, false, refl, sym, ◌∙◌, ap, List, [], ◌∷◌, Some, arith}
use Rattle.std.proofs.lemmas.Bool.Decides.{nat_tests}
use Rattle.std.specs.Char.{is_ascii_digit}
use Rattle.mdv_text.specs.Numeral.{begins_with_digit, BeginsWithNumeral}
use Rattle.mdv_text.specs.Size.{letter_blocks, unit_blocks, IsSize}
use Rattle.mdv_text.proofs.Numerals.{one_numeral}

record IsLetter (b per : ℕ) : Type 0 where
  some : 0 < per
  letter : is_ascii_digit b ≡ false

letter_facts : (b per : ℕ) → letter_blocks b ≡ Some per → IsLetter b per
letter_facts b per is = record { some = grind (arith, nat_tests); letter = grind (arith, nat_tests) }

unit_facts : (unit : List ℕ) (per : ℕ) → unit_blocks unit ≡ Some per → (0 < per) × (begins_with_digit unit ≡ false)
unit_facts [] per is = (let one : 1 ≡ per = cc in omega (arith, one), refl)
unit_facts (b ∷ []) per is = let facts = letter_facts b per is in (facts.some, facts.letter)
unit_facts (b ∷ c ∷ cs) per is = cc

count-le : (count per blocks : ℕ) → 0 < per → blocks ≡ count * per → count ≤ blocks
count-le count per blocks some value = grind arith

pub size_front : (text : List ℕ) (blocks : ℕ) (s : IsSize text blocks) → BeginsWithNumeral text s.count s.unit
size_front text blocks s =
    let facts = unit_facts s.unit s.per s.named in
    record { fits = omega (arith, count-le s.count s.per blocks facts.0 s.value, s.small); spelled = s.spelled; ended = facts.1 }

-- what any other count and unit of the text are
pub one_size : (text : List ℕ) (blocks n : ℕ) (unit : List ℕ) (s : IsSize text blocks) → BeginsWithNumeral text n unit → (unit_blocks unit ≡ Some s.per) × (blocks ≡ n * s.per)
one_size text blocks n unit s front =
    let same = one_numeral text n s.count unit s.unit front (size_front text blocks s) in
    (ap unit_blocks same.1 ∙ s.named, s.value ∙ ap (λ (k : ℕ). k * s.per) (sym same.0))
