-- Where the number at a text's front ends.
use Rattle.std.proofs.Common.{◌≡◌, ◌+◌, ℕ, suc, Bool, true, false, cond, refl, sym, ◌∙◌, ap, List, [], ◌∷◌, ◌++◌, ◌&&◌, length, take, drop, arith, decimal}
use Rattle.std.proofs.lemmas.Fmt.{digits_decimal, decimal_injective}
use Rattle.std.proofs.lemmas.Str.Parse.{IsNumeralModel, numerals_by_value, tells_all_ascii_digits}
use Rattle.std.proofs.Math.Seq.{take-append_seam, drop-append_seam}
use Rattle.std.specs.Str.{all_ascii_digits}
use Rattle.std.specs.Str.Parse.{digits_value}
use Rattle.std.specs.List.{prefix_len}
use Rattle.std.specs.Char.{is_ascii_digit}
use Rattle.mdv_text.specs.Numeral.{begins_with_digit, BeginsWithNumeral}

own : IsNumeralModel (λ (ds : List ℕ). all_ascii_digits ds ≡ true) (digits_value 10)
own = numerals_by_value (λ (ds : List ℕ). all_ascii_digits ds ≡ true) tells_all_ascii_digits

both : (a b : Bool) → a && b ≡ true → (a ≡ true) × (b ≡ true)
both true true is = (refl, refl)
both true false is = cc
both false b is = cc

-- how many digits the text begins with
abbrev pub digit_count : List ℕ → ℕ
digit_count t = prefix_len is_ascii_digit t

digit_count-append : (ds rest : List ℕ) → all_ascii_digits ds ≡ true → begins_with_digit rest ≡ false → digit_count (ds ++ rest) ≡ length ds
digit_count-append [] [] all ended = refl
digit_count-append [] (b ∷ bs) all ended = rw ended
digit_count-append (d ∷ ds) rest all ended =
    let parts = both (is_ascii_digit d) (all_ascii_digits ds) all in
    rw parts.0 (omega (arith, digit_count-append ds rest parts.1 ended))

pub ended-drop : (t : List ℕ) → begins_with_digit (drop (digit_count t) t) ≡ false
ended-drop [] = refl
ended-drop (b ∷ bs) =
    let P : Bool → Type 0 = λ v. v ≡ is_ascii_digit b → begins_with_digit (drop (cond v (1 + digit_count bs) 0) (b ∷ bs)) ≡ false in
    (elim (is_ascii_digit b) as P [ true ↦ λ is. let next : 1 + digit_count bs ≡ suc (digit_count bs) = omega arith in rw next (ended-drop bs) | false ↦ λ is. sym is ]) refl

-- so the number and the rest are the text's two parts there
pub cut : (t : List ℕ) (n : ℕ) (rest : List ℕ) → BeginsWithNumeral t n rest → (take (digit_count t) t ≡ decimal n) × (drop (digit_count t) t ≡ rest)
cut t n rest front =
    let count : digit_count t ≡ length (decimal n) = ap digit_count front.spelled ∙ digit_count-append (decimal n) rest (digits_decimal own n front.fits) front.ended in
    let taken : take (digit_count t) t ≡ take (length (decimal n)) (decimal n ++ rest) = cc in
    let dropped : drop (digit_count t) t ≡ drop (length (decimal n)) (decimal n ++ rest) = cc in
    (taken ∙ take-append_seam (decimal n) rest, dropped ∙ drop-append_seam (decimal n) rest)

-- a text begins with one number at most
pub one_numeral : (t : List ℕ) (m n : ℕ) (r s : List ℕ) → BeginsWithNumeral t m r → BeginsWithNumeral t n s → (m ≡ n) × (r ≡ s)
one_numeral t m n r s first second =
    let a = cut t m r first in
    let b = cut t n s second in
    (decimal_injective m n first.fits second.fits (sym a.0 ∙ b.0), sym a.1 ∙ b.1)
