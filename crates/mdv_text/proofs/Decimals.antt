-- What std's reader of numbers and `decimal` say of each other.
use Rattle.std.proofs.Common.{◌≡◌, ◌≢◌, ◌<◌, ◌^◌, ℕ, zero, suc, true, refl, sym, subst, List, [], ◌∷◌, get_or, length, arith, Result, Ok, Err}
use Rattle.std.proofs.lemmas.Fmt.{decimal_nonempty, first_decimal, decimal-digits_value, parse-decimal, decimal_digit, digits_decimal, IsAscii-decimal}
use Rattle.std.proofs.lemmas.Str.Parse.{IsNumeralModel, numerals_by_value, tells_digits, parse_plain, digit_at}
use Rattle.std.proofs.lemmas.Str.{IsUtf8-from_ascii}
use Rattle.std.proofs.lemmas.Bool.Decides.{nat_tests}
use Rattle.std.specs.Fmt.{decimal}
use Rattle.std.specs.Str.{IsUtf8}
use Rattle.std.specs.Str.Parse.{AllDigits, digits_value, ParsesUnsigned}
use Rattle.std.specs.Result.{result_ok}
use Rattle.std.specs.Option.{IfSome, IfNone}
use Rattle.mdv_text.specs.Numeral.{begins_as_decimal}

pub own : IsNumeralModel (AllDigits 10) (digits_value 10)
own = numerals_by_value (AllDigits 10) tells_digits

-- a number with more than one digit doesn't begin with 0
begins : (t : List ℕ) → 0 < length t → (48 < get_or t 0 0 → get_or t 0 0 < 58 → begins_as_decimal t ≡ true)
begins [] some low high = absurd (omega arith)
begins (b ∷ bs) some low high = grind (arith, nat_tests)

pub begins_as_decimal-decimal : (n : ℕ) → n < 2 ^ 64 → begins_as_decimal (decimal n) ≡ true
begins_as_decimal-decimal zero fits = subst (λ (l : List ℕ). begins_as_decimal l ≡ true) (sym (decimal_digit 0 (omega arith))) refl
begins_as_decimal-decimal (suc n) fits =
    begins (decimal (suc n)) (decimal_nonempty (suc n) fits) (first_decimal (suc n) (omega arith) fits)
    (let range = digit_at (decimal (suc n)) 0 (digits_decimal own (suc n) fits) (decimal_nonempty (suc n) fits) in omega (arith, range))

pub no_sign : (t : List ℕ) → begins_as_decimal t ≡ true → (get_or t 0 0 ≢ 43) × (get_or t 0 0 ≡ 48 → length t ≡ 1)
no_sign [] is = cc
no_sign (b ∷ bs) is = (grind (arith, nat_tests), grind (arith, nat_tests))

pub text_from_decimal : (n : ℕ) → n < 2 ^ 64 → IsUtf8 (decimal n)
text_from_decimal n fits = IsUtf8-from_ascii (decimal n) (IsAscii-decimal n fits)

-- what `parse` answers of a text that begins as a number does
pub parsed : {E : Type 0} (t : List ℕ) (r : Result ℕ E) → begins_as_decimal t ≡ true → ParsesUnsigned 64 10 t r → IfSome (result_ok r) (λ n. t ≡ decimal n)
parsed {E} t (Ok n) is h =
    let p = parse_plain own {E = E} 64 t (Ok n) h (no_sign t is).0 in
    subst (λ (k : ℕ). t ≡ decimal k) (sym p.1) (sym (decimal-digits_value own t p.0.0 p.0.1 (no_sign t is).1 p.0.2))
parsed t (Err e) is h = tt

pub refused : {E : Type 0} (t : List ℕ) (r : Result ℕ E) → ParsesUnsigned 64 10 t r → IfNone (result_ok r) ((n : ℕ) → n < 2 ^ 64 → t ≡ decimal n → ⊥)
refused t (Ok n) h = tt
refused {E} t (Err e) h = λ n fits is. let never : Err e ≡ Ok n = parse-decimal {E = E} 64 n t (Err e) fits fits is h in cc
