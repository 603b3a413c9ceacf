-- The words of a line spell its parts.
use Rattle.std.proofs.Common.{◌≡◌, ◌<◌, ◌≤◌, ◌^◌, ◌+◌, ◌/◌, ◌%◌, ◌==◌, ◌&&◌, ℕ, Bool, true, false, cond, nat_lt, nat_le, not, Option, None, Some, refl, sym, ◌∙◌, ap, subst, List, [], ◌∷◌, ◌++◌, length, map, codes, decimal, inl, arith}
use Rattle.std.proofs.lemmas.Bool.Decides.{nat_tests}
use Rattle.std.proofs.lemmas.Fmt.{decimal_nonempty, digits_decimal}
use Rattle.std.proofs.lemmas.List.Elements.{All-head, All-tail}
use Rattle.std.proofs.lemmas.List.Folds.{list_all-append}
use Rattle.std.proofs.lemmas.Str.Parse.{IsNumeralModel, numerals_by_value, tells_all_ascii_digits}
use Rattle.std.specs.Char.{is_ascii_digit}
use Rattle.std.specs.List.{All, list_all}
use Rattle.std.specs.Str.{all_ascii_digits, bytes_eq}
use Rattle.std.specs.Str.Parse.{digits_value}
use Rattle.mdv_base.specs.Name.{is_name_byte}
use Rattle.mdv_base.specs.declared.drive.SliceName.{SliceName}
use Rattle.mdv_name.specs.Drive.{IsSliceName, slice_text}
use Rattle.mdv_name.specs.Volume.{IsSetName, number_text, set_text, three_digits}
use Rattle.mdv_parts.specs.Names.{same_set}
use Rattle.mdv_parts.specs.Part.{AreParts, IsNumber, IsPart}
use Rattle.mdv_parts.specs.declared.names.Scope.{Scope}
use Rattle.mdv_parts.specs.declared.part.Part.{Part}
use Rattle.mdv_parts.specs.declared.part.Part.TheVariants.{Number, Size, Slice, Volume, Pool, Replicas, Letter}
use Rattle.mdv_print.specs.Words.{part_word, pool_digits}

own : IsNumeralModel (λ (ds : List ℕ). all_ascii_digits ds ≡ true) (digits_value 10)
own = numerals_by_value (λ (ds : List ℕ). all_ascii_digits ds ≡ true) tells_all_ascii_digits

-- a byte of a word: no blank, no newline, no `#` and no backslash, and of ASCII
abbrev pub is_plain_byte : ℕ → Bool
is_plain_byte b = nat_le 45 b && (nat_le b 122 && not (b == 92))

abbrev pub IsPlain : List ℕ → Type 0
IsPlain t = list_all is_plain_byte t ≡ true

-- the part can be spelled
abbrev pub IsGood : Part → Type 0
IsGood (Number n) = n < 2 ^ 64
IsGood (Size n) = n ≤ 2 ^ 40
IsGood (Slice s) = IsSliceName s
IsGood (Volume v) = v.0 < 8192
IsGood (Pool p) = p.0 < 1000
IsGood (Replicas n) = n < 100
IsGood (Letter b) = is_plain_byte b ≡ true

both : (a b : Bool) → a && b ≡ true → (a ≡ true) × (b ≡ true)
both true true is = (refl, refl)
both true false is = cc
both false b is = cc

plain-append : (xs ys : List ℕ) → IsPlain xs → IsPlain ys → IsPlain (xs ++ ys)
plain-append xs ys first second = rw (list_all-append is_plain_byte xs ys, first, second) refl

digit_plain : (b : ℕ) → is_ascii_digit b ≡ true → is_plain_byte b ≡ true
digit_plain b is = grind (arith, nat_tests)

name_plain : (b : ℕ) → is_name_byte b ≡ true → is_plain_byte b ≡ true
name_plain b is = grind (arith, nat_tests)

plain_digits : (ds : List ℕ) → all_ascii_digits ds ≡ true → IsPlain ds
plain_digits [] all = refl
plain_digits (d ∷ ds) all =
    let parts = both (is_ascii_digit d) (all_ascii_digits ds) all in
    let here : is_plain_byte d ≡ true = digit_plain d parts.0 in
    rw here (plain_digits ds parts.1)

plain_name : (bs : List ℕ) → list_all is_name_byte bs ≡ true → IsPlain bs
plain_name [] all = refl
plain_name (b ∷ bs) all =
    let parts = both (is_name_byte b) (list_all is_name_byte bs) all in
    let here : is_plain_byte b ≡ true = name_plain b parts.0 in
    rw here (plain_name bs parts.1)

plain_decimal : (n : ℕ) → n < 2 ^ 64 → IsPlain (decimal n)
plain_decimal n fits = plain_digits (decimal n) (digits_decimal own n fits)

plain_digit : (n : ℕ) → n < 10 → is_plain_byte (48 + n) ≡ true
plain_digit n small = grind (arith, nat_tests)

plain_slice : (s : SliceName) → IsSliceName s → IsPlain (slice_text s)
plain_slice s form =
    let d = s.drive in
    let a = codes "c" ++ decimal d.controller in
    let b = a ++ codes "t" in
    let c = b ++ decimal d.target in
    let e = c ++ codes "d" in
    let f = e ++ decimal d.disk in
    let g = f ++ codes "s" in
    let first : IsPlain a = plain-append (codes "c") (decimal d.controller) refl (plain_decimal d.controller (omega (arith, form.drive.controller))) in
    let second : IsPlain b = plain-append a (codes "t") first refl in
    let third : IsPlain c = plain-append b (decimal d.target) second (plain_decimal d.target (omega (arith, form.drive.target))) in
    let fourth : IsPlain e = plain-append c (codes "d") third refl in
    let fifth : IsPlain f = plain-append e (decimal d.disk) fourth (plain_decimal d.disk (omega (arith, form.drive.disk))) in
    let sixth : IsPlain g = plain-append f (codes "s") fifth refl in
    plain-append g (decimal s.slice) sixth (plain_decimal s.slice (omega (arith, form.slice)))

plain_set : (set : Option (List ℕ)) → IsSetName set → IsPlain (set_text set)
plain_set None form = refl
plain_set (Some s) form = plain-append s (codes "/") (plain_name s form.each) refl

plain_three : (n : ℕ) → n < 1000 → IsPlain (three_digits n)
plain_three n small =
    let hundreds : n / 100 < 10 = omega arith in
    rw (plain_digit (n / 100) hundreds, plain_digit (n / 10 % 10) (omega arith), plain_digit (n % 10) (omega arith)) refl

few_digits : (n : ℕ) → n < 1000 → pool_digits n ≡ three_digits n
few_digits n small = let is : nat_lt n 1000 ≡ true = grind (arith, nat_tests) in ap (λ (b : Bool). cond b (three_digits n) (decimal n)) is

-- the words of a good part have plain bytes alone
pub word_plain : (set : Option (List ℕ)) (p : Part) → IsSetName set → IsGood p → IsPlain (part_word set p)
word_plain set (Number n) form good = plain_decimal n good
word_plain set (Size n) form good = plain-append (decimal n) (codes "b") (plain_decimal n (omega (arith, good))) refl
word_plain set (Slice s) form good = plain_slice s good
word_plain set (Volume v) form good = plain-append (set_text set) (number_text v.0) (plain_set set form) (plain-append (codes "d") (decimal v.0) refl (plain_decimal v.0 (omega (arith, good))))
word_plain set (Pool p) form good = plain-append (set_text set) (codes "hsp" ++ pool_digits p.0) (plain_set set form) (subst (λ (l : List ℕ). IsPlain (codes "hsp" ++ l)) (sym (few_digits p.0 good)) (plain-append (codes "hsp") (three_digits p.0) refl (plain_three p.0 good)))
word_plain set (Replicas n) form good = let tens : n / 10 < 10 = omega (arith, good) in rw (plain_digit (n / 10) tens, plain_digit (n % 10) (omega arith)) refl
word_plain set (Letter b) form good = rw good refl

some_append : (xs ys : List ℕ) → 0 < length ys → 0 < length (xs ++ ys)
some_append [] ys some = some
some_append (x ∷ xs) ys some = omega arith

-- and no word is empty
pub word_some : (set : Option (List ℕ)) (p : Part) → IsGood p → 0 < length (part_word set p)
word_some set (Number n) good = decimal_nonempty n good
word_some set (Size n) good = some_append (decimal n) (codes "b") (omega arith)
word_some set (Slice s) good = omega arith
word_some set (Volume v) good = some_append (set_text set) (number_text v.0) (omega arith)
word_some set (Pool p) good = some_append (set_text set) (codes "hsp" ++ pool_digits p.0) (omega arith)
word_some set (Replicas n) good = omega arith
word_some set (Letter b) good = omega arith

same_bytes : (s : List ℕ) → bytes_eq s s ≡ true
same_bytes [] = refl
same_bytes (x ∷ xs) = let here : (x == x) ≡ true = grind (arith, nat_tests) in rw here (same_bytes xs)

same_itself : (set : Option (List ℕ)) → same_set set set ≡ true
same_itself None = refl
same_itself (Some s) = same_bytes s

not_all : (xs : List ℕ) → all_ascii_digits (xs ++ 98 ∷ []) ≡ true → ⊥
not_all [] all = cc
not_all (x ∷ xs) all = not_all xs (both (is_ascii_digit x) (all_ascii_digits (xs ++ 98 ∷ [])) all).1

no_number : (m n : ℕ) → IsNumber (decimal m ++ codes "b") n → ⊥
no_number m n is = not_all (decimal m) (ap all_ascii_digits is.1 ∙ digits_decimal own n is.0)

pub word_is : (set : Option (List ℕ)) (p : Part) → IsSetName set → IsGood p → IsPart (Scope.Only set) (part_word set p) p
word_is set (Number n) form good = (good, refl)
word_is set (Size n) form good = (record { count = n; unit = codes "b"; per = 1; spelled = refl; named = refl; value = omega arith; small = good }, λ m is. no_number n m is)
word_is set (Slice s) form good = (good, inl refl)
word_is set (Volume v) form good = record { set = set; fits = same_itself set; form = record { set = form; volume = good }; spelled = inl refl }
word_is set (Pool p) form good = record { set = set; fits = same_itself set; form = record { set = form; pool = good }; spelled = ap (λ (l : List ℕ). set_text set ++ (codes "hsp" ++ l)) (few_digits p.0 good) }
word_is set (Replicas n) form good = (good, refl)
word_is set (Letter b) form good = refl

pub words_are : (set : Option (List ℕ)) (ps : List Part) → IsSetName set → All IsGood ps → AreParts (Scope.Only set) (map (part_word set) ps) ps
words_are set [] form good = tt
words_are set (p ∷ ps) form good = (word_is set p form (All-head IsGood p ps good), words_are set ps form (All-tail IsGood p ps good))
