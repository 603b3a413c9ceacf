-- A word spells one part at most: the kinds differ in the first byte, the sixth, or the byte behind the first stroke.
use Rattle.std.proofs.Common.{◌≡◌, ◌<◌, ◌≤◌, ◌^◌, ◌*◌, ◌+◌, ◌/◌, ◌%◌, ◌==◌, ℕ, Bool, true, false, cond, nat_lt, Option, None, Some, refl, sym, ◌∙◌, ap, List, [], ◌∷◌, ◌++◌, ◌&&◌, length, get_or, append_assoc, append-nil, codes, decimal, inl, inr, arith}
use Rattle.std.proofs.lemmas.Fmt.{decimal_injective, digits_decimal, decimal_nonempty}
use Rattle.std.proofs.lemmas.List.{get_or_append_left}
use Rattle.std.proofs.lemmas.List.Folds.{list_all-append}
use Rattle.std.proofs.lemmas.Str.Parse.{IsNumeralModel, numerals_by_value, tells_all_ascii_digits}
use Rattle.std.proofs.lemmas.Bool.Decides.{nat_tests}
use Rattle.std.specs.List.{list_all}
use Rattle.std.specs.Str.{all_ascii_digits}
use Rattle.std.specs.Str.Parse.{digits_value}
use Rattle.std.specs.Char.{is_ascii_digit}
use Rattle.mdv_base.specs.Name.{IsName, is_letter, is_name_byte}
use Rattle.mdv_base.specs.declared.drive.DriveName.{DriveName}
use Rattle.mdv_base.specs.declared.drive.SliceName.{SliceName}
use Rattle.mdv_text.specs.Size.{IsSize}
use Rattle.mdv_text.proofs.Sizes.{size_front, one_size}
use Rattle.mdv_name.specs.declared.volume.VolName.{VolName}
use Rattle.mdv_name.specs.declared.volume.PoolName.{PoolName}
use Rattle.mdv_name.specs.Drive.{IsDriveName, IsSliceName, SpellsSlice, slice_text, drive_text}
use Rattle.mdv_name.specs.Path.{is_within_part}
use Rattle.mdv_name.specs.Volume.{IsSetName, IsVolName, SpellsVolume, set_text, number_text, pool_number_text}
use Rattle.mdv_name.proofs.Volumes.{one_slice, one_volume, one_pool}
use Rattle.mdv_parts.specs.declared.part.Part.{Part}
use Rattle.mdv_parts.specs.declared.part.Part.TheVariants.{Number, Size, Slice, Volume, Pool, Replicas, Letter}
use Rattle.mdv_parts.specs.declared.names.Scope.{Scope}
use Rattle.mdv_parts.specs.Part.{IsPart, AreParts, replicas_text}

own : IsNumeralModel (λ (ds : List ℕ). all_ascii_digits ds ≡ true) (digits_value 10)
own = numerals_by_value (λ (ds : List ℕ). all_ascii_digits ds ≡ true) tells_all_ascii_digits

both : (a b : Bool) → a && b ≡ true → (a ≡ true) × (b ≡ true)
both true true is = (refl, refl)
both true false is = cc
both false b is = cc

abbrev is_plain : List ℕ → Type 0
is_plain t = list_all is_within_part t ≡ true

abbrev pub behind_stroke : List ℕ → List ℕ
behind_stroke [] = []
behind_stroke (b ∷ bs) = cond (is_within_part b) (behind_stroke bs) bs

behind_plain : (t : List ℕ) → is_plain t → behind_stroke t ≡ []
behind_plain [] all = refl
behind_plain (b ∷ bs) all =
    let parts = both (is_within_part b) (list_all is_within_part bs) all in
    let within : is_within_part b ≡ true = parts.0 in
    rw within (behind_plain bs parts.1)

behind_set : (s r : List ℕ) → is_plain s → behind_stroke (s ++ 47 ∷ r) ≡ r
behind_set [] r all = refl
behind_set (b ∷ s) r all =
    let parts = both (is_within_part b) (list_all is_within_part s) all in
    let within : is_within_part b ≡ true = parts.0 in
    rw within (behind_set s r parts.1)

plain-append : (xs ys : List ℕ) → is_plain xs → is_plain ys → is_plain (xs ++ ys)
plain-append xs ys first second = rw (list_all-append is_within_part xs ys, first, second) refl

digit_plain : (b : ℕ) → is_ascii_digit b ≡ true → is_within_part b ≡ true
digit_plain b is = grind (arith, nat_tests)

name_plain : (b : ℕ) → is_name_byte b ≡ true → is_within_part b ≡ true
name_plain b is = grind (arith, nat_tests)

plain_digits : (ds : List ℕ) → all_ascii_digits ds ≡ true → is_plain ds
plain_digits [] all = refl
plain_digits (d ∷ ds) all =
    let parts = both (is_ascii_digit d) (all_ascii_digits ds) all in
    let within : is_within_part d ≡ true = digit_plain d parts.0 in
    rw within (plain_digits ds parts.1)

plain_name : (bs : List ℕ) → list_all is_name_byte bs ≡ true → is_plain bs
plain_name [] all = refl
plain_name (b ∷ bs) all =
    let parts = both (is_name_byte b) (list_all is_name_byte bs) all in
    let within : is_within_part b ≡ true = name_plain b parts.0 in
    rw within (plain_name bs parts.1)

plain_decimal : (n : ℕ) → n < 2 ^ 64 → is_plain (decimal n)
plain_decimal n fits = plain_digits (decimal n) (digits_decimal own n fits)

plain_digit : (n : ℕ) → is_within_part (48 + n) ≡ true
plain_digit n = grind (arith, nat_tests)

plain_drive : (d : DriveName) → IsDriveName d → is_plain (drive_text d)
plain_drive d form =
    let a = codes "c" ++ decimal d.controller in
    let b = a ++ codes "t" in
    let c = b ++ decimal d.target in
    let e = c ++ codes "d" in
    let first : is_plain a = plain-append (codes "c") (decimal d.controller) refl (plain_decimal d.controller (omega (arith, form.controller))) in
    let second : is_plain b = plain-append a (codes "t") first refl in
    let third : is_plain c = plain-append b (decimal d.target) second (plain_decimal d.target (omega (arith, form.target))) in
    let fourth : is_plain e = plain-append c (codes "d") third refl in
    plain-append e (decimal d.disk) fourth (plain_decimal d.disk (omega (arith, form.disk)))

plain_slice : (s : SliceName) → IsSliceName s → is_plain (slice_text s)
plain_slice s form =
    let a = drive_text s.drive ++ codes "s" in
    let front : is_plain a = plain-append (drive_text s.drive) (codes "s") (plain_drive s.drive form.drive) refl in
    plain-append a (decimal s.slice) front (plain_decimal s.slice (omega (arith, form.slice)))

plain_number : (n : ℕ) → n < 8192 → is_plain (number_text n)
plain_number n small = plain-append (codes "d") (decimal n) refl (plain_decimal n (omega (arith, small)))

plain_pool : (n : ℕ) → is_plain (pool_number_text n)
plain_pool n = rw (plain_digit (n / 100), plain_digit (n / 10 % 10), plain_digit (n % 10)) refl

plain_replicas : (n : ℕ) → is_plain (replicas_text n)
plain_replicas n = rw (plain_digit (n / 10), plain_digit (n % 10)) refl

-- by the first byte, the byte behind the first stroke, and the sixth byte
abbrev pub code : ℕ → ℕ → ℕ → ℕ
code a b c = cond (a == 47) (cond (c == 109) 3 2) (cond (nat_lt a 48) 0 (cond (nat_lt a 58) 1 (cond (b == 100) 3 (cond (b == 104) 4 (cond (a == 99) 2 (cond (a == 100) 3 (cond (a == 104) 4 5)))))))

abbrev pub code_of : List ℕ → ℕ
code_of w = code (get_or w 0 0) (get_or (behind_stroke w) 0 0) (get_or w 5 0)

abbrev pub kind : Part → ℕ
kind (Number n) = 1
kind (Size n) = 1
kind (Slice s) = 2
kind (Volume v) = 3
kind (Pool p) = 4
kind (Replicas n) = 5
kind (Letter b) = 0

code_digit : (a b c : ℕ) → 48 ≤ a → a < 58 → code a b c ≡ 1
code_digit a b c low high = grind (arith, nat_tests)

code_letter : (a b c : ℕ) → 58 ≤ a → b ≡ 100 → code a b c ≡ 3
code_letter a b c low is = grind (arith, nat_tests)

code_pool : (a b c : ℕ) → 58 ≤ a → b ≡ 104 → code a b c ≡ 4
code_pool a b c low is = grind (arith, nat_tests)

digit_range : (b : ℕ) → is_ascii_digit b ≡ true → (48 ≤ b) × (b < 58)
digit_range b is = (grind (arith, nat_tests), grind (arith, nat_tests))

letter_range : (b : ℕ) → is_letter b ≡ true → 58 ≤ b
letter_range b is = grind (arith, nat_tests)

first_digit : (ds : List ℕ) → 0 < length ds → all_ascii_digits ds ≡ true → is_ascii_digit (get_or ds 0 0) ≡ true
first_digit [] some all = absurd (omega arith)
first_digit (d ∷ ds) some all = (both (is_ascii_digit d) (all_ascii_digits ds) all).0

code_decimal : (n : ℕ) (rest : List ℕ) → n < 2 ^ 64 → code_of (decimal n ++ rest) ≡ 1
code_decimal n rest fits =
    let some = decimal_nonempty n fits in
    let range = digit_range (get_or (decimal n) 0 0) (first_digit (decimal n) some (digits_decimal own n fits)) in
    let first : get_or (decimal n ++ rest) 0 0 ≡ get_or (decimal n) 0 0 = get_or_append_left (decimal n) rest 0 0 some in
    code_digit (get_or (decimal n ++ rest) 0 0) (get_or (behind_stroke (decimal n ++ rest)) 0 0) (get_or (decimal n ++ rest) 5 0) (omega (arith, first, range.0)) (omega (arith, first, range.1))

first_letter : (s r : List ℕ) → IsName s → 58 ≤ get_or (s ++ r) 0 0
first_letter [] r name = let never = name.first in cc
first_letter (b ∷ s) r name = letter_range b name.first

code_volume : (set : Option (List ℕ)) (n : ℕ) → IsSetName set → n < 8192 → code_of (set_text set ++ number_text n) ≡ 3
code_volume None n form small = let none : behind_stroke (number_text n) ≡ [] = behind_plain (number_text n) (plain_number n small) in ap (λ (l : List ℕ). code 100 (get_or l 0 0) (get_or (number_text n) 5 0)) none
code_volume (Some s) n form small =
    let joined = append_assoc s (47 ∷ []) (number_text n) in
    let w = s ++ 47 ∷ number_text n in
    ap code_of joined ∙ code_letter (get_or w 0 0) (get_or (behind_stroke w) 0 0) (get_or w 5 0) (first_letter s (47 ∷ number_text n) form) (ap (λ (l : List ℕ). get_or l 0 0) (behind_set s (number_text n) (plain_name s form.each)))

code_pool_text : (set : Option (List ℕ)) (n : ℕ) → IsSetName set → code_of (set_text set ++ pool_number_text n) ≡ 4
code_pool_text None n form = let none : behind_stroke (pool_number_text n) ≡ [] = behind_plain (pool_number_text n) (plain_pool n) in ap (λ (l : List ℕ). code 104 (get_or l 0 0) (get_or (pool_number_text n) 5 0)) none
code_pool_text (Some s) n form =
    let joined = append_assoc s (47 ∷ []) (pool_number_text n) in
    let w = s ++ 47 ∷ pool_number_text n in
    ap code_of joined ∙ code_pool (get_or w 0 0) (get_or (behind_stroke w) 0 0) (get_or w 5 0) (first_letter s (47 ∷ pool_number_text n) form) (ap (λ (l : List ℕ). get_or l 0 0) (behind_set s (pool_number_text n) (plain_name s form.each)))

code_slice : (s : SliceName) (w : List ℕ) → IsSliceName s → SpellsSlice s w → code_of w ≡ 2
code_slice s w form (inl is) = ap code_of is ∙ ap (λ (l : List ℕ). code 99 (get_or l 0 0) (get_or (slice_text s) 5 0)) (behind_plain (slice_text s) (plain_slice s form))
code_slice s w form (inr (inl is)) = ap code_of is
code_slice s w form (inr (inr is)) = ap code_of is

code_spelled : (v : VolName) (w : List ℕ) → IsVolName v → SpellsVolume v w → code_of w ≡ 3
code_spelled v w form (inl is) = ap code_of is ∙ code_volume v.set v.volume.0 form.set form.volume
code_spelled v w form (inr is) = ap code_of is.2

pub kind_of : (scope : Scope) (w : List ℕ) (p : Part) → IsPart scope w p → code_of w ≡ kind p
kind_of scope w (Number n) is = ap code_of (is.1 ∙ sym (append-nil (decimal n))) ∙ code_decimal n [] is.0
kind_of scope w (Size n) is = let front = size_front w n is.0 in ap code_of front.spelled ∙ code_decimal is.0.count is.0.unit front.fits
kind_of scope w (Slice s) is = code_slice s w is.0 is.1
kind_of scope w (Volume v) is = code_spelled (record { set = is.set; volume = v }) w is.form is.spelled
kind_of scope w (Pool p) is = ap code_of is.spelled ∙ code_pool_text is.set p.0 is.form.set
kind_of scope w (Replicas n) is = ap code_of is.1 ∙ ap (λ (l : List ℕ). code 109 (get_or l 0 0) (get_or (replicas_text n) 5 0)) (behind_plain (replicas_text n) (plain_replicas n))
kind_of scope w (Letter b) is = ap code_of is

pub one_blocks : (w : List ℕ) (m n : ℕ) → IsSize w m → IsSize w n → m ≡ n
one_blocks w m n first second =
    let one = one_size w m second.count second.unit first (size_front w n second) in
    let per : second.per ≡ first.per = let same : Some second.per ≡ Some first.per = sym second.named ∙ one.0 in cc in
    one.1 ∙ ap (λ (k : ℕ). second.count * k) (sym per) ∙ sym second.value

one_replicas : (m n : ℕ) → m < 100 → n < 100 → replicas_text m ≡ replicas_text n → m ≡ n
one_replicas m n small also is =
    let tens : 48 + m / 10 ≡ 48 + n / 10 = ap (λ (l : List ℕ). get_or l 4 0) is in
    let ones : 48 + m % 10 ≡ 48 + n % 10 = ap (λ (l : List ℕ). get_or l 5 0) is in
    omega arith

pub one_part : (scope : Scope) (w : List ℕ) (p q : Part) → IsPart scope w p → IsPart scope w q → p ≡ q
one_part scope w (Number m) (Number n) first second = ap Number (decimal_injective m n first.0 second.0 (sym first.1 ∙ second.1))
one_part scope w (Number m) (Size n) first second = absurd (second.1 m first)
one_part scope w (Size m) (Number n) first second = absurd (first.1 n second)
one_part scope w (Size m) (Size n) first second = ap Size (one_blocks w m n first.0 second.0)
one_part scope w (Slice s) (Slice t) first second = ap Slice (one_slice s t w first.0 second.0 first.1 second.1)
one_part scope w (Volume v) (Volume u) first second = ap Volume (ap (λ (n : VolName). n.volume) (one_volume (record { set = first.set; volume = v }) (record { set = second.set; volume = u }) w first.form second.form first.spelled second.spelled))
one_part scope w (Pool a) (Pool b) first second = ap Pool (ap (λ (n : PoolName). n.pool) (one_pool (record { set = first.set; pool = a }) (record { set = second.set; pool = b }) first.form second.form (sym first.spelled ∙ second.spelled)))
one_part scope w (Replicas m) (Replicas n) first second = ap Replicas (one_replicas m n first.0 second.0 (sym first.1 ∙ second.1))
one_part scope w (Letter a) (Letter b) first second = ap Letter (ap (λ (l : List ℕ). get_or l 1 0) (sym first ∙ second))
one_part scope w p q first second = let same : kind p ≡ kind q = sym (kind_of scope w p first) ∙ kind_of scope w q second in absurd (omega (arith, same))

pub one_list : (scope : Scope) (ws : List (List ℕ)) (ps qs : List Part) → AreParts scope ws ps → AreParts scope ws qs → ps ≡ qs
one_list scope [] [] [] first second = refl
one_list scope [] [] (q ∷ qs) first second = absurd second
one_list scope [] (p ∷ ps) qs first second = absurd first
one_list scope (w ∷ ws) [] qs first second = absurd first
one_list scope (w ∷ ws) (p ∷ ps) [] first second = absurd second
one_list scope (w ∷ ws) (p ∷ ps) (q ∷ qs) first second =
    let here = one_part scope w p q first.0 second.0 in
    let rest = one_list scope ws ps qs first.1 second.1 in
    cc
