-- A text spells one volume, one pool and one slice at most.
use Rattle.std.proofs.Common.{◌≡◌, ◌<◌, ◌^◌, ◌+◌, ◌/◌, ◌%◌, ℕ, Bool, true, false, Option, None, Some, refl, sym, ◌∙◌, ap, subst, List, [], ◌∷◌, ◌++◌, ◌&&◌, length, drop, get_or, append_assoc, codes, decimal, inl, inr, arith}
use Rattle.std.proofs.lemmas.Fmt.{decimal_injective, digits_decimal}
use Rattle.std.proofs.lemmas.Str.Parse.{IsNumeralModel, numerals_by_value, tells_all_ascii_digits}
use Rattle.std.proofs.lemmas.Bool.Decides.{nat_tests}
use Rattle.std.specs.Str.{all_ascii_digits}
use Rattle.std.specs.Str.Parse.{digits_value}
use Rattle.std.specs.Char.{is_ascii_digit}
use Rattle.mdv_base.specs.Name.{IsName, is_letter}
use Rattle.mdv_base.specs.declared.drive.SliceName.{SliceName}
use Rattle.mdv_name.specs.declared.volume.VolName.{VolName}
use Rattle.mdv_name.specs.declared.volume.PoolName.{PoolName}
use Rattle.mdv_name.specs.Drive.{IsSliceName, SpellsSlice}
use Rattle.mdv_name.specs.Path.{is_within_part, BeginsWithSet}
use Rattle.mdv_name.specs.Volume.{IsSetName, IsVolName, IsPoolName, SpellsInDirectory, SpellsVolume, set_text, number_text, pool_text, pool_number_text, three_digits}
use Rattle.mdv_name.proofs.Drives.{slice_text_injective}
use Rattle.mdv_name.proofs.FirstLines.{drop_all}
use Rattle.mdv_name.proofs.Paths.{part_len, cut_set}

own : IsNumeralModel (λ (ds : List ℕ). all_ascii_digits ds ≡ true) (digits_value 10)
own = numerals_by_value (λ (ds : List ℕ). all_ascii_digits ds ≡ true) tells_all_ascii_digits

both : (a b : Bool) → a && b ≡ true → (a ≡ true) × (b ≡ true)
both true true is = (refl, refl)
both true false is = cc
both false b is = cc

two_sets : (t s u r v : List ℕ) → BeginsWithSet t s r → BeginsWithSet t u v → (s ≡ u) × (r ≡ v)
two_sets t s u r v first second =
    let a = cut_set t s r first in
    let b = cut_set t u v second in
    let behind : 47 ∷ r ≡ 47 ∷ v = sym a.1 ∙ b.1 in
    (sym a.0 ∙ b.0, cc)

digit_within_part : (b : ℕ) → is_ascii_digit b ≡ true → is_within_part b ≡ true
digit_within_part b is = grind (arith, nat_tests)

part_len-digits : (ds : List ℕ) → all_ascii_digits ds ≡ true → part_len ds ≡ length ds
part_len-digits [] all = refl
part_len-digits (d ∷ ds) all =
    let parts = both (is_ascii_digit d) (all_ascii_digits ds) all in
    let within : is_within_part d ≡ true = digit_within_part d parts.0 in
    rw within (omega (arith, part_len-digits ds parts.1))

-- a text without a stroke names no set
no_stroke : (t s r : List ℕ) → part_len t ≡ length t → BeginsWithSet t s r → ⊥
no_stroke t s r whole begins =
    let none : [] ≡ 47 ∷ r = sym (drop_all t) ∙ ap (λ (n : ℕ). drop n t) (sym whole) ∙ (cut_set t s r begins).1 in
    cc

number_whole : (n : ℕ) → n < 2 ^ 64 → part_len (number_text n) ≡ length (number_text n)
number_whole n fits = omega (arith, part_len-digits (decimal n) (digits_decimal own n fits))

number_injective : (m n : ℕ) → m < 8192 → n < 8192 → number_text m ≡ number_text n → m ≡ n
number_injective m n small also is = let digits : decimal m ≡ decimal n = cc in decimal_injective m n (omega (arith, small)) (omega (arith, also)) digits

-- a name with a set and one without differ
one_set_text :
    (t : List ℕ) (a b : Option (List ℕ)) (x y : List ℕ) → IsSetName a → IsSetName b → t ≡ set_text a ++ x → t ≡ set_text b ++ y →
    ((s : List ℕ) → BeginsWithSet x s y → ⊥) → ((s : List ℕ) → BeginsWithSet y s x → ⊥) → (a ≡ b) × (x ≡ y)
one_set_text t None None x y form also first second cross across = (refl, sym first ∙ second)
one_set_text t None (Some s) x y form also first second cross across = absurd (cross s (record { name = also; spelled = sym first ∙ second ∙ append_assoc s (47 ∷ []) y }))
one_set_text t (Some s) None x y form also first second cross across = absurd (across s (record { name = form; spelled = sym second ∙ first ∙ append_assoc s (47 ∷ []) x }))
one_set_text t (Some s) (Some u) x y form also first second cross across =
    let same = two_sets t s u x y (record { name = form; spelled = first ∙ append_assoc s (47 ∷ []) x }) (record { name = also; spelled = second ∙ append_assoc u (47 ∷ []) y }) in
    (ap (λ (l : List ℕ). Some l) same.0, same.1)

dsk_name : IsName (codes "dsk")
dsk_name = record { short = omega arith; first = refl; each = refl }

rdsk_name : IsName (codes "rdsk")
rdsk_name = record { short = omega arith; first = refl; each = refl }

-- behind the directory's own stroke stands the number
behind_directory : (n : ℕ) (directory s r : List ℕ) → SpellsInDirectory n directory → BeginsWithSet directory s r → r ≡ number_text n
behind_directory n directory s r (inl is) begins = (two_sets directory s (codes "dsk") r (number_text n) begins (record { name = dsk_name; spelled = is })).1
behind_directory n directory s r (inr is) begins = (two_sets directory s (codes "rdsk") r (number_text n) begins (record { name = rdsk_name; spelled = is })).1

-- a number is no directory
never_directory : (n m : ℕ) → n < 8192 → SpellsInDirectory m (number_text n) → ⊥
never_directory n m small (inl is) =
    let digits : decimal n ≡ 115 ∷ drop 2 (codes "dsk/" ++ number_text m) = cc in
    let all : true ≡ false = sym (digits_decimal own n (omega (arith, small))) ∙ ap all_ascii_digits digits in
    cc
never_directory n m small (inr is) = let bytes : 100 ≡ 114 = ap (λ (l : List ℕ). get_or l 0 0) is in omega (arith, bytes)

crossed : (n m : ℕ) (x y s : List ℕ) → n < 8192 → SpellsInDirectory n x → SpellsInDirectory m y → BeginsWithSet x s y → ⊥
crossed n m x y s small first second begins = never_directory n m small (subst (SpellsInDirectory m) (behind_directory n x s y first begins) second)

one_directory : (n m : ℕ) (x : List ℕ) → n < 8192 → m < 8192 → SpellsInDirectory n x → SpellsInDirectory m x → n ≡ m
one_directory n m x small also (inl a) (inl b) = number_injective n m small also (ap (drop 4) (sym a ∙ b))
one_directory n m x small also (inl a) (inr b) = let bytes : 100 ≡ 114 = ap (λ (l : List ℕ). get_or l 0 0) (sym a ∙ b) in absurd (omega (arith, bytes))
one_directory n m x small also (inr a) (inl b) = let bytes : 114 ≡ 100 = ap (λ (l : List ℕ). get_or l 0 0) (sym a ∙ b) in absurd (omega (arith, bytes))
one_directory n m x small also (inr a) (inr b) = number_injective n m small also (ap (drop 5) (sym a ∙ b))

letter_first : (s r : List ℕ) → IsName s → get_or (s ++ r) 0 0 ≡ 47 → ⊥
letter_first [] r name is = let never = name.first in cc
letter_first (b ∷ s) r name is =
    let letter : is_letter b ≡ true = name.first in
    let wrong : is_letter 47 ≡ true = ap is_letter (sym is) ∙ letter in
    cc

plain_first : (set : Option (List ℕ)) (n : ℕ) → IsSetName set → get_or (set_text set ++ number_text n) 0 0 ≡ 47 → ⊥
plain_first None n form is = omega (arith, is)
plain_first (Some s) n form is = letter_first s (47 ∷ number_text n) form (ap (λ (l : List ℕ). get_or l 0 0) (sym (append_assoc s (47 ∷ []) (number_text n))) ∙ is)

same_volume : (v w : VolName) → v.set ≡ w.set → v.volume.0 ≡ w.volume.0 → v ≡ w
same_volume v w sets numbers = λ i. record { set = sets i; volume = record { 0 = numbers i } }

pub one_volume : (v w : VolName) (t : List ℕ) → IsVolName v → IsVolName w → SpellsVolume v t → SpellsVolume w t → v ≡ w
one_volume v w t form also (inl a) (inl b) =
    let same = one_set_text t v.set w.set (number_text v.volume.0) (number_text w.volume.0) form.set also.set a b (λ s. no_stroke (number_text v.volume.0) s (number_text w.volume.0) (number_whole v.volume.0 (omega (arith, form.volume)))) (λ s. no_stroke (number_text w.volume.0) s (number_text v.volume.0) (number_whole w.volume.0 (omega (arith, also.volume)))) in
    same_volume v w same.0 (number_injective v.volume.0 w.volume.0 form.volume also.volume same.1)
one_volume v w t form also (inl a) (inr b) = absurd (plain_first v.set v.volume.0 form.set (ap (λ (l : List ℕ). get_or l 0 0) (sym a ∙ b.2)))
one_volume v w t form also (inr a) (inl b) = absurd (plain_first w.set w.volume.0 also.set (ap (λ (l : List ℕ). get_or l 0 0) (sym b ∙ a.2)))
one_volume v w t form also (inr a) (inr b) =
    let paths : a.0 ≡ b.0 = ap (drop 8) (sym a.2 ∙ b.2) in
    let x = a.1.0 in
    let y = b.1.0 in
    let same = one_set_text a.0 v.set w.set x y form.set also.set a.1.2 (paths ∙ b.1.2) (λ s. crossed v.volume.0 w.volume.0 x y s form.volume a.1.1 b.1.1) (λ s. crossed w.volume.0 v.volume.0 y x s also.volume b.1.1 a.1.1) in
    same_volume v w same.0 (one_directory v.volume.0 w.volume.0 y form.volume also.volume (subst (SpellsInDirectory v.volume.0) same.1 a.1.1) b.1.1)

-- pools
digit_byte : (n : ℕ) → is_within_part (48 + n) ≡ true
digit_byte n = grind (arith, nat_tests)

pool_whole : (n : ℕ) → part_len (pool_number_text n) ≡ length (pool_number_text n)
pool_whole n = rw (digit_byte (n / 100), digit_byte (n / 10 % 10), digit_byte (n % 10))

three_digits_injective : (m n : ℕ) → three_digits m ≡ three_digits n → m ≡ n
three_digits_injective m n is =
    let hundreds : 48 + m / 100 ≡ 48 + n / 100 = ap (λ (l : List ℕ). get_or l 0 0) is in
    let tens : 48 + m / 10 % 10 ≡ 48 + n / 10 % 10 = ap (λ (l : List ℕ). get_or l 1 0) is in
    let ones : 48 + m % 10 ≡ 48 + n % 10 = ap (λ (l : List ℕ). get_or l 2 0) is in
    omega arith

same_pool : (p q : PoolName) → p.set ≡ q.set → p.pool.0 ≡ q.pool.0 → p ≡ q
same_pool p q sets numbers = λ i. record { set = sets i; pool = record { 0 = numbers i } }

pub one_pool : (p q : PoolName) → IsPoolName p → IsPoolName q → pool_text p ≡ pool_text q → p ≡ q
one_pool p q form also is =
    let same = one_set_text (pool_text p) p.set q.set (pool_number_text p.pool.0) (pool_number_text q.pool.0) form.set also.set refl is (λ s. no_stroke (pool_number_text p.pool.0) s (pool_number_text q.pool.0) (pool_whole p.pool.0)) (λ s. no_stroke (pool_number_text q.pool.0) s (pool_number_text p.pool.0) (pool_whole q.pool.0)) in
    same_pool p q same.0 (three_digits_injective p.pool.0 q.pool.0 (ap (drop 3) same.1))

-- slices
pub one_slice : (s u : SliceName) (t : List ℕ) → IsSliceName s → IsSliceName u → SpellsSlice s t → SpellsSlice u t → s ≡ u
one_slice s u t form also (inl a) (inl b) = slice_text_injective s u form also (sym a ∙ b)
one_slice s u t form also (inl a) (inr (inl b)) = let bytes : 99 ≡ 47 = ap (λ (l : List ℕ). get_or l 0 0) (sym a ∙ b) in absurd (omega (arith, bytes))
one_slice s u t form also (inl a) (inr (inr b)) = let bytes : 99 ≡ 47 = ap (λ (l : List ℕ). get_or l 0 0) (sym a ∙ b) in absurd (omega (arith, bytes))
one_slice s u t form also (inr (inl a)) (inl b) = let bytes : 47 ≡ 99 = ap (λ (l : List ℕ). get_or l 0 0) (sym a ∙ b) in absurd (omega (arith, bytes))
one_slice s u t form also (inr (inl a)) (inr (inl b)) = slice_text_injective s u form also (ap (drop 9) (sym a ∙ b))
one_slice s u t form also (inr (inl a)) (inr (inr b)) = let bytes : 100 ≡ 114 = ap (λ (l : List ℕ). get_or l 5 0) (sym a ∙ b) in absurd (omega (arith, bytes))
one_slice s u t form also (inr (inr a)) (inl b) = let bytes : 47 ≡ 99 = ap (λ (l : List ℕ). get_or l 0 0) (sym a ∙ b) in absurd (omega (arith, bytes))
one_slice s u t form also (inr (inr a)) (inr (inl b)) = let bytes : 114 ≡ 100 = ap (λ (l : List ℕ). get_or l 5 0) (sym a ∙ b) in absurd (omega (arith, bytes))
one_slice s u t form also (inr (inr a)) (inr (inr b)) = slice_text_injective s u form also (ap (drop 10) (sym a ∙ b))
