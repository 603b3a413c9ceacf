-- A text begins with one set's name at most.
use Rattle.std.proofs.Common.{◌≡◌, ℕ, Bool, true, false, refl, sym, ◌∙◌, ap, List, [], ◌∷◌, ◌++◌, ◌&&◌, length, take, drop, arith}
use Rattle.std.proofs.Math.Seq.{take-append_seam, drop-append_seam}
use Rattle.std.proofs.lemmas.Bool.Decides.{nat_tests}
use Rattle.std.specs.List.{prefix_len, list_all}
use Rattle.mdv_base.specs.Name.{is_name_byte}
use Rattle.mdv_name.specs.Path.{is_within_part, BeginsWithSet, IsSplitAtStroke}

both : (a b : Bool) → a && b ≡ true → (a ≡ true) × (b ≡ true)
both true true is = (refl, refl)
both true false is = cc
both false b is = cc

name_within_part : (b : ℕ) → is_name_byte b ≡ true → is_within_part b ≡ true
name_within_part b is = grind (arith, nat_tests)

abbrev pub part_len : List ℕ → ℕ
part_len t = prefix_len is_within_part t

part_len-append : (set rest : List ℕ) → list_all is_name_byte set ≡ true → part_len (set ++ 47 ∷ rest) ≡ length set
part_len-append [] rest each = refl
part_len-append (b ∷ set) rest each =
    let parts = both (is_name_byte b) (list_all is_name_byte set) each in
    let within : is_within_part b ≡ true = name_within_part b parts.0 in
    rw within (omega (arith, part_len-append set rest parts.1))

pub cut_set : (t set rest : List ℕ) → BeginsWithSet t set rest → (take (part_len t) t ≡ set) × (drop (part_len t) t ≡ 47 ∷ rest)
cut_set t set rest front =
    let count : part_len t ≡ length set = ap part_len front.spelled ∙ part_len-append set rest front.name.each in
    let taken : take (part_len t) t ≡ take (length set) (set ++ 47 ∷ rest) = cc in
    let dropped : drop (part_len t) t ≡ drop (length set) (set ++ 47 ∷ rest) = cc in
    (taken ∙ take-append_seam set (47 ∷ rest), dropped ∙ drop-append_seam set (47 ∷ rest))

-- a set's name ends at the text's first stroke
pub one_set : (t f u s r : List ℕ) → IsSplitAtStroke t f u → BeginsWithSet t s r → (f ≡ s) × (u ≡ r)
one_set t f u s r split front =
    let cut = cut_set t s r front in
    let taken : take (part_len t) t ≡ f = ap (λ (n : ℕ). take n t) (sym split.first) ∙ ap (take (length f)) split.spelled ∙ take-append_seam f (47 ∷ u) in
    let dropped : drop (part_len t) t ≡ 47 ∷ u = ap (λ (n : ℕ). drop n t) (sym split.first) ∙ ap (drop (length f)) split.spelled ∙ drop-append_seam f (47 ∷ u) in
    let behind : 47 ∷ u ≡ 47 ∷ r = sym dropped ∙ cut.1 in
    (sym taken ∙ cut.0, cc)
