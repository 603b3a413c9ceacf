-- Eight regions of a byte, each told by its bit.
use Rattle.std.proofs.Common.{◌≡◌, ◌<◌, ◌≤◌, ◌+◌, ◌-◌, ◌*◌, ◌/◌, ◌%◌, ◌^◌, ◌==◌, ℕ, zero, suc, refl, ◌∙◌, ap, Bool, true, false, List, [], ◌∷◌, length, inl, inr, arith}
use Rattle.std.specs.Prelude.{if◌then◌else◌}
use Rattle.std.proofs.lemmas.Bool.{cases_lt}
use Rattle.std.proofs.lemmas.Bool.Decides.{nat_tests}
use Rattle.std.proofs.lemmas.Nat.{div-mul-add}
use Rattle.std.proofs.Math.Nat.{mul-add-mod_self_left}
use Rattle.mdv_notes.specs.Regions.{byte_noted, has_bit, in_range, is_region_dirty, region_noted, regions_noted, weighed}
use Rattle.mdv_notes.specs.declared.note.RegionRange.{RegionRange}

scaled : (m n k : ℕ) (x : Bool) → k ≡ m * n → weighed k x ≡ m * weighed n x
scaled m n k true is = is
scaled m n k false is = omega arith

small : (w : ℕ) (x : Bool) → weighed w x ≤ w
small w true = omega arith
small w false = omega arith

-- between higher and lower bits
between : (w hi lo n : ℕ) (x : Bool) → lo < w → n ≡ hi * (2 * w) + weighed w x + lo → has_bit w n ≡ x
between w hi lo n true below is =
    let whole : n ≡ (2 * hi + 1) * w + lo = omega (arith, is) in
    let odd : n / w % 2 ≡ 1 = ap (λ (m : ℕ). m / w % 2) whole ∙ ap (λ (m : ℕ). m % 2) (div-mul-add (2 * hi + 1) w lo below) ∙ mul-add-mod_self_left 2 hi 1 in
    ap (λ (m : ℕ). m == 1) odd
between w hi lo n false below is =
    let whole : n ≡ (2 * hi + 0) * w + lo = omega (arith, is) in
    let even : n / w % 2 ≡ 0 = ap (λ (m : ℕ). m / w % 2) whole ∙ ap (λ (m : ℕ). m % 2) (div-mul-add (2 * hi + 0) w lo below) ∙ mul-add-mod_self_left 2 hi 0 in
    ap (λ (m : ℕ). m == 1) even

abbrev eight : Bool → Bool → Bool → Bool → Bool → Bool → Bool → Bool → ℕ
eight a b c d e f g h = weighed 128 a + weighed 64 b + weighed 32 c + weighed 16 d + weighed 8 e + weighed 4 f + weighed 2 g + weighed 1 h

told-0 : (a b c d e f g h : Bool) → has_bit 128 (eight a b c d e f g h) ≡ a
told-0 a b c d e f g h =
    between 128 (0) (weighed 64 b + weighed 32 c + weighed 16 d + weighed 8 e + weighed 4 f + weighed 2 g + weighed 1 h) (eight a b c d e f g h) a (omega (arith, small 64 b, small 32 c, small 16 d, small 8 e, small 4 f, small 2 g, small 1 h)) (omega arith)

told-1 : (a b c d e f g h : Bool) → has_bit 64 (eight a b c d e f g h) ≡ b
told-1 a b c d e f g h =
    between 64 (weighed 1 a) (weighed 32 c + weighed 16 d + weighed 8 e + weighed 4 f + weighed 2 g + weighed 1 h) (eight a b c d e f g h) b (omega (arith, small 32 c, small 16 d, small 8 e, small 4 f, small 2 g, small 1 h)) (omega (arith, scaled 128 1 128 a (omega arith)))

told-2 : (a b c d e f g h : Bool) → has_bit 32 (eight a b c d e f g h) ≡ c
told-2 a b c d e f g h =
    between 32 (weighed 2 a + weighed 1 b) (weighed 16 d + weighed 8 e + weighed 4 f + weighed 2 g + weighed 1 h) (eight a b c d e f g h) c (omega (arith, small 16 d, small 8 e, small 4 f, small 2 g, small 1 h)) (omega (arith, scaled 64 2 128 a (omega arith), scaled 64 1 64 b (omega arith)))

told-3 : (a b c d e f g h : Bool) → has_bit 16 (eight a b c d e f g h) ≡ d
told-3 a b c d e f g h =
    between 16 (weighed 4 a + weighed 2 b + weighed 1 c) (weighed 8 e + weighed 4 f + weighed 2 g + weighed 1 h) (eight a b c d e f g h) d (omega (arith, small 8 e, small 4 f, small 2 g, small 1 h)) (omega (arith, scaled 32 4 128 a (omega arith), scaled 32 2 64 b (omega arith), scaled 32 1 32 c (omega arith)))

told-4 : (a b c d e f g h : Bool) → has_bit 8 (eight a b c d e f g h) ≡ e
told-4 a b c d e f g h =
    between 8 (weighed 8 a + weighed 4 b + weighed 2 c + weighed 1 d) (weighed 4 f + weighed 2 g + weighed 1 h) (eight a b c d e f g h) e (omega (arith, small 4 f, small 2 g, small 1 h)) (omega (arith, scaled 16 8 128 a (omega arith), scaled 16 4 64 b (omega arith), scaled 16 2 32 c (omega arith), scaled 16 1 16 d (omega arith)))

told-5 : (a b c d e f g h : Bool) → has_bit 4 (eight a b c d e f g h) ≡ f
told-5 a b c d e f g h =
    between 4 (weighed 16 a + weighed 8 b + weighed 4 c + weighed 2 d + weighed 1 e) (weighed 2 g + weighed 1 h) (eight a b c d e f g h) f (omega (arith, small 2 g, small 1 h)) (omega (arith, scaled 8 16 128 a (omega arith), scaled 8 8 64 b (omega arith), scaled 8 4 32 c (omega arith), scaled 8 2 16 d (omega arith), scaled 8 1 8 e (omega arith)))

told-6 : (a b c d e f g h : Bool) → has_bit 2 (eight a b c d e f g h) ≡ g
told-6 a b c d e f g h =
    between 2 (weighed 32 a + weighed 16 b + weighed 8 c + weighed 4 d + weighed 2 e + weighed 1 f) (weighed 1 h) (eight a b c d e f g h) g (omega (arith, small 1 h)) (omega (arith, scaled 4 32 128 a (omega arith), scaled 4 16 64 b (omega arith), scaled 4 8 32 c (omega arith), scaled 4 4 16 d (omega arith), scaled 4 2 8 e (omega arith), scaled 4 1 4 f (omega arith)))

told-7 : (a b c d e f g h : Bool) → has_bit 1 (eight a b c d e f g h) ≡ h
told-7 a b c d e f g h =
    between 1 (weighed 64 a + weighed 32 b + weighed 16 c + weighed 8 d + weighed 4 e + weighed 2 f + weighed 1 g) (0) (eight a b c d e f g h) h (omega arith) (omega (arith, scaled 2 64 128 a (omega arith), scaled 2 32 64 b (omega arith), scaled 2 16 32 c (omega arith), scaled 2 8 16 d (omega arith), scaled 2 4 8 e (omega arith), scaled 2 2 4 f (omega arith), scaled 2 1 2 g (omega arith)))

-- the bit of a region is what the note says of it
bit_told : (range : RegionRange) (dirty : Bool) (at b r n : ℕ) → n ≡ at + r → r < 8 → has_bit (2 ^ (7 - r)) (byte_noted range dirty at b) ≡ region_noted range dirty n (has_bit (2 ^ (7 - r)) b)
bit_told range dirty at b zero n is below =
    let here : at ≡ n = omega (arith, is) in
    told-0 (region_noted range dirty at (has_bit 128 b)) (region_noted range dirty (at + 1) (has_bit 64 b)) (region_noted range dirty (at + 2) (has_bit 32 b)) (region_noted range dirty (at + 3) (has_bit 16 b)) (region_noted range dirty (at + 4) (has_bit 8 b)) (region_noted range dirty (at + 5) (has_bit 4 b)) (region_noted range dirty (at + 6) (has_bit 2 b)) (region_noted range dirty (at + 7) (has_bit 1 b))
    ∙ ap (λ (m : ℕ). region_noted range dirty m (has_bit 128 b)) here
bit_told range dirty at b (suc zero) n is below =
    let here : at + 1 ≡ n = omega (arith, is) in
    told-1 (region_noted range dirty at (has_bit 128 b)) (region_noted range dirty (at + 1) (has_bit 64 b)) (region_noted range dirty (at + 2) (has_bit 32 b)) (region_noted range dirty (at + 3) (has_bit 16 b)) (region_noted range dirty (at + 4) (has_bit 8 b)) (region_noted range dirty (at + 5) (has_bit 4 b)) (region_noted range dirty (at + 6) (has_bit 2 b)) (region_noted range dirty (at + 7) (has_bit 1 b))
    ∙ ap (λ (m : ℕ). region_noted range dirty m (has_bit 64 b)) here
bit_told range dirty at b (suc (suc zero)) n is below =
    let here : at + 2 ≡ n = omega (arith, is) in
    told-2 (region_noted range dirty at (has_bit 128 b)) (region_noted range dirty (at + 1) (has_bit 64 b)) (region_noted range dirty (at + 2) (has_bit 32 b)) (region_noted range dirty (at + 3) (has_bit 16 b)) (region_noted range dirty (at + 4) (has_bit 8 b)) (region_noted range dirty (at + 5) (has_bit 4 b)) (region_noted range dirty (at + 6) (has_bit 2 b)) (region_noted range dirty (at + 7) (has_bit 1 b))
    ∙ ap (λ (m : ℕ). region_noted range dirty m (has_bit 32 b)) here
bit_told range dirty at b (suc (suc (suc zero))) n is below =
    let here : at + 3 ≡ n = omega (arith, is) in
    told-3 (region_noted range dirty at (has_bit 128 b)) (region_noted range dirty (at + 1) (has_bit 64 b)) (region_noted range dirty (at + 2) (has_bit 32 b)) (region_noted range dirty (at + 3) (has_bit 16 b)) (region_noted range dirty (at + 4) (has_bit 8 b)) (region_noted range dirty (at + 5) (has_bit 4 b)) (region_noted range dirty (at + 6) (has_bit 2 b)) (region_noted range dirty (at + 7) (has_bit 1 b))
    ∙ ap (λ (m : ℕ). region_noted range dirty m (has_bit 16 b)) here
bit_told range dirty at b (suc (suc (suc (suc zero)))) n is below =
    let here : at + 4 ≡ n = omega (arith, is) in
    told-4 (region_noted range dirty at (has_bit 128 b)) (region_noted range dirty (at + 1) (has_bit 64 b)) (region_noted range dirty (at + 2) (has_bit 32 b)) (region_noted range dirty (at + 3) (has_bit 16 b)) (region_noted range dirty (at + 4) (has_bit 8 b)) (region_noted range dirty (at + 5) (has_bit 4 b)) (region_noted range dirty (at + 6) (has_bit 2 b)) (region_noted range dirty (at + 7) (has_bit 1 b))
    ∙ ap (λ (m : ℕ). region_noted range dirty m (has_bit 8 b)) here
bit_told range dirty at b (suc (suc (suc (suc (suc zero))))) n is below =
    let here : at + 5 ≡ n = omega (arith, is) in
    told-5 (region_noted range dirty at (has_bit 128 b)) (region_noted range dirty (at + 1) (has_bit 64 b)) (region_noted range dirty (at + 2) (has_bit 32 b)) (region_noted range dirty (at + 3) (has_bit 16 b)) (region_noted range dirty (at + 4) (has_bit 8 b)) (region_noted range dirty (at + 5) (has_bit 4 b)) (region_noted range dirty (at + 6) (has_bit 2 b)) (region_noted range dirty (at + 7) (has_bit 1 b))
    ∙ ap (λ (m : ℕ). region_noted range dirty m (has_bit 4 b)) here
bit_told range dirty at b (suc (suc (suc (suc (suc (suc zero)))))) n is below =
    let here : at + 6 ≡ n = omega (arith, is) in
    told-6 (region_noted range dirty at (has_bit 128 b)) (region_noted range dirty (at + 1) (has_bit 64 b)) (region_noted range dirty (at + 2) (has_bit 32 b)) (region_noted range dirty (at + 3) (has_bit 16 b)) (region_noted range dirty (at + 4) (has_bit 8 b)) (region_noted range dirty (at + 5) (has_bit 4 b)) (region_noted range dirty (at + 6) (has_bit 2 b)) (region_noted range dirty (at + 7) (has_bit 1 b))
    ∙ ap (λ (m : ℕ). region_noted range dirty m (has_bit 2 b)) here
bit_told range dirty at b (suc (suc (suc (suc (suc (suc (suc zero))))))) n is below =
    let here : at + 7 ≡ n = omega (arith, is) in
    told-7 (region_noted range dirty at (has_bit 128 b)) (region_noted range dirty (at + 1) (has_bit 64 b)) (region_noted range dirty (at + 2) (has_bit 32 b)) (region_noted range dirty (at + 3) (has_bit 16 b)) (region_noted range dirty (at + 4) (has_bit 8 b)) (region_noted range dirty (at + 5) (has_bit 4 b)) (region_noted range dirty (at + 6) (has_bit 2 b)) (region_noted range dirty (at + 7) (has_bit 1 b))
    ∙ ap (λ (m : ℕ). region_noted range dirty m (has_bit 1 b)) here
bit_told range dirty at b (suc (suc (suc (suc (suc (suc (suc (suc r)))))))) n is below = absurd (omega (arith, below))

out_of_range : (range : RegionRange) (dirty was : Bool) (n : ℕ) → in_range range n ≡ false → region_noted range dirty n was ≡ was
out_of_range range dirty was n out = ap (λ (x : Bool). if x then dirty else was) out

within_range : (range : RegionRange) (dirty was : Bool) (n : ℕ) → in_range range n ≡ true → region_noted range dirty n was ≡ dirty
within_range range dirty was n in_it = ap (λ (x : Bool). if x then dirty else was) in_it

pub region_other : (range : RegionRange) (dirty : Bool) (at r n : ℕ) (bytes : List ℕ) → n ≡ at + r → in_range range n ≡ false → is_region_dirty (regions_noted range dirty at bytes) r ≡ is_region_dirty bytes r
region_other range dirty at r n [] is out = refl
region_other range dirty at r n (b ∷ bs) is out = elim (cases_lt r 8) [
  | inl here ↦ let told = bit_told range dirty at b r n is here ∙ out_of_range range dirty (has_bit (2 ^ (7 - r)) b) n out in grind (arith, nat_tests, told)
  | inr behind ↦ let rest = region_other range dirty (at + 8) (r - 8) n bs (omega (arith, is, behind)) out in grind (arith, nat_tests, rest)
]

pub region_own : (range : RegionRange) (dirty : Bool) (at r n : ℕ) (bytes : List ℕ) → n ≡ at + r → r < 8 * length bytes → in_range range n ≡ true → is_region_dirty (regions_noted range dirty at bytes) r ≡ dirty
region_own range dirty at r n [] is within in_it = absurd (omega (arith, within))
region_own range dirty at r n (b ∷ bs) is within in_it = elim (cases_lt r 8) [
  | inl here ↦ let told = bit_told range dirty at b r n is here ∙ within_range range dirty (has_bit (2 ^ (7 - r)) b) n in_it in grind (arith, nat_tests, told)
  | inr behind ↦ let rest = region_own range dirty (at + 8) (r - 8) n bs (omega (arith, is, behind)) (omega (arith, within, behind)) in_it in grind (arith, nat_tests, rest)
]
