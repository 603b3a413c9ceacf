-- Each value of a list changed, one after another, by what its place says.
use Rattle.std.proofs.Common.{◌≡◌, ◌<◌, ◌≤◌, ◌+◌, ◌-◌, ◌*◌, ℕ, zero, suc, refl, sym, ◌∙◌, ap, List, [], ◌∷◌, length, get_or, set, map, Bool, Option, arith}
use Rattle.std.specs.Prelude.{slice_get, None, Some}
use Rattle.mdv_notes.specs.Below.{VolId}
use Rattle.mdv_notes.specs.Flags.{flag_noted, flags_noted}
use Rattle.mdv_notes.specs.Regions.{byte_noted, regions_noted}
use Rattle.mdv_notes.specs.declared.note.RegionRange.{RegionRange}

-- so many of them are changed, from this place on
abbrev pub walked : {T : Type 0} → (ℕ → T → T) → ℕ → ℕ → List T → List T
walked g at zero xs = xs
walked g at (suc n) [] = []
walked g at (suc n) (x ∷ xs) = g at x ∷ walked g (at + 1) n xs

pub walked_next : {T : Type 0} (g : ℕ → T → T) (at n i : ℕ) (d : T) (xs : List T) → n ≡ at + i → i < length xs → set (walked g at i xs) i (g n (get_or (walked g at i xs) i d)) ≡ walked g at (suc i) xs
walked_next g at n i d [] is within = absurd (omega (arith, within))
walked_next {T = T} g at n zero d (x ∷ xs) is within = let here : n ≡ at = omega (arith, is) in ap (λ (k : ℕ). g k x ∷ xs) here
walked_next {T = T} g at n (suc i) d (x ∷ xs) is within = ap (λ (ys : List T). g at x ∷ ys) (walked_next g (at + 1) n i d xs (omega (arith, is)) (omega (arith, within)))

-- at the next place
pub walked_more : {T : Type 0} (g : ℕ → T → T) (i : ℕ) (d : T) (xs ys : List T) → ys ≡ walked g 0 i xs → i < length xs → set ys i (g i (get_or ys i d)) ≡ walked g 0 (i + 1) xs
walked_more {T = T} g i d xs ys is within =
    let next : suc i ≡ i + 1 = omega arith in
    ap (λ (zs : List T). set zs i (g i (get_or zs i d))) is ∙ walked_next g 0 i i d xs (omega arith) within ∙ ap (λ (k : ℕ). walked g 0 k xs) next

pub walked_length : {T : Type 0} (g : ℕ → T → T) (at i : ℕ) (xs : List T) → length (walked g at i xs) ≡ length xs
walked_length g at zero xs = refl
walked_length g at (suc i) [] = refl
walked_length g at (suc i) (x ∷ xs) = ap suc (walked_length g (at + 1) i xs)

pub walked_map : {T : Type 0} (f : T → T) (at n : ℕ) (xs : List T) → length xs ≤ n → walked (λ k. f) at n xs ≡ map f xs
walked_map f at zero [] all = refl
walked_map f at zero (x ∷ xs) all = absurd (omega (arith, all))
walked_map f at (suc n) [] all = refl
walked_map {T = T} f at (suc n) (x ∷ xs) all = ap (λ (ys : List T). f x ∷ ys) (walked_map f (at + 1) n xs (omega (arith, all)))

-- eight regions at each place
pub walked_regions : (range : RegionRange) (dirty : Bool) (at first n : ℕ) (bytes : List ℕ) → first ≡ 8 * at → length bytes ≤ n → walked (λ k b. byte_noted range dirty (8 * k) b) at n bytes ≡ regions_noted range dirty first bytes
walked_regions range dirty at first zero [] is all = refl
walked_regions range dirty at first zero (b ∷ bs) is all = absurd (omega (arith, all))
walked_regions range dirty at first (suc n) [] is all = refl
walked_regions range dirty at first (suc n) (b ∷ bs) is all =
    ap (λ (k : ℕ). byte_noted range dirty k b ∷ walked (λ k b. byte_noted range dirty (8 * k) b) (at + 1) n bs) (sym is)
    ∙ ap (λ (ys : List ℕ). byte_noted range dirty first b ∷ ys) (walked_regions range dirty (at + 1) (first + 8) n bs (omega (arith, is)) (omega (arith, all)))

-- no submirrors are left
walked_flags_none : (v : VolId) (is : Bool) (at n : ℕ) (vs : List VolId) (flags : List Bool) → ((k : ℕ) → at ≤ k → slice_get vs k ≡ None) → walked (λ k flag. flag_noted v is (slice_get vs k) flag) at n flags ≡ flags
walked_flags_none v is at zero vs flags past = refl
walked_flags_none v is at (suc n) vs [] past = refl
walked_flags_none v is at (suc n) vs (flag ∷ flags) past =
    ap (λ (o : Option VolId). flag_noted v is o flag ∷ walked (λ k flag. flag_noted v is (slice_get vs k) flag) (at + 1) n flags) (past at (omega arith))
    ∙ ap (λ (ys : List Bool). flag ∷ ys) (walked_flags_none v is (at + 1) n vs flags (λ k le. past k (omega (arith, le))))

walked_flags_from : (v : VolId) (is : Bool) (at n : ℕ) (vs ws : List VolId) (flags : List Bool) → ((k i : ℕ) → i ≡ at + k → slice_get vs i ≡ slice_get ws k) → length flags ≤ n → walked (λ k flag. flag_noted v is (slice_get vs k) flag) at n flags ≡ flags_noted v is ws flags
walked_flags_from v is at zero vs ws [] same all = refl
walked_flags_from v is at zero vs ws (flag ∷ flags) same all = absurd (omega (arith, all))
walked_flags_from v is at (suc n) vs ws [] same all = refl
walked_flags_from v is at (suc n) vs [] (flag ∷ flags) same all =
    walked_flags_none v is at (suc n) vs (flag ∷ flags) (λ k le. same (k - at) k (omega (arith, le)))
walked_flags_from v is at (suc n) vs (w ∷ ws) (flag ∷ flags) same all =
    ap (λ (o : Option VolId). flag_noted v is o flag ∷ walked (λ k flag. flag_noted v is (slice_get vs k) flag) (at + 1) n flags) (same 0 at (omega arith))
    ∙ ap (λ (ys : List Bool). flag_noted v is (Some w) flag ∷ ys) (walked_flags_from v is (at + 1) n vs ws flags (λ k i is. same (suc k) i (omega (arith, is))) (omega (arith, all)))

-- the flag at each place is that of the submirror there
pub walked_flags : (v : VolId) (is : Bool) (n : ℕ) (vs : List VolId) (flags : List Bool) → length flags ≤ n → walked (λ k flag. flag_noted v is (slice_get vs k) flag) 0 n flags ≡ flags_noted v is vs flags
walked_flags v is n vs flags all = walked_flags_from v is 0 n vs vs flags (λ k i is. let here : i ≡ k = omega (arith, is) in ap (slice_get vs) here) all
