-- One value of a list changed, at its place.
use Rattle.std.proofs.Common.{◌≡◌, ◌<◌, ◌≤◌, ℕ, zero, suc, refl, ap, List, [], ◌∷◌, length, get_or, set, arith}
use Rattle.mdv_notes.specs.Parts.{changed_at}

pub set_changed : {T : Type 0} (f : T → T) (xs : List T) (n : ℕ) (d : T) → n < length xs → set xs n (f (get_or xs n d)) ≡ changed_at n f xs
set_changed f [] n d within = absurd (omega (arith, within))
set_changed f (x ∷ xs) zero d within = refl
set_changed {T = T} f (x ∷ xs) (suc n) d within = ap (λ (ys : List T). x ∷ ys) (set_changed f xs n d (omega (arith, within)))

pub unchanged_past : {T : Type 0} (f : T → T) (xs : List T) (n : ℕ) → length xs ≤ n → xs ≡ changed_at n f xs
unchanged_past f [] n past = refl
unchanged_past f (x ∷ xs) zero past = absurd (omega (arith, past))
unchanged_past {T = T} f (x ∷ xs) (suc n) past = ap (λ (ys : List T). x ∷ ys) (unchanged_past f xs n (omega (arith, past)))
