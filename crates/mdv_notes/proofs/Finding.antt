-- A spare that is found by its slice is the only one of it.
use Rattle.std.proofs.Common.{◌≡◌, ◌<◌, ◌==◌, ℕ, suc, refl, sym, ◌∙◌, ap, List, [], ◌∷◌, length, get_or, map, Option, None, Some, ◌⊎◌, inl, inr, arith}
use Rattle.std.specs.Prelude.{All, if◌then◌else◌, unwrap_or}
use Rattle.std.proofs.lemmas.List.{get_or_default}
use Rattle.std.specs.List.{find}
use Rattle.std.proofs.lemmas.Bool.{cases_lt}
use Rattle.std.proofs.lemmas.Bool.Decides.{nat_tests}
use Rattle.mdv_plan.specs.Sorted.{IsAscending, changed}
use Rattle.mdv_plan.proofs.Ascending.{find_at, keys_differ}
use Rattle.mdv_notes.specs.Below.{SliceName, slice_code, SpareState, SpareStatus}
use Rattle.mdv_notes.specs.Spares.{spare_key, spare_noted, spares_noted}

mapped_alike : {X Y : Type 0} (g h : X → Y) (xs : List X) → All (λ x. g x ≡ h x) xs → map g xs ≡ map h xs
mapped_alike g h [] same = refl
mapped_alike {Y = Y} g h (x ∷ xs) same = λ i. same 0 x (omega arith) i ∷ mapped_alike g h xs (λ k d within. same (suc k) d (omega (arith, within))) i

mapped_same : {X : Type 0} (g : X → X) (xs : List X) → All (λ x. g x ≡ x) xs → map g xs ≡ xs
mapped_same g [] same = refl
mapped_same g (x ∷ xs) same = λ i. same 0 x (omega arith) i ∷ mapped_same g xs (λ k d within. same (suc k) d (omega (arith, within))) i

-- equal, or not
pub same_or_other : (a b : ℕ) → (a ≡ b) ⊎ (a ≡ b → ⊥)
same_or_other a b = elim (cases_lt a b) [
  | inl below ↦ inr (λ is. omega (arith, is, below))
  | inr at_least ↦ elim (cases_lt b a) [ inl above ↦ inr (λ is. omega (arith, is, above)) | inr at_most ↦ inl (omega (arith, at_least, at_most)) ]
]

pub found_key : (k : ℕ) (xs : List SpareStatus) (y : SpareStatus) → find (λ x. spare_key x == k) xs ≡ Some y → spare_key y ≡ k
found_key k [] y found = grind (arith, found)
found_key k (x ∷ xs) y found = elim (same_or_other (spare_key x) k) [
  | inl here ↦ grind (arith, nat_tests)
  | inr other ↦ found_key k xs y (grind (arith, nat_tests))
]

one_noted : (name : SliceName) (state : SpareState) (old y : SpareStatus) → spare_key old ≡ slice_code name → (spare_key y ≡ slice_code name → y ≡ old) → (if spare_key y == slice_code old.slice then record { slice = old.slice; state = state } else y) ≡ spare_noted name state y
one_noted name state old y is only = elim (same_or_other (spare_key y) (slice_code name)) [
  | inl here ↦ let same = only here in let slices = ap (λ (s : SpareStatus). s.slice) same in grind (arith, nat_tests)
  | inr other ↦ grind (arith, nat_tests)
]

-- the state in the place of the one that was found is that of the note
pub found_noted : (name : SliceName) (state : SpareState) (old : SpareStatus) (xs : List SpareStatus) → IsAscending spare_key xs → find (λ x. spare_key x == slice_code name) xs ≡ Some old → changed spare_key (record { slice = old.slice; state = state }) xs ≡ spares_noted name state xs
found_noted name state old xs rising found =
    mapped_alike _ (spare_noted name state) xs (λ i d within.
    one_noted name state old (get_or xs i d) (found_key (slice_code name) xs old found) (λ is. only_one i d within is))
  where
    only_one : (i : ℕ) (d : SpareStatus) → i < length xs → spare_key (get_or xs i d) ≡ slice_code name → get_or xs i d ≡ old
    only_one i d within is =
        let y = get_or xs i d in
        let key_is : (e : SpareStatus) → spare_key (get_or xs i e) ≡ slice_code name = λ e. ap spare_key (get_or_default xs i e d within) ∙ is in
        let at : find (λ x. spare_key x == slice_code name) xs ≡ Some y = find_at spare_key xs (slice_code name) i y rising (record { within = within; is = key_is }) (get_or_default xs i d y within) in
        ap (λ (o : Option SpareStatus). unwrap_or o old) (sym at ∙ found)

-- where none was found, none is noted
pub none_noted : (name : SliceName) (state : SpareState) (xs : List SpareStatus) → find (λ x. spare_key x == slice_code name) xs ≡ None → xs ≡ spares_noted name state xs
none_noted name state xs none =
    sym (mapped_same (spare_noted name state) xs (λ i d within.
    let other : spare_key (get_or xs i d) ≡ slice_code name → ⊥ = keys_differ spare_key xs (slice_code name) none i d within in
    grind (arith, nat_tests)))
