-- What lists tell of the values that a note doesn't name, and of those that it names.
use Rattle.std.proofs.Common.{◌≡◌, ℕ, zero, suc, refl, sym, ◌∙◌, ap, Bool, List, [], ◌∷◌, inl, inr, arith}
use Rattle.std.specs.Prelude.{slice_get}
use Rattle.std.specs.Option.{option_map}
use Rattle.std.proofs.lemmas.Bool.Decides.{nat_tests}
use Rattle.mdv_notes.specs.Below.{VolId}
use Rattle.mdv_notes.specs.Flags.{flags_noted}
use Rattle.mdv_notes.specs.Parts.{changed_at}
use Rattle.mdv_notes.specs.Told.{flag_of}
use Rattle.mdv_notes.proofs.Finding.{same_or_other}

pub get_other : {T : Type 0} (f : T → T) (xs : List T) (n k : ℕ) → (n ≡ k → ⊥) → slice_get (changed_at n f xs) k ≡ slice_get xs k
get_other f [] n k apart = refl
get_other f (x ∷ xs) zero zero apart = absurd (apart refl)
get_other f (x ∷ xs) zero (suc k) apart = refl
get_other f (x ∷ xs) (suc n) zero apart = refl
get_other f (x ∷ xs) (suc n) (suc k) apart = get_other f xs n k (λ is. apart (ap suc is))

pub get_own : {T : Type 0} (f : T → T) (xs : List T) (n : ℕ) → slice_get (changed_at n f xs) n ≡ option_map f (slice_get xs n)
get_own f [] n = refl
get_own f (x ∷ xs) zero = refl
get_own f (x ∷ xs) (suc n) = get_own f xs n

pub flag_other : (v w : VolId) (is : Bool) (vs : List VolId) (flags : List Bool) → (v.0 ≡ w.0 → ⊥) → flag_of w vs (flags_noted v is vs flags) ≡ flag_of w vs flags
flag_other v w is [] [] apart = refl
flag_other v w is [] (flag ∷ flags) apart = refl
flag_other v w is (x ∷ xs) [] apart = refl
flag_other v w is (x ∷ xs) (flag ∷ flags) apart =
    let rest = flag_other v w is xs flags apart in
    elim (same_or_other x.0 w.0) [
      | inl here ↦ let not_own : x.0 ≡ v.0 → ⊥ = λ own. apart (sym own ∙ here) in grind (arith, nat_tests)
      | inr other ↦ grind (arith, nat_tests)
    ]

pub flag_own : (v w : VolId) (is : Bool) (vs : List VolId) (flags : List Bool) → v.0 ≡ w.0 → flag_of w vs (flags_noted v is vs flags) ≡ option_map (λ was. is) (flag_of w vs flags)
flag_own v w is [] [] same = refl
flag_own v w is [] (flag ∷ flags) same = refl
flag_own v w is (x ∷ xs) [] same = refl
flag_own v w is (x ∷ xs) (flag ∷ flags) same =
    let rest = flag_own v w is xs flags same in
    elim (same_or_other x.0 w.0) [
      | inl here ↦ let own : x.0 ≡ v.0 = here ∙ sym same in grind (arith, nat_tests)
      | inr other ↦ grind (arith, nat_tests)
    ]
