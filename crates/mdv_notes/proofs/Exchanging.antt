-- A volume's states taken out, changed and put back.
use Rattle.std.proofs.Common.{◌≡◌, ◌<◌, ◌==◌, ℕ, suc, refl, sym, ◌∙◌, ap, List, [], ◌∷◌, length, get_or, map, Option, None, Some, inl, inr, arith}
use Rattle.std.specs.Prelude.{All, if◌then◌else◌, unwrap_or}
use Rattle.std.specs.List.{find}
use Rattle.std.proofs.lemmas.List.{get_or_default}
use Rattle.std.proofs.lemmas.Bool.Decides.{nat_tests}
use Rattle.mdv_plan.specs.Sorted.{IsAscending, changed}
use Rattle.mdv_plan.proofs.Ascending.{find_at, keys_differ}
use Rattle.mdv_notes.specs.Below.{VolId, KindStatus, SoftNoted, VolumeStatus}
use Rattle.mdv_notes.specs.Noted.{restated}
use Rattle.mdv_notes.proofs.Finding.{same_or_other}

abbrev pub volume_key : VolumeStatus → ℕ
volume_key s = s.number.0

abbrev pub hollow : VolId → VolumeStatus
hollow v = record { number = v; kind = SoftNoted }

twice_mapped : {X : Type 0} (g h j : X → X) (xs : List X) → All (λ x. h (g x) ≡ j x) xs → map h (map g xs) ≡ map j xs
twice_mapped g h j [] same = refl
twice_mapped g h j (x ∷ xs) same = λ i. same 0 x (omega arith) i ∷ twice_mapped g h j xs (λ k d within. same (suc k) d (omega (arith, within))) i

once_mapped : {X : Type 0} (g j : X → X) (xs : List X) → All (λ x. g x ≡ j x) xs → map g xs ≡ map j xs
once_mapped g j [] same = refl
once_mapped g j (x ∷ xs) same = λ i. same 0 x (omega arith) i ∷ once_mapped g j xs (λ k d within. same (suc k) d (omega (arith, within))) i

found_number : (k : ℕ) (xs : List VolumeStatus) (y : VolumeStatus) → find (λ x. volume_key x == k) xs ≡ Some y → volume_key y ≡ k
found_number k [] y found = grind (arith, found)
found_number k (x ∷ xs) y found = elim (same_or_other (volume_key x) k) [
  | inl here ↦ grind (arith, nat_tests)
  | inr other ↦ found_number k xs y (grind (arith, nat_tests))
]

one_exchanged : (v : VolId) (f : KindStatus → KindStatus) (old y : VolumeStatus) → volume_key old ≡ v.0 → (volume_key y ≡ v.0 → y ≡ old) → (let x = (if volume_key y == v.0 then hollow v else y) in if volume_key x == volume_key old then record { number = old.number; kind = f old.kind } else x) ≡ restated v f y
one_exchanged v f old y is only = elim (same_or_other (volume_key y) v.0) [
  | inl here ↦ let same = only here in let numbers = ap (λ (s : VolumeStatus). s.number) same in let kinds = ap (λ (s : VolumeStatus). f s.kind) same in grind (arith, nat_tests)
  | inr other ↦ grind (arith, nat_tests)
]

pub exchanged : (v : VolId) (f : KindStatus → KindStatus) (old : VolumeStatus) (xs : List VolumeStatus) → IsAscending volume_key xs → find (λ x. volume_key x == v.0) xs ≡ Some old → changed volume_key (record { number = old.number; kind = f old.kind }) (changed volume_key (hollow v) xs) ≡ map (restated v f) xs
exchanged v f old xs rising found =
    twice_mapped _ _ (restated v f) xs (λ i d within. one_exchanged v f old (get_or xs i d) (found_number v.0 xs old found) (λ is. only_one i d within is))
  where
    only_one : (i : ℕ) (d : VolumeStatus) → i < length xs → volume_key (get_or xs i d) ≡ v.0 → get_or xs i d ≡ old
    only_one i d within is =
        let y = get_or xs i d in
        let key_is : (e : VolumeStatus) → volume_key (get_or xs i e) ≡ v.0 = λ e. ap volume_key (get_or_default xs i e d within) ∙ is in
        let at : find (λ x. volume_key x == v.0) xs ≡ Some y = find_at volume_key xs v.0 i y rising (record { within = within; is = key_is }) (get_or_default xs i d y within) in
        ap (λ (o : Option VolumeStatus). unwrap_or o old) (sym at ∙ found)

pub none_exchanged : (v : VolId) (f : KindStatus → KindStatus) (xs : List VolumeStatus) → find (λ x. volume_key x == v.0) xs ≡ None → changed volume_key (hollow v) xs ≡ map (restated v f) xs
none_exchanged v f xs none =
    once_mapped _ (restated v f) xs (λ i d within.
    let other : volume_key (get_or xs i d) ≡ v.0 → ⊥ = keys_differ volume_key xs v.0 none i d within in
    grind (arith, nat_tests))

-- taken out, changed and put in
pub put_back : (v : VolId) (f : KindStatus → KindStatus) (old : VolumeStatus) (made : KindStatus) (xs mid new : List VolumeStatus) → IsAscending volume_key xs → Some old ≡ find (λ x. volume_key x == v.0) xs → mid ≡ changed volume_key (hollow v) xs → made ≡ f old.kind → new ≡ changed volume_key (record { number = old.number; kind = made }) mid → new ≡ map (restated v f) xs
put_back v f old made xs mid new rising found out changes put =
    put
    ∙ ap (λ (k : KindStatus). changed volume_key (record { number = old.number; kind = k }) mid) changes
    ∙ ap (λ (ys : List VolumeStatus). changed volume_key (record { number = old.number; kind = f old.kind }) ys) out
    ∙ exchanged v f old xs rising (sym found)
