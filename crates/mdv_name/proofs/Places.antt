-- A map from codes to places beside a list.
use Rattle.std.proofs.Common.{◌≡◌, ◌<◌, ℕ, zero, suc, Bool, true, false, cond, refl, sym, ◌∙◌, ap, subst, List, [], ◌∷◌, ◌++◌, length, map, Option, None, Some, arith, nat_cmp}
use Rattle.std.proofs.lemmas.Bool.Decides.{nat_tests}
use Rattle.std.proofs.lemmas.Grind.{common_steps}
use Rattle.std.specs.Prelude.{slice_get}
use Rattle.std.specs.Option.{option_map}
use Rattle.std.specs.BTreeMap.{BTreeMap, get, is_at}
use Rattle.mdv_base.specs.declared.drive.DriveName.{DriveName}
use Rattle.mdv_base.specs.declared.drive.SliceName.{SliceName}
use Rattle.mdv_name.specs.Code.{drive_code, slice_code}
use Rattle.mdv_name.specs.Drive.{IsDriveName}
use Rattle.mdv_name.specs.Index.{HasPlaces}

pub slice_get-map : {A B : Type 0} (f : A → B) (xs : List A) (n : ℕ) → slice_get (map f xs) n ≡ option_map f (slice_get xs n)
slice_get-map f [] n = refl
slice_get-map f (x ∷ xs) zero = refl
slice_get-map f (x ∷ xs) (suc n) = slice_get-map f xs n

pub slice_get-push : {A : Type 0} (xs : List A) (x : A) → slice_get (xs ++ x ∷ []) (length xs) ≡ Some x
slice_get-push [] x = refl
slice_get-push (y ∷ xs) x = slice_get-push xs x

pub slice_get-append : {A : Type 0} (xs ys : List A) (n : ℕ) (x : A) → slice_get xs n ≡ Some x → slice_get (xs ++ ys) n ≡ Some x
slice_get-append [] ys n x at = cc
slice_get-append (y ∷ xs) ys zero x at = at
slice_get-append (y ∷ xs) ys (suc n) x at = slice_get-append xs ys n x at

-- of a list with one more, each element is an old one or the last
pub data PushedAt {A : Type 0} (xs : List A) (x : A) (n : ℕ) (y : A) : Type 0 where
  old : slice_get xs n ≡ Some y → PushedAt xs x n y
  last : x ≡ y → n ≡ length xs → PushedAt xs x n y

pub pushed_at : {A : Type 0} (xs : List A) (x : A) (n : ℕ) (y : A) → slice_get (xs ++ x ∷ []) n ≡ Some y → PushedAt xs x n y
pushed_at [] x zero y at = last (cc) refl
pushed_at [] x (suc n) y at = cc
pushed_at (z ∷ xs) x zero y at = old at
pushed_at (z ∷ xs) x (suc n) y at = elim (pushed_at xs x n y at) [ old is ↦ old is | last is place ↦ last is (ap suc place) ]

is_at_same : (a b : ℕ) → is_at (nat_cmp a) b ≡ true → a ≡ b
is_at_same a b is = grind (arith, nat_tests, common_steps)

is_at_other : (a b : ℕ) → is_at (nat_cmp a) b ≡ false → a ≡ b → ⊥
is_at_other a b is same = grind (arith, nat_tests, common_steps)

pub HasPlaces-push : (places new : BTreeMap ℕ ℕ) (codes : List (Option ℕ)) (code : ℕ) → HasPlaces places codes → get nat_cmp places code ≡ None → ((q : ℕ) → get nat_cmp new q ≡ cond (is_at (nat_cmp code) q) (Some (length codes)) (get nat_cmp places q)) → HasPlaces new (codes ++ Some code ∷ [])
HasPlaces-push places new codes code has fresh updated =
    record {
      stands = λ q n at.
          let P : Bool → Type 0 = λ v. is_at (nat_cmp code) q ≡ v → cond v (Some (length codes)) (get nat_cmp places q) ≡ Some n → slice_get (codes ++ Some code ∷ []) n ≡ Some (Some q) in
          (elim (is_at (nat_cmp code) q) as P [
            | true ↦ λ same is.
                let code_is : code ≡ q = is_at_same code q same in
                let place : length codes ≡ n = cc in
                subst (λ (m : ℕ). slice_get (codes ++ Some code ∷ []) m ≡ Some (Some q)) place (slice_get-push codes (Some code) ∙ ap (λ (k : ℕ). Some (Some k)) code_is)
            | false ↦ λ other is. slice_get-append codes (Some code ∷ []) n (Some q) (has.stands q n is)
          ]) refl (sym (updated q) ∙ at);
      known = λ q n at.
          let P : Bool → Type 0 = λ v. is_at (nat_cmp code) q ≡ v → cond v (Some (length codes)) (get nat_cmp places q) ≡ Some n in
          let here : cond (is_at (nat_cmp code) q) (Some (length codes)) (get nat_cmp places q) ≡ Some n =
          (elim (is_at (nat_cmp code) q) as P [
            | true ↦ λ same. elim (pushed_at codes (Some code) n (Some q) at) [
              | old is ↦ let before = has.known q n is in let none : get nat_cmp places q ≡ None = ap (get nat_cmp places) (sym (is_at_same code q same)) ∙ fresh in cc
              | last is place ↦ ap (λ (m : ℕ). Some m) (sym place)
            ]
            | false ↦ λ other. elim (pushed_at codes (Some code) n (Some q) at) [
              | old is ↦ has.known q n is
              | last is place ↦ absurd (is_at_other code q other (cc))
            ]
          ]) refl in
          updated q ∙ here;
    }

pub HasPlaces-skip : (places : BTreeMap ℕ ℕ) (codes : List (Option ℕ)) → HasPlaces places codes → HasPlaces places (codes ++ None ∷ [])
HasPlaces-skip places codes has =
    record {
      stands = λ q n at. slice_get-append codes (None ∷ []) n (Some q) (has.stands q n at);
      known = λ q n at. elim (pushed_at codes None n (Some q) at) [ old is ↦ has.known q n is | last is place ↦ cc ];
    }

pub drive_code_injective : (d e : DriveName) → IsDriveName d → IsDriveName e → drive_code d ≡ drive_code e → d ≡ e
drive_code_injective d e first second is =
    let controller : d.controller ≡ e.controller = omega (arith, first.target, first.disk, second.target, second.disk, is) in
    let target : d.target ≡ e.target = omega (arith, first.disk, second.disk, controller, is) in
    let disk : d.disk ≡ e.disk = omega (arith, controller, target, is) in
    λ i. record { controller = controller i; target = target i; disk = disk i }

pub slice_code_injective : (s t : SliceName) → IsDriveName s.drive → IsDriveName t.drive → s.slice < 256 → t.slice < 256 → slice_code s ≡ slice_code t → s ≡ t
slice_code_injective s t first second short also is =
    let drives : drive_code s.drive ≡ drive_code t.drive = omega (arith, short, also, is) in
    let slice : s.slice ≡ t.slice = omega (arith, drives, is) in
    let drive = drive_code_injective s.drive t.drive first second drives in
    λ i. record { drive = drive i; slice = slice i }
