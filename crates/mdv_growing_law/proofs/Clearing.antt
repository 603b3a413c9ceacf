-- What a search finds among the values that stay, and which volumes are named.
use Rattle.std.proofs.Common.{◌≡◌, ℕ, ◌==◌, ◌||◌, ◌++◌, Bool, true, false, not, inl, inr, List, [], ◌∷◌, find, flat_map, length, map, Contains, None, refl, ◌∙◌, ap, arith}
use Rattle.std.specs.Prelude.{All}
use Rattle.std.specs.List.{list_any}
use Rattle.std.proofs.lemmas.Bool.{cases_Bool, false≢true}
use Rattle.std.proofs.lemmas.Bool.Decides.{nat_tests}
use Rattle.std.proofs.lemmas.List.{get_or-map, length-map}
use Rattle.std.proofs.lemmas.List.Elements.{All-head, All-tail, Contains-append_right}
use Rattle.std.proofs.lemmas.List.Folds.{list_any_at}
use Rattle.mdv_change.specs.Below.{kept, volume_key}
use Rattle.mdv_growing_law.specs.Below.{VolId}

-- where none gives any, there are none
pub flat_none : {X A : Type 0} (f : X → List A) (xs : List X) → All (λ (x : X). f x ≡ []) xs → flat_map f xs ≡ []
flat_none f [] none = refl
flat_none {X} {A} f (x ∷ xs) none = ap (λ (l : List A). l ++ flat_map f xs) (All-head (λ (y : X). f y ≡ []) x xs none) ∙ flat_none f xs (All-tail (λ (y : X). f y ≡ []) x xs none)

module _ {X : Type 0} (key : X → ℕ) (gone : List ℕ) (k : ℕ) where
  abbrev goes : ℕ → Bool
  goes n = list_any (λ (j : ℕ). n == j) gone

  alike : (x : X) → key x == k ≡ true → not (goes (key x)) ≡ not (goes k)
  alike x same = let equal : key x ≡ k = grind (arith, nat_tests) in ap (λ (n : ℕ). not (goes n)) equal

  pub find_gone : goes k ≡ true → (xs : List X) → find (λ (x : X). key x == k) (kept key gone xs) ≡ None
  find_gone is [] = refl
  find_gone is (x ∷ xs) =
      let rest = find_gone is xs in
      elim (cases_Bool (key x == k)) [
        | inl same ↦ let leaves : not (goes (key x)) ≡ false = alike x same ∙ ap not is in rw leaves rest
        | inr differs ↦ elim (cases_Bool (not (goes (key x)))) [
          | inl stays ↦ rw (stays, differs) rest
          | inr leaves ↦ rw leaves rest
        ]
      ]

  pub find_kept : goes k ≡ false → (xs : List X) → find (λ (x : X). key x == k) (kept key gone xs) ≡ find (λ (x : X). key x == k) xs
  find_kept is [] = refl
  find_kept is (x ∷ xs) =
      let rest = find_kept is xs in
      elim (cases_Bool (key x == k)) [
        | inl same ↦ let stays : not (goes (key x)) ≡ true = alike x same ∙ ap not is in rw (stays, same) refl
        | inr differs ↦ elim (cases_Bool (not (goes (key x)))) [
          | inl stays ↦ rw (stays, differs) rest
          | inr leaves ↦ rw (leaves, differs) rest
        ]
      ]

pub same_id : (v w : VolId) → v.0 == w.0 ≡ true → v ≡ w
same_id v w is = let same : v.0 ≡ w.0 = grind (arith, nat_tests) in ap (λ (n : ℕ). record { 0 = n }) same

-- by its number, it is one of these
abbrev pub is_one : List VolId → VolId → Bool
is_one vs v = list_any (λ (j : ℕ). v.0 == j) (map volume_key vs)

pub named_is : (vs : List VolId) (v : VolId) → Contains vs v → is_one vs v ≡ true
named_is vs v has =
    let long : length (map volume_key vs) ≡ length vs = length-map vs volume_key in
    let at = get_or-map volume_key vs has.0 v v.0 has.1 ∙ ap volume_key has.2 in
    let itself : v.0 == v.0 ≡ true = grind (arith, nat_tests) in
    list_any_at (λ (j : ℕ). v.0 == j) (map volume_key vs) has.0 v.0 (omega (arith, long, has.1)) (ap (λ (j : ℕ). v.0 == j) at ∙ itself)

is_named : (vs : List VolId) (v : VolId) → is_one vs v ≡ true → Contains vs v
is_named [] v is = absurd (false≢true is)
is_named (w ∷ ws) v is = by (is_named ws v) (v.0 == w.0) refl is where
  by : (is_one ws v ≡ true → Contains ws v) → (same : Bool) → v.0 == w.0 ≡ same → (same || is_one ws v) ≡ true → Contains (w ∷ ws) v
  by later true same it = let here : w ≡ v = (let equal : w.0 ≡ v.0 = grind (arith, nat_tests) in ap (λ (n : ℕ). record { 0 = n }) equal) in (0, omega arith, here)
  by later false same it = Contains-append_right (w ∷ []) ws v (later it)

pub unnamed_isnt : (vs : List VolId) (v : VolId) → (Contains vs v → ⊥) → is_one vs v ≡ false
unnamed_isnt vs v never = elim (cases_Bool (is_one vs v)) [
  | inl is ↦ absurd (never (is_named vs v is))
  | inr isnt ↦ isnt
]
