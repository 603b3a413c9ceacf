-- Marks, one by one.
use Rattle.std.proofs.Common.{◌≡◌, ◌<◌, ◌≤◌, ◌+◌, ◌==◌, ◌||◌, ℕ, Bool, true, false, cond, Some, map, refl, sym, ◌∙◌, ap, subst, List, [], ◌∷◌, ◌++◌, length, get_or, set, take, replicate, append_assoc, inl, inr, arith}
use Rattle.std.proofs.lemmas.Bool.{cases_eq, cases_lt}
use Rattle.std.proofs.lemmas.Bool.Decides.{nat_tests}
use Rattle.std.proofs.lemmas.List.{get_or_past, get_or-replicate, get_or-set_other, get_or-set_same, length-replicate, length-set, take_all, take_more}
use Rattle.std.proofs.lemmas.List.Elements.{All-head, All-tail}
use Rattle.std.proofs.lemmas.List.Folds.{list_any-append, list_any_none}
use Rattle.std.specs.List.{All, find, list_any}
use Rattle.std.specs.Prelude.{is_some}
use Rattle.mdv_keys.specs.Marks.{AreMarks, same}

pub or_false : (b : Bool) → (b || false) ≡ b
or_false true = refl
or_false false = refl

or_true : (b : Bool) → (b || true) ≡ true
or_true true = refl
or_true false = refl

-- one more value at the end
pub any_more : {T : Type 0} (key : T → ℕ) (xs : List T) (x : T) (k : ℕ) → list_any (λ y. key y == k) (xs ++ x ∷ []) ≡ (list_any (λ y. key y == k) xs || (key x == k))
any_more key xs x k = list_any-append (λ y. key y == k) xs (x ∷ []) ∙ ap (λ (b : Bool). list_any (λ y. key y == k) xs || b) (or_false (key x == k))

pub marks_none : {T : Type 0} (key : T → ℕ) (limit : ℕ) → AreMarks key limit (replicate limit false) []
marks_none key limit = record { size = length-replicate limit false; marked = λ k small. get_or-replicate limit k false false small }

marked_more : {T : Type 0} (key : T → ℕ) (limit : ℕ) (marks : List Bool) (xs : List T) (x : T) (k : ℕ) → AreMarks key limit marks xs → k < limit → get_or (set marks (key x) true) k false ≡ list_any (λ y. key y == k) (xs ++ x ∷ [])
marked_more key limit marks xs x k are small = elim (cases_eq (key x) k) [
  | inl same ↦
      let here : (key x == k) ≡ true = grind (arith, nat_tests) in
      let within : key x < length marks = omega (arith, are.size) in
      ap (λ (n : ℕ). get_or (set marks (key x) true) n false) (sym same) ∙ get_or-set_same marks (key x) true false within ∙ sym (any_more key xs x k ∙ ap (λ (b : Bool). list_any (λ y. key y == k) xs || b) here ∙ or_true (list_any (λ y. key y == k) xs))
  | inr other ↦
      let there : (key x == k) ≡ false = grind (arith, nat_tests) in
      get_or-set_other marks (key x) k true false (λ e. other (sym e)) ∙ are.marked k small ∙ sym (any_more key xs x k ∙ ap (λ (b : Bool). list_any (λ y. key y == k) xs || b) there ∙ or_false (list_any (λ y. key y == k) xs))
]

pub marks_more : {T : Type 0} (key : T → ℕ) (limit : ℕ) (marks : List Bool) (xs : List T) (x : T) → AreMarks key limit marks xs → AreMarks key limit (set marks (key x) true) (xs ++ x ∷ [])
marks_more key limit marks xs x are = record { size = length-set marks (key x) true ∙ are.size; marked = λ k small. marked_more key limit marks xs x k are small }

pub mark_step : {T : Type 0} (key : T → ℕ) (limit : ℕ) (marks new : List Bool) (xs more : List T) (i : ℕ) (d : T) → i < length more → new ≡ set marks (key (get_or more i d)) true → AreMarks key limit marks (xs ++ take i more) → AreMarks key limit new (xs ++ take (i + 1) more)
mark_step {T = T} key limit marks new xs more i d lt is are =
    let x = get_or more i d in
    let place : (xs ++ take i more) ++ x ∷ [] ≡ xs ++ take (i + 1) more = append_assoc xs (take i more) (x ∷ []) ∙ ap (λ (l : List T). xs ++ l) (sym (take_more more i d lt)) in
    subst (AreMarks key limit new) place (subst (λ (m : List Bool). AreMarks key limit m ((xs ++ take i more) ++ x ∷ [])) (sym is) (marks_more key limit marks (xs ++ take i more) x are))

pub marks_all : {T : Type 0} (key : T → ℕ) (limit : ℕ) (marks : List Bool) (xs more : List T) (i : ℕ) → length more ≤ i → AreMarks key limit marks (xs ++ take i more) → AreMarks key limit marks (xs ++ more)
marks_all {T = T} key limit marks xs more i past are = subst (λ (l : List T). AreMarks key limit marks (xs ++ l)) (take_all i more past) are

-- where all keys are below the limit, the marks tell of every number
pub marked_always : {T : Type 0} (key : T → ℕ) (limit : ℕ) (marks : List Bool) (xs : List T) (k : ℕ) → AreMarks key limit marks xs → All (λ x. key x < limit) xs → get_or marks k false ≡ list_any (λ x. key x == k) xs
marked_always key limit marks xs k are small = elim (cases_lt k limit) [
  | inl within ↦ are.marked k within
  | inr past ↦
      let none : list_any (λ x. key x == k) xs ≡ false = list_any_none (λ x. key x == k) xs (λ i d inside. let low : key (get_or xs i d) < limit = small i d inside in let other : key (get_or xs i d) ≡ k → ⊥ = λ e. omega arith in grind (arith, nat_tests)) in
      get_or_past marks k false (omega (arith, are.size)) ∙ sym none
]

-- the same marks are those of the keys
pub marks_of_keys : {T : Type 0} (key : T → ℕ) (limit : ℕ) (marks : List Bool) (xs : List T) → AreMarks key limit marks xs → AreMarks same limit marks (map key xs)
marks_of_keys key limit marks xs are = record { size = are.size; marked = λ k small. are.marked k small ∙ any_keys key k xs }
  where
    any_keys : {T : Type 0} (key : T → ℕ) (k : ℕ) (xs : List T) → list_any (λ x. key x == k) xs ≡ list_any (λ n. same n == k) (map key xs)
    any_keys key k [] = refl
    any_keys key k (x ∷ xs) = ap (λ (b : Bool). (key x == k) || b) (any_keys key k xs)

-- a value that is found has a key below the limit
pub found_small : {T : Type 0} (key : T → ℕ) (limit : ℕ) (xs : List T) (k : ℕ) → All (λ x. key x < limit) xs → is_some (find (λ x. key x == k) xs) ≡ true → k < limit
found_small key limit [] k small some = cc
found_small key limit (x ∷ xs) k small some =
    elim (cases_eq (key x) k) [
      | inl same ↦ let low : key x < limit = All-head (λ y. key y < limit) x xs small in omega arith
      | inr other ↦
          let there : (key x == k) ≡ false = grind (arith, nat_tests) in
          let later : is_some (find (λ y. key y == k) xs) ≡ true = ap (λ (b : Bool). is_some (cond b (Some x) (find (λ y. key y == k) xs))) (sym there) ∙ some in
          found_small key limit xs k (All-tail (λ y. key y < limit) x xs small) later
    ]
