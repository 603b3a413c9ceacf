-- Values that come into a list, and what holds of each two of them.
use Rattle.std.proofs.Common.{◌≡◌, ◌<◌, ◌==◌, ℕ, Bool, true, false, cond, if◌then◌else◌, inl, inr, List, [], ◌∷◌, ◌++◌, length, get_or, find, flat_map, nat_lt, Contains, Some, refl, sym, ap, subst, ◌∙◌, arith}
use Rattle.std.specs.Prelude.{All, AllPairs}
use Rattle.std.proofs.lemmas.Bool.{cases_Bool}
use Rattle.std.proofs.lemmas.Bool.Decides.{nat_tests}
use Rattle.std.proofs.lemmas.List.{get_or-map, length-map}
use Rattle.std.proofs.lemmas.List.Elements.{All-append, All-contains, All-map, All-nil, All-tail, Contains-append_cases, Contains-append_left, Contains-append_right, Contains-get_or}
use Rattle.std.proofs.lemmas.Option.{none-some}
use Rattle.mdv_plan.proofs.Pairs.{AllPairs-cons, AllPairs-first, AllPairs-rest}
use Rattle.mdv_plan.specs.Sorted.{IsAscending, IsSorted, changed, with_item}

-- what holds of each value of each list holds of them all
pub flat_all : {X A : Type 0} (f : X → List A) (Q : X → Type 0) (P : A → Type 0) → ((x : X) → Q x → All P (f x)) → (xs : List X) → All Q xs → All P (flat_map f xs)
flat_all f Q P each [] all = All-nil P
flat_all f Q P each (x ∷ xs) all = All-append P (f x) (flat_map f xs) (each x (all 0 x (omega arith))) (flat_all f Q P each xs (All-tail Q x xs all))

module _ {A : Type 0} (R : A → A → Type 0) where
  pub pairs_join : (xs ys : List A) → AllPairs R xs → AllPairs R ys → ((a b : A) → Contains xs a → Contains ys b → R a b) → AllPairs R (xs ++ ys)
  pairs_join [] ys one other across = other
  pairs_join (x ∷ xs) ys one other across =
      let behind : All (R x) ys = λ k d within. across x (get_or ys k d) (0, omega arith, refl) (Contains-get_or ys k d within) in
      AllPairs-cons R x (xs ++ ys) (All-append (R x) xs ys (AllPairs-first R x xs one) behind)
      (pairs_join xs ys (AllPairs-rest R x xs one) other (λ a b in_xs in_ys. across a b (Contains-append_right (x ∷ []) xs a in_xs) in_ys))

  -- some values more, each of which stands so to all others
  pub pairs_put : (xs bs ys : List A) → AllPairs R (xs ++ ys) → AllPairs R bs → ((a b : A) → Contains (xs ++ ys) a → Contains bs b → R a b × R b a) → AllPairs R (xs ++ (bs ++ ys))
  pairs_put [] bs ys was new across = pairs_join bs ys new was (λ b a in_bs in_ys. (across a b in_ys in_bs).1)
  pairs_put (x ∷ xs) bs ys was new across =
      let first = AllPairs-first R x (xs ++ ys) was in
      let each : (a : A) → Contains (xs ++ (bs ++ ys)) a → R x a = λ a has. elim (Contains-append_cases xs (bs ++ ys) a has) [
        | inl at ↦ All-contains (R x) (xs ++ ys) a first (Contains-append_left xs ys a at)
        | inr at ↦ elim (Contains-append_cases bs ys a at) [
          | inl here ↦ (across x a (0, omega arith, refl) here).0
          | inr behind ↦ All-contains (R x) (xs ++ ys) a first (Contains-append_right xs ys a behind)
        ]
      ] in
      let all = xs ++ (bs ++ ys) in
      AllPairs-cons R x all (λ k d within. each (get_or all k d) (Contains-get_or all k d within))
      (pairs_put xs bs ys (AllPairs-rest R x (xs ++ ys) was) new (λ a b there here. across a b (Contains-append_right (x ∷ []) (xs ++ ys) a there) here))

-- a value comes in somewhere
pub record Put {X : Type 0} (x : X) (was now : List X) : Type 0 where
  pub front : List X
  pub behind : List X
  pub old : was ≡ front ++ behind
  pub new : now ≡ front ++ x ∷ behind

-- a value comes in the place of another
pub record Changed {X : Type 0} (x y : X) (was now : List X) : Type 0 where
  pub front : List X
  pub behind : List X
  pub old : was ≡ front ++ x ∷ behind
  pub new : now ≡ front ++ y ∷ behind

module _ {X : Type 0} (key : X → ℕ) (x : X) where
  pub item_put : (xs : List X) → Put x xs (with_item key x xs)
  item_put [] = record { front = []; behind = []; old = refl; new = refl }
  item_put (y ∷ ys) = by (item_put ys) (nat_lt (key x) (key y)) where
    by : Put x ys (with_item key x ys) → (less : Bool) → Put x (y ∷ ys) (if less then x ∷ y ∷ ys else y ∷ with_item key x ys)
    by rest true = record { front = []; behind = y ∷ ys; old = refl; new = refl }
    by rest false = record { front = y ∷ rest.front; behind = rest.behind; old = ap (λ (l : List X). y ∷ l) rest.old; new = ap (λ (l : List X). y ∷ l) rest.new }

  -- nothing has the key
  changed_none : (xs : List X) → All (λ y. key y ≡ key x → ⊥) xs → changed key x xs ≡ xs
  changed_none [] none = refl
  changed_none (y ∷ ys) none =
      let other : (key y == key x) ≡ false = (let never = none 0 y (omega arith) in grind (arith, nat_tests)) in
      rw other (ap (λ (l : List X). y ∷ l) (changed_none ys (All-tail (λ z. key z ≡ key x → ⊥) y ys none)))

  -- keys ascend, so only the value that is found is changed, where its key is that of the new one
  pub item_changed : (old : X) (k : ℕ) (xs : List X) → key x ≡ key old → IsAscending key xs → find (λ y. key y == k) xs ≡ Some old → (key old ≡ k) × Changed old x xs (changed key x xs)
  item_changed old k [] same rising found = absurd (none-some old found)
  item_changed old k (y ∷ ys) same rising found = by (λ rest. item_changed old k ys same (AllPairs-rest (λ a b. key a < key b) y ys rising) rest) (key y == k) refl found where
    above : All (λ z. key y < key z) ys
    above = AllPairs-first (λ a b. key a < key b) y ys rising

    by : (find (λ z. key z == k) ys ≡ Some old → (key old ≡ k) × Changed old x ys (changed key x ys)) → (is : Bool) → (key y == k) ≡ is → cond is (Some y) (find (λ z. key z == k) ys) ≡ Some old → (key old ≡ k) × Changed old x (y ∷ ys) (changed key x (y ∷ ys))
    by later true is here =
        let one : y ≡ old = cc here in
        let at : key y ≡ k = grind (arith, nat_tests) in
        let also : key x ≡ key y = same ∙ ap key (sym one) in
        let test : (key y == key x) ≡ true = grind (arith, nat_tests) in
        let differ : All (λ z. key z ≡ key x → ⊥) ys = λ i d within equal. omega (arith, above i d within, equal, also) in (
          ap key (sym one) ∙ at,
          record { front = []; behind = ys; old = ap (λ (z : X). z ∷ ys) one; new = rw test (ap (λ (l : List X). x ∷ l) (changed_none ys differ)) },
        )
    by later false is behind =
        let rest = later behind in
        let other : (key y == key x) ≡ false = (let at = rest.0 in grind (arith, nat_tests)) in (
          rest.0,
          record {
            front = y ∷ rest.1.front;
            behind = rest.1.behind;
            old = ap (λ (l : List X). y ∷ l) rest.1.old;
            new = rw other (ap (λ (l : List X). y ∷ l) rest.1.new);
          },
        )

  -- no key changes
  same_key : (y : X) → key (if key y == key x then x else y) ≡ key y
  same_key y = elim (cases_Bool (key y == key x)) [
    | inl is ↦ let same : key x ≡ key y = grind (arith, nat_tests) in ap (λ (b : Bool). key (if b then x else y)) is ∙ same
    | inr isnt ↦ ap (λ (b : Bool). key (if b then x else y)) isnt
  ]

  key_at : (xs : List X) (k : ℕ) (d : X) → k < length xs → key (get_or (changed key x xs) k d) ≡ key (get_or xs k d)
  key_at xs k d within = ap key (get_or-map (λ y. if key y == key x then x else y) xs k d d within) ∙ same_key (get_or xs k d)

  pub changed_sorted : (limit : ℕ) (xs : List X) → IsSorted key limit xs → IsSorted key limit (changed key x xs)
  changed_sorted limit xs is =
      let long = length-map xs (λ y. if key y == key x then x else y) in
      record {
        ascending = λ i j d below within. omega (arith, key_at xs i d (omega arith), key_at xs j d (omega arith), is.ascending i j d below (omega arith));
        keys = λ k d within. omega (arith, key_at xs k d (omega arith), is.keys k d (omega arith));
      }

  pub changed_all : (P : X → Type 0) → P x → (xs : List X) → All P xs → All P (changed key x xs)
  changed_all P holds xs all = All-map P (λ y. if key y == key x then x else y) xs (λ k d within. by (get_or xs k d) (key (get_or xs k d) == key x) (all k d within)) where
    by : (y : X) (same : Bool) → P y → P (if same then x else y)
    by y true is = holds
    by y false is = is

  pub put_all : (P : X → Type 0) → P x → (was now : List X) → Put x was now → All P was → All P now
  put_all P holds was now put all =
      let parts : All P (put.front ++ put.behind) = subst (All P) put.old all in
      let front : All P put.front = λ k d within. All-contains P (put.front ++ put.behind) (get_or put.front k d) parts (Contains-append_left put.front put.behind (get_or put.front k d) (Contains-get_or put.front k d within)) in
      let behind : All P put.behind = λ k d within. All-contains P (put.front ++ put.behind) (get_or put.behind k d) parts (Contains-append_right put.front put.behind (get_or put.behind k d) (Contains-get_or put.behind k d within)) in
      subst (All P) (sym put.new) (All-append P put.front (x ∷ put.behind) front (All-append P (x ∷ []) put.behind (λ k d within. only k d within) behind))
    where
      only : (k : ℕ) (d : X) → k < length (x ∷ []) → P (get_or (x ∷ []) k d)
      only k d within = let first : k ≡ 0 = omega arith in subst (λ (n : ℕ). P (get_or (x ∷ []) n d)) (sym first) holds
