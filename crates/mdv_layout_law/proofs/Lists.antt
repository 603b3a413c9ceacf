-- Values of lists of lists, and those that a search finds.
use Rattle.std.proofs.Common.{◌≡◌, ℕ, zero, suc, ◌+◌, ◌<◌, ◌==◌, Bool, true, false, cond, if◌then◌else◌, nat_lt, List, [], ◌∷◌, ◌++◌, length, get_or, find, flat_map, Contains, Option, None, Some, refl, sym, ◌∙◌, ap, subst, arith}
use Rattle.std.specs.Prelude.{All, AllPairs}
use Rattle.std.proofs.lemmas.Bool.Decides.{nat_tests}
use Rattle.std.proofs.lemmas.List.{get_or-append-add, get_or_append_left, get_or_default, length-append}
use Rattle.std.proofs.lemmas.List.Concat.{flat_map-cons}
use Rattle.std.proofs.lemmas.List.Elements.{All-cons, All-head, All-nil, All-tail, Contains-append_left, Contains-append_right}
use Rattle.std.proofs.lemmas.Option.{none-some}
use Rattle.mdv_plan.specs.Sorted.{changed, with_item}

-- what stands in one of the lists stands in all of them together
pub in_flat : {X A : Type 0} (f : X → List A) (xs : List X) (i : ℕ) (d : X) (a : A) → i < length xs → Contains (f (get_or xs i d)) a → Contains (flat_map f xs) a
in_flat f [] i d a lt has = absurd (omega arith)
in_flat {A = A} f (x ∷ xs) zero d a lt has = subst (λ (l : List A). Contains l a) (sym (flat_map-cons f x xs)) (Contains-append_left (f x) (flat_map f xs) a has)
in_flat {A = A} f (x ∷ xs) (suc i) d a lt has =
    subst (λ (l : List A). Contains l a) (sym (flat_map-cons f x xs)) (Contains-append_right (f x) (flat_map f xs) a (in_flat f xs i d a (omega arith) has))

module _ {A : Type 0} (R : A → A → Type 0) where
  alike : {a b c d : A} → a ≡ c → b ≡ d → R a b → R c d
  alike {a} {b} {c} {d} one other both = subst (λ (y : A). R c y) other (subst (λ (x : A). R x b) one both)

  pairs_left : (xs ys : List A) → AllPairs R (xs ++ ys) → AllPairs R xs
  pairs_left xs ys pairs i j d lt within =
      let both = pairs i j d lt (omega (arith, length-append xs ys)) in
      alike (get_or_append_left xs ys d i (omega arith)) (get_or_append_left xs ys d j within) both

  pairs_right : (xs ys : List A) → AllPairs R (xs ++ ys) → AllPairs R ys
  pairs_right xs ys pairs i j d lt within =
      let both = pairs (length xs + i) (length xs + j) d (omega arith) (omega (arith, length-append xs ys)) in
      alike (get_or-append-add xs ys i d) (get_or-append-add xs ys j d) both

  pairs_across : (xs ys : List A) (a b : A) → AllPairs R (xs ++ ys) → Contains xs a → Contains ys b → R a b
  pairs_across xs ys a b pairs one other =
      let both = pairs one.0 (length xs + other.0) a (omega (arith, one.1)) (omega (arith, other.1, length-append xs ys)) in
      let first = get_or_append_left xs ys a one.0 one.1 ∙ one.2 in
      let second = get_or-append-add xs ys other.0 a ∙ get_or_default ys other.0 a b other.1 ∙ other.2 in
      alike first second both

  module _ {X : Type 0} (f : X → List A) where
    -- two of one list
    pub pairs_within : (xs : List X) (i : ℕ) (d : X) → AllPairs R (flat_map f xs) → i < length xs → AllPairs R (f (get_or xs i d))
    pairs_within [] i d pairs lt = absurd (omega arith)
    pairs_within (x ∷ xs) zero d pairs lt = pairs_left (f x) (flat_map f xs) (subst (AllPairs R) (flat_map-cons f x xs) pairs)
    pairs_within (x ∷ xs) (suc i) d pairs lt = pairs_within xs i d (pairs_right (f x) (flat_map f xs) (subst (AllPairs R) (flat_map-cons f x xs) pairs)) (omega arith)

    -- one of a list, and one of a list behind it
    pub pairs_between : (xs : List X) (i j : ℕ) (d : X) (a b : A) → AllPairs R (flat_map f xs) → i < j → j < length xs → Contains (f (get_or xs i d)) a → Contains (f (get_or xs j d)) b → R a b
    pairs_between [] i j d a b pairs lt within one other = absurd (omega arith)
    pairs_between (x ∷ xs) i zero d a b pairs lt within one other = absurd (omega arith)
    pairs_between (x ∷ xs) zero (suc j) d a b pairs lt within one other =
        pairs_across (f x) (flat_map f xs) a b (subst (AllPairs R) (flat_map-cons f x xs) pairs) one (in_flat f xs j d b (omega arith) other)
    pairs_between (x ∷ xs) (suc i) (suc j) d a b pairs lt within one other =
        pairs_between xs i j d a b (pairs_right (f x) (flat_map f xs) (subst (AllPairs R) (flat_map-cons f x xs) pairs)) (omega arith) (omega arith) one other

-- what a search finds stands somewhere and passes the test
pub record Found {X : Type 0} (p : X → Bool) (xs : List X) (x : X) : Type 0 where
  pub at : ℕ
  pub within : at < length xs
  pub is : get_or xs at x ≡ x
  pub passes : p x ≡ true

pub find_found : {X : Type 0} (p : X → Bool) (xs : List X) (x : X) → find p xs ≡ Some x → Found p xs x
find_found p [] x found = absurd (none-some x found)
find_found {X} p (y ∷ xs) x found = by (λ behind. find_found p xs x behind) (p y) refl found where
  by : (find p xs ≡ Some x → Found p xs x) → (b : Bool) → p y ≡ b → cond b (Some y) (find p xs) ≡ Some x → Found p (y ∷ xs) x
  by later true is here = let same : y ≡ x = cc here in record { at = 0; within = omega arith; is = same; passes = ap p (sym same) ∙ is }
  by later false is behind = let rest = later behind in record { at = suc rest.at; within = omega (arith, rest.within); is = rest.is; passes = rest.passes }

module _ {X : Type 0} (key : X → ℕ) (x : X) where
  -- one item more: it is found where none of its key was, and others where they were
  pub with_new : (xs : List X) → find (λ y. key y == key x) xs ≡ None → find (λ y. key y == key x) (with_item key x xs) ≡ Some x
  with_new [] none = let is : (key x == key x) ≡ true = grind (arith, nat_tests) in rw is refl
  with_new (y ∷ ys) none = by (λ rest. with_new ys rest) (nat_lt (key x) (key y)) (key y == key x) refl none where
    by : (find (λ z. key z == key x) ys ≡ None → find (λ z. key z == key x) (with_item key x ys) ≡ Some x) → (less same : Bool) → (key y == key x) ≡ same → cond same (Some y) (find (λ z. key z == key x) ys) ≡ None → find (λ z. key z == key x) (if less then x ∷ y ∷ ys else y ∷ with_item key x ys) ≡ Some x
    by later true same is none = let here : (key x == key x) ≡ true = grind (arith, nat_tests) in rw here refl
    by later false true is none = absurd (none-some y (sym none))
    by later false false is none = rw is (later none)

  pub with_others : (xs : List X) (k : ℕ) → (key x == k) ≡ false → find (λ y. key y == k) (with_item key x xs) ≡ find (λ y. key y == k) xs
  with_others [] k other = rw other refl
  with_others (y ∷ ys) k other = by (with_others ys k other) (nat_lt (key x) (key y)) where
    by : find (λ z. key z == k) (with_item key x ys) ≡ find (λ z. key z == k) ys → (less : Bool) → find (λ z. key z == k) (if less then x ∷ y ∷ ys else y ∷ with_item key x ys) ≡ find (λ z. key z == k) (y ∷ ys)
    by later true = rw other refl
    by later false = ap (λ (o : Option X). cond (key y == k) (Some y) o) later

  -- one item in the place of that of its key: it is found where that was, and others where they were
  pub changed_found : (xs : List X) (old : X) → find (λ y. key y == key x) xs ≡ Some old → find (λ y. key y == key x) (changed key x xs) ≡ Some x
  changed_found [] old found = absurd (none-some old found)
  changed_found (y ∷ ys) old found = by (λ rest. changed_found ys old rest) (key y == key x) refl found where
    by : (find (λ z. key z == key x) ys ≡ Some old → find (λ z. key z == key x) (changed key x ys) ≡ Some x) → (same : Bool) → (key y == key x) ≡ same → cond same (Some y) (find (λ z. key z == key x) ys) ≡ Some old → find (λ z. key z == key x) ((if same then x else y) ∷ changed key x ys) ≡ Some x
    by later true is found = let here : (key x == key x) ≡ true = grind (arith, nat_tests) in rw here refl
    by later false is found = rw is (later found)

  pub changed_others : (xs : List X) (k : ℕ) → (key x == k) ≡ false → find (λ y. key y == k) (changed key x xs) ≡ find (λ y. key y == k) xs
  changed_others [] k other = refl
  changed_others (y ∷ ys) k other = by (changed_others ys k other) (key y == key x) refl where
    by : find (λ z. key z == k) (changed key x ys) ≡ find (λ z. key z == k) ys → (same : Bool) → (key y == key x) ≡ same → find (λ z. key z == k) ((if same then x else y) ∷ changed key x ys) ≡ find (λ z. key z == k) (y ∷ ys)
    by later true is =
        let not : (key y == k) ≡ false = grind (arith, nat_tests) in
        rw (other, not) later
    by later false is = ap (λ (o : Option X). cond (key y == k) (Some y) o) later

  module _ (P : X → Type 0) (holds : P x) where
    pub All-with_item : (xs : List X) → All P xs → All P (with_item key x xs)
    All-with_item [] all = All-cons P x [] holds (All-nil P)
    All-with_item (y ∷ ys) all = by (All-with_item ys (All-tail P y ys all)) (nat_lt (key x) (key y)) where
      by : All P (with_item key x ys) → (less : Bool) → All P (if less then x ∷ y ∷ ys else y ∷ with_item key x ys)
      by later true = All-cons P x (y ∷ ys) holds all
      by later false = All-cons P y (with_item key x ys) (All-head P y ys all) later

    pub All-changed : (xs : List X) → All P xs → All P (changed key x xs)
    All-changed [] all = All-nil P
    All-changed (y ∷ ys) all = All-cons P (if key y == key x then x else y) (changed key x ys) (by (key y == key x)) (All-changed ys (All-tail P y ys all)) where
      by : (same : Bool) → P (if same then x else y)
      by true = holds
      by false = All-head P y ys all
