-- Lists whose items are gone over in order.
use Rattle.std.proofs.Common.{◌≡◌, inl, inr, Result, Ok, Err, IsErrAnd, ℕ, zero, suc, ◌+◌, ◌<◌, ◌≤◌, Bool, true, false, List, [], ◌∷◌, ◌++◌, length, take, drop, map, slice_index_or, slice_set, Contains, Option, None, Some, refl, sym, ◌∙◌, ap, subst, cond, filter, is_some, arith}
use Rattle.std.specs.Prelude.{All, AllPairs, count_by, slice_get}
use Rattle.std.specs.List.{filter_map, cons_option}
use Rattle.std.proofs.lemmas.List.Elements.{All-cons, All-contains, All-contains_itself, All-head, All-nil, All-tail}
use Rattle.std.proofs.lemmas.List.Sums.{sum_by-append}
use Rattle.mdv_store_law.specs.Part.{IsPart}
use Rattle.mdv_config.proofs.Pairs.{AllPairs-cons, AllPairs-first, AllPairs-rest}

-- the first i items are as f makes them, and the others as they were
module _ {X : Type 0} (f : X → X) where
  pub changed_at : (xs : List X) (i : ℕ) (d : X) → i < length xs → slice_index_or (map f (take i xs) ++ drop i xs) i d ≡ slice_index_or xs i d
  changed_at [] i d within = absurd (omega arith)
  changed_at (x ∷ xs) zero d within = refl
  changed_at (x ∷ xs) (suc i) d within = changed_at xs i d (omega arith)

  changed_next : (xs : List X) (i : ℕ) (d : X) → i < length xs → slice_set (map f (take i xs) ++ drop i xs) i (f (slice_index_or xs i d)) ≡ map f (take (suc i) xs) ++ drop (suc i) xs
  changed_next [] i d within = absurd (omega arith)
  changed_next (x ∷ xs) zero d within = refl
  changed_next (x ∷ xs) (suc i) d within = ap (λ (ys : List X). f x ∷ ys) (changed_next xs i d (omega arith))

  pub changed_one : (xs : List X) (i : ℕ) (d : X) → i < length xs → slice_set (map f (take i xs) ++ drop i xs) i (f (slice_index_or xs i d)) ≡ map f (take (i + 1) xs) ++ drop (i + 1) xs
  changed_one xs i d within = let next : suc i ≡ i + 1 = omega arith in changed_next xs i d within ∙ ap (λ (n : ℕ). map f (take n xs) ++ drop n xs) next

-- the item behind a front
pub at_front : {X : Type 0} (front back : List X) (x : X) → slice_get (front ++ x ∷ back) (length front) ≡ Some x
at_front [] back x = refl
at_front (y ∷ front) back x = at_front front back x

pub set_front : {X : Type 0} (front back : List X) (x y : X) → slice_set (front ++ x ∷ back) (length front) y ≡ front ++ y ∷ back
set_front [] back x y = refl
set_front (z ∷ front) back x y = ap (λ l. z ∷ l) (set_front front back x y)

count_cons : {X : Type 0} (p : X → Bool) (x : X) (xs : List X) → count_by p (x ∷ xs) ≡ cond (p x) 1 0 + count_by p xs
count_cons p x xs = sum_by-append (λ y. cond (p y) 1 0) (x ∷ []) xs ∙ omega arith

-- how many there are of what is found
found_more : {Y : Type 0} (o : Option Y) (ys : List Y) → cond (is_some o) 1 0 + length ys ≡ length (cons_option o ys)
found_more None ys = omega arith
found_more (Some y) ys = omega arith

pub count_found : {X Y : Type 0} (f : X → Option Y) (xs : List X) → count_by (λ (x : X). is_some (f x)) xs ≡ length (filter_map f xs)
count_found f [] = refl
count_found {X = X} f (x ∷ xs) = count_cons (λ (y : X). is_some (f y)) x xs ∙ ap (λ (n : ℕ). cond (is_some (f x)) 1 0 + n) (count_found f xs) ∙ found_more (f x) (filter_map f xs)

-- Parts of lists.
part_behind : {X : Type 0} (x : X) (ys xs : List X) → IsPart ys xs → IsPart ys (x ∷ xs)
part_behind x [] xs is = tt
part_behind x (y ∷ ys) xs is = inr is

part_kept : {X : Type 0} (b : Bool) (x : X) (ys xs : List X) → IsPart ys xs → IsPart (cond b (x ∷ ys) ys) (x ∷ xs)
part_kept true x ys xs is = inl (refl, is)
part_kept false x ys xs is = part_behind x ys xs is

pub part_filter : {X : Type 0} (p : X → Bool) (xs : List X) → IsPart (filter p xs) xs
part_filter p [] = tt
part_filter p (x ∷ xs) = part_kept (p x) x (filter p xs) xs (part_filter p xs)

pub part_all : {X : Type 0} (P : X → Type 0) (xs ys : List X) → IsPart xs ys → All P ys → All P xs
part_all P [] ys is all = All-nil P
part_all P (x ∷ xs) [] is all = absurd is
part_all P (x ∷ xs) (y ∷ ys) (inl is) all = All-cons P x xs (subst P (sym is.0) (All-head P y ys all)) (part_all P xs ys is.1 (All-tail P y ys all))
part_all P (x ∷ xs) (y ∷ ys) (inr is) all = part_all P (x ∷ xs) ys is (All-tail P y ys all)

pub part_length : {X : Type 0} (xs ys : List X) → IsPart xs ys → length xs ≤ length ys
part_length [] ys is = omega arith
part_length (x ∷ xs) [] is = absurd is
part_length (x ∷ xs) (y ∷ ys) (inl is) = (let below = part_length xs ys is.1 in omega (arith, below))
part_length (x ∷ xs) (y ∷ ys) (inr is) = (let below = part_length (x ∷ xs) ys is in omega (arith, below))

-- what is in a part is in the whole
pub part_has : {X : Type 0} (xs ys : List X) (x : X) → IsPart xs ys → Contains xs x → Contains ys x
part_has xs ys x is has = All-contains (Contains ys) xs x (part_all (Contains ys) xs ys is (All-contains_itself ys)) has

pub part_pairs : {X : Type 0} (R : X → X → Type 0) (xs ys : List X) → IsPart xs ys → AllPairs R ys → AllPairs R xs
part_pairs R [] ys is pairs = λ i j d below within. absurd (omega (arith, within))
part_pairs R (x ∷ xs) [] is pairs = absurd is
part_pairs R (x ∷ xs) (y ∷ ys) (inl is) pairs =
    AllPairs-cons R x xs (subst (λ z. All (R z) xs) (sym is.0) (part_all (R y) xs ys is.1 (AllPairs-first R y ys pairs))) (part_pairs R xs ys is.1 (AllPairs-rest R y ys pairs))
part_pairs R (x ∷ xs) (y ∷ ys) (inr is) pairs = part_pairs R (x ∷ xs) ys is (AllPairs-rest R y ys pairs)

-- an answer that is this fault
pub err_is : {T E : Type 0} (result : Result T E) (fault : E) → IsErrAnd result (λ e. e ≡ fault) → result ≡ Err fault
err_is (Ok done) fault is = absurd is
err_is (Err e) fault is = ap Err is

found_fewer_one : {Y : Type 0} (o : Option Y) (ys : List Y) (n : ℕ) → length ys ≤ n → length (cons_option o ys) ≤ n + 1
found_fewer_one None ys n below = omega (arith, below)
found_fewer_one (Some y) ys n below = omega (arith, below)

pub found_fewer : {X Y : Type 0} (f : X → Option Y) (xs : List X) → length (filter_map f xs) ≤ length xs
found_fewer f [] = omega arith
found_fewer f (x ∷ xs) = (let below = found_fewer_one (f x) (filter_map f xs) (length xs) (found_fewer f xs) in omega (arith, below))
