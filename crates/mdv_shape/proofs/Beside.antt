-- Lists side by side, up to a place.
use Rattle.std.proofs.Common.{◌≡◌, ◌<◌, ◌≤◌, ◌+◌, ℕ, zero, suc, List, [], ◌∷◌, ◌++◌, length, get_or, take, min, refl, sym, ◌∙◌, ap, append_assoc, append-nil, add-one, arith}
use Rattle.mdv_shape.specs.Seats.{side_by_side}

side_more : {A B C : Type 0} (f : A → B → List C) (xs : List A) (ys : List B) (i : ℕ) (d : A) (e : B) → i < length xs → i < length ys → side_by_side f (take i xs) (take i ys) ++ f (get_or xs i d) (get_or ys i e) ≡ side_by_side f (take (suc i) xs) (take (suc i) ys)
side_more f [] ys i d e inside within = absurd (omega arith)
side_more f (x ∷ xs) [] i d e inside within = absurd (omega arith)
side_more f (x ∷ xs) (y ∷ ys) zero d e inside within = sym (append-nil (f x y))
side_more {C = C} f (x ∷ xs) (y ∷ ys) (suc i) d e inside within =
    append_assoc (f x y) (side_by_side f (take i xs) (take i ys)) (f (get_or xs i d) (get_or ys i e)) ∙ ap (λ (l : List C). f x y ++ l) (side_more f xs ys i d e (omega arith) (omega arith))

side_all : {A B C : Type 0} (f : A → B → List C) (xs : List A) (ys : List B) (i : ℕ) → min (length xs) (length ys) ≤ i → side_by_side f (take i xs) (take i ys) ≡ side_by_side f xs ys
side_all f [] ys i past = none i
  where
    none : (i : ℕ) → side_by_side f (take i []) (take i ys) ≡ []
    none zero = refl
    none (suc i) = refl
side_all f (x ∷ xs) [] zero past = refl
side_all f (x ∷ xs) [] (suc i) past = refl
side_all f (x ∷ xs) (y ∷ ys) zero past = absurd (omega arith)
side_all {C = C} f (x ∷ xs) (y ∷ ys) (suc i) past = ap (λ (l : List C). f x y ++ l) (side_all f xs ys i (omega arith))

-- with one pair more
side_last : {A B C : Type 0} (f : A → B → List C) (xs : List A) (ys : List B) (i : ℕ) (d : A) (e : B) → i < length xs → i < length ys → side_by_side f (take i xs) (take i ys) ++ f (get_or xs i d) (get_or ys i e) ≡ side_by_side f (take (i + 1) xs) (take (i + 1) ys)
side_last f xs ys i d e inside within = rw add-one (side_more f xs ys i d e inside within)

-- behind what was there
pub side_added : {A B C : Type 0} (f : A → B → List C) (before now next : List C) (xs : List A) (ys : List B) (i : ℕ) (d : A) (e : B) → i < length xs → i < length ys → now ≡ before ++ side_by_side f (take i xs) (take i ys) → next ≡ now ++ f (get_or xs i d) (get_or ys i e) → next ≡ before ++ side_by_side f (take (i + 1) xs) (take (i + 1) ys)
side_added {C = C} f before now next xs ys i d e inside within was more =
    more
    ∙ ap (λ (l : List C). l ++ f (get_or xs i d) (get_or ys i e)) was
    ∙ append_assoc before (side_by_side f (take i xs) (take i ys)) (f (get_or xs i d) (get_or ys i e))
    ∙ ap (λ (l : List C). before ++ l) (side_last f xs ys i d e inside within)

pub side_done : {A B C : Type 0} (f : A → B → List C) (before now : List C) (xs : List A) (ys : List B) (i : ℕ) → min (length xs) (length ys) ≤ i → now ≡ before ++ side_by_side f (take i xs) (take i ys) → now ≡ before ++ side_by_side f xs ys
side_done {C = C} f before now xs ys i past was = was ∙ ap (λ (l : List C). before ++ l) (side_all f xs ys i past)
