-- A queue from which the least number is taken.
use Rattle.std.proofs.Common.{◌≡◌, ◌<◌, ◌≤◌, ◌+◌, ℕ, false, List, [], ◌∷◌, ◌++◌, map, length, take, get_or, sym, ◌∙◌, ap, subst, append_assoc, IsPermutation, arith}
use Rattle.std.specs.Prelude.{All}
use Rattle.std.specs.Ordering.{nat_cmp, is_lt}
use Rattle.std.specs.BinaryHeap.{IsUpperBound}
use Rattle.std.proofs.lemmas.Bool.Decides.{nat_tests}
use Rattle.std.proofs.lemmas.List.{take_more}
use Rattle.std.proofs.lemmas.List.Elements.{All-nil, All-cons}
use Rattle.std.proofs.lemmas.List.Sorted.{IsPermutation-push_more}

le_from_not_lt : (m n : ℕ) → is_lt (nat_cmp n m) ≡ false → m ≤ n
le_from_not_lt m n h = grind (arith, nat_tests)

pub least_of : {X : Type 0} (f : X → ℕ) (x : X) (ys : List X) → IsUpperBound (λ (a b : X). nat_cmp (f b) (f a)) x ys → All (λ n. f x ≤ n) (map f ys)
least_of f x [] h = All-nil (λ n. f x ≤ n)
least_of f x (y ∷ ys) h = All-cons (λ n. f x ≤ n) (f y) (map f ys) (le_from_not_lt (f x) (f y) h.0) (least_of f x ys h.1)

-- a loop that pushes the numbers of a list
pub pushed_more :
    (old more new next : List ℕ) (k : ℕ) → k < length more → IsPermutation (old ++ take k more) new → IsPermutation (get_or more k 0 ∷ new) next → IsPermutation (old ++ take (k + 1) more) next
pushed_more old more new next k within far push =
    let all : IsPermutation ((old ++ take k more) ++ get_or more k 0 ∷ []) next = IsPermutation-push_more _ _ _ _ far push in
    let F : List ℕ → Type 0 = λ l. IsPermutation l next in
    subst F (append_assoc old (take k more) (get_or more k 0 ∷ []) ∙ ap (λ (l : List ℕ). old ++ l) (sym (take_more more k 0 within))) all
