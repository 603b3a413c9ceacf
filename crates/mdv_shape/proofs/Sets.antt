-- Numbers that are put into a set one after another.
use Rattle.std.proofs.Common.{◌≡◌, ◌<◌, ◌+◌, ℕ, true, false, nat_eq, List, [], length, get_or, take, sym, ◌∙◌, subst, arith}
use Rattle.std.proofs.lemmas.Bool.Decides.{nat_tests}
use Rattle.std.proofs.lemmas.List.{get_or-take, get_or_default, length-take, take_more}
use Rattle.std.proofs.lemmas.List.Folds.{Any-from_list_any}
use Rattle.std.proofs.lemmas.Map.Keys.{IsDistinct-push, apart_from_distinct}
use Rattle.std.specs.Cmp.{nat_eq_equiv}
use Rattle.std.specs.List.{IsDistinct, list_any}

pub none_twice : IsDistinct nat_eq []
unfolding IsDistinct
none_twice = tt

-- a number that is there already stands twice
pub stands_twice : (xs : List ℕ) (i d : ℕ) → i < length xs → list_any (nat_eq (get_or xs i d)) (take i xs) ≡ true → IsDistinct nat_eq xs → ⊥
stands_twice xs i d within there distinct =
    let found = Any-from_list_any (nat_eq (get_or xs i d)) (take i xs) there in
    let k = found.0 in
    let few = length-take i xs in
    let before : k < i = omega (arith, found.2, few) in
    let inside : k < length xs = omega arith in
    let same : get_or (take i xs) k found.1 ≡ get_or xs k found.1 = get_or-take i xs k found.1 before in
    let equal : get_or xs i d ≡ found.1 = grind (arith, nat_tests, found.4) in
    let one : get_or xs k d ≡ get_or xs i d = get_or_default xs k d found.1 inside ∙ sym same ∙ found.3 ∙ sym equal in
    let apart = apart_from_distinct nat_eq xs k i d distinct before within in
    grind (arith, nat_tests)

pub once_more : (xs : List ℕ) (i d : ℕ) → i < length xs → list_any (nat_eq (get_or xs i d)) (take i xs) ≡ false → IsDistinct nat_eq (take i xs) → IsDistinct nat_eq (take (i + 1) xs)
once_more xs i d within new distinct = subst (IsDistinct nat_eq) (sym (take_more xs i d within)) (IsDistinct-push nat_eq_equiv (take i xs) (get_or xs i d) distinct new)
