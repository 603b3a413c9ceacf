-- The test whether extents lie apart, and what it says.
use Rattle.std.proofs.Common.{◌≡◌, ◌<◌, ◌&&◌, ◌↔◌, inl, inr, ℕ, Bool, true, false, leb, max, List, [], ◌∷◌, refl, sym, ◌∙◌, arith, IsTrue}
use Rattle.std.proofs.lemmas.List.Elements.{All-cons, All-tail, All-nil}
use Rattle.std.proofs.lemmas.Bool.{or_parts, or_from, or_cases, and_parts, and_from, leb-true, leb-false, le-leb, false≢true, false_from_ne_true, true_from_ne_false}
use Rattle.mdv_extent.specs.declared.run.Run.{Run}
use Rattle.mdv_extent.specs.Runs.{end_of, has, takes, with_header}
use Rattle.mdv_extent.specs.Extents.{IsExtent, LieApart, is_extent, is_clear_of, is_clear_of_all, lie_apart}
use Rattle.mdv_extent.proofs.Spreading.{has_between, has_parts}

extent_from : (blocks : ℕ) (r : Run) → is_extent blocks r ≡ true → IsExtent blocks r
extent_from blocks r is =
    let one = and_parts (leb 1 r.at) (leb 1 r.blocks && leb (end_of r) blocks) is in
    let two = and_parts (leb 1 r.blocks) (leb (end_of r) blocks) one.1 in
    record { header = leb-true 1 r.at one.0; whole = leb-true 1 r.blocks two.0; within = leb-true (end_of r) blocks two.1 }

extent_is : (blocks : ℕ) (r : Run) → IsExtent blocks r → is_extent blocks r ≡ true
extent_is blocks r is = and_from (leb 1 r.at) (leb 1 r.blocks && leb (end_of r) blocks) (le-leb 1 r.at is.header) (and_from (leb 1 r.blocks) (leb (end_of r) blocks) (le-leb 1 r.blocks is.whole) (le-leb (end_of r) blocks is.within))

clear_none : (r s : Run) (k : ℕ) → is_clear_of r s ≡ true → has r k ≡ true → has s k ≡ false
clear_none r s k clear is = false_from_ne_true (has s k) (λ too.
    let one = has_parts r k is in
    let two = has_parts s k too in
    elim (or_cases (leb (end_of r) s.at) (leb (end_of s) r.at) clear) [
      | inl before ↦ let le = leb-true (end_of r) s.at before in absurd (omega arith)
      | inr behind ↦ let le = leb-true (end_of s) r.at behind in absurd (omega arith)
    ])

-- runs with a block each that aren't clear of each other have one in common
none_clear : (r s : Run) → 0 < r.blocks → 0 < s.blocks → ((k : ℕ) → has r k ≡ true → has s k ≡ false) → is_clear_of r s ≡ true
none_clear r s some some_too none = true_from_ne_false (is_clear_of r s) (λ not_clear.
    let parts = or_parts (leb (end_of r) s.at) (leb (end_of s) r.at) not_clear in
    let one = leb-false (end_of r) s.at parts.0 in
    let two = leb-false (end_of s) r.at parts.1 in
    let k : ℕ = max r.at s.at in
    false≢true (sym (none k (has_between r k (omega arith) (omega arith))) ∙ has_between s k (omega arith) (omega arith)))

all_clear_none : (r : Run) (runs : List Run) (k : ℕ) → is_clear_of_all r runs ≡ true → has (with_header r) k ≡ true → takes runs k ≡ false
all_clear_none r [] k clear is = refl
all_clear_none r (s ∷ runs) k clear is =
    let parts = and_parts (is_clear_of (with_header r) (with_header s)) (is_clear_of_all r runs) clear in
    or_from (has (with_header s) k) (takes runs k) (clear_none (with_header r) (with_header s) k parts.0 is) (all_clear_none r runs k parts.1 is)

none_all_clear : (r : Run) (runs : List Run) → ((k : ℕ) → has (with_header r) k ≡ true → takes runs k ≡ false) → is_clear_of_all r runs ≡ true
none_all_clear r [] none = refl
none_all_clear r (s ∷ runs) none =
    let parts = λ (k : ℕ) (is : has (with_header r) k ≡ true). or_parts (has (with_header s) k) (takes runs k) (none k is) in
    and_from (is_clear_of (with_header r) (with_header s)) (is_clear_of_all r runs) (none_clear (with_header r) (with_header s) (omega arith) (omega arith) (λ k is. (parts k is).0)) (none_all_clear r runs (λ k is. (parts k is).1))

pub apart_from_test : (blocks : ℕ) (runs : List Run) → lie_apart blocks runs ≡ true → LieApart blocks runs
unfolding lie_apart
apart_from_test blocks [] is = record { lie = All-nil (IsExtent blocks); apart = tt }
apart_from_test blocks (r ∷ runs) is =
    let one = and_parts (is_extent blocks r) (is_clear_of_all r runs && lie_apart blocks runs) is in
    let two = and_parts (is_clear_of_all r runs) (lie_apart blocks runs) one.1 in
    let rest = apart_from_test blocks runs two.1 in
    record { lie = All-cons (IsExtent blocks) r runs (extent_from blocks r one.0) rest.lie; apart = (λ k here. all_clear_none r runs k two.0 here, rest.apart) }

pub test_from_apart : (blocks : ℕ) (runs : List Run) → LieApart blocks runs → lie_apart blocks runs ≡ true
unfolding lie_apart
test_from_apart blocks [] lie = refl
test_from_apart blocks (r ∷ runs) lie =
    and_from (is_extent blocks r) (is_clear_of_all r runs && lie_apart blocks runs) (extent_is blocks r (lie.lie 0 r (omega arith)))
    (and_from (is_clear_of_all r runs) (lie_apart blocks runs) (none_all_clear r runs lie.apart.0) (test_from_apart blocks runs (record { lie = All-tail (IsExtent blocks) r runs lie.lie; apart = lie.apart.1 })))

pub same_as_test : (blocks : ℕ) (b : Bool) (runs : List Run) → IsTrue b ↔ LieApart blocks runs → b ≡ lie_apart blocks runs
same_as_test blocks true runs is = sym (test_from_apart blocks runs (is.0 refl))
same_as_test blocks false runs is = sym (false_from_ne_true (lie_apart blocks runs) (λ on. false≢true (is.1 (apart_from_test blocks runs on))))
