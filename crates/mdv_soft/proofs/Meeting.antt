-- Extents two of which have a block in common.
use Rattle.std.proofs.Common.{◌≡◌, inl, inr, ◌↔◌, ℕ, ◌+◌, ◌-◌, ◌&&◌, ◌||◌, ◌<◌, Bool, true, false, nat_le, nat_lt, max, List, [], ◌∷◌, length, refl, sym, ◌∙◌, arith, All, IsTrue}
use Rattle.std.specs.List.{list_any}
use Rattle.std.proofs.lemmas.Bool.{cases_Bool, or_parts, or_from, false≢true}
use Rattle.std.proofs.lemmas.Bool.Decides.{nat_tests}
use Rattle.std.proofs.lemmas.List.Elements.{All-tail}
use Rattle.mdv_soft.specs.Below.{IsApart, Run, has, takes, with_header}
use Rattle.mdv_soft.specs.Softs.{meet}

abbrev pub do_meet : List Run → Bool
do_meet [] = false
do_meet (r ∷ extents) = list_any (λ (s : Run). meet r s) extents || do_meet extents

apart_from_test : (a m b n k : ℕ) → 0 < a → 0 < b → (nat_le a (b + n) && nat_le b (a + m)) ≡ false → (nat_le (a - 1) k && nat_lt k (a - 1 + (m + 1))) ≡ true → (nat_le (b - 1) k && nat_lt k (b - 1 + (n + 1))) ≡ false
apart_from_test a m b n k one two apart here = grind (arith, nat_tests)

first_shared : (a m b n : ℕ) → 0 < a → 0 < b → (nat_le a (b + n) && nat_le b (a + m)) ≡ true → (nat_le (a - 1) (max a b - 1) && nat_lt (max a b - 1) (a - 1 + (m + 1))) ≡ true
first_shared a m b n one two shared = grind (arith, nat_tests)

second_shared : (a m b n : ℕ) → 0 < a → 0 < b → (nat_le a (b + n) && nat_le b (a + m)) ≡ true → (nat_le (b - 1) (max a b - 1) && nat_lt (max a b - 1) (b - 1 + (n + 1))) ≡ true
second_shared a m b n one two shared = grind (arith, nat_tests)

abbrev HasHeader : Run → Type 0
HasHeader r = 0 < r.at

meets_none : (r : Run) (extents : List Run) → 0 < r.at → All HasHeader extents → list_any (λ (s : Run). meet r s) extents ≡ false → (k : ℕ) → has (with_header r) k ≡ true → takes extents k ≡ false
meets_none r [] some all none k here = refl
meets_none r (s ∷ extents) some all none k here =
    let parts = or_parts (meet r s) (list_any (λ (s : Run). meet r s) extents) none in
    let first = apart_from_test r.at r.blocks s.at s.blocks k some (all 0 s (omega arith)) parts.0 here in
    or_from (has (with_header s) k) (takes extents k) first (meets_none r extents some (All-tail HasHeader s extents all) parts.1 k here)

pub in_front : (a b : Bool) → a ≡ true → (a || b) ≡ true
in_front a b is = rw is refl

pub behind : (a b : Bool) → b ≡ true → (a || b) ≡ true
behind true b is = refl
behind false b is = is

meets_some : (r : Run) (extents : List Run) → 0 < r.at → All HasHeader extents → list_any (λ (s : Run). meet r s) extents ≡ true → (k : ℕ) × (has (with_header r) k ≡ true) × (takes extents k ≡ true)
meets_some r [] some all is = absurd (false≢true is)
meets_some r (s ∷ extents) some all is = elim (cases_Bool (meet r s)) [
  | inl here ↦
      let header : 0 < s.at = all 0 s (omega arith) in
      (max r.at s.at - 1, first_shared r.at r.blocks s.at s.blocks some header here, in_front (has (with_header s) (max r.at s.at - 1)) (takes extents (max r.at s.at - 1)) (second_shared r.at r.blocks s.at s.blocks some header here))
  | inr not ↦
      let rest : list_any (λ (s : Run). meet r s) extents ≡ true = (rw not at is) in
      let there = meets_some r extents some (All-tail HasHeader s extents all) rest in
      (there.0, there.1, behind (has (with_header s) there.0) (takes extents there.0) there.2)
]

apart : (extents : List Run) → All HasHeader extents → do_meet extents ≡ false → IsApart extents
apart [] all none = tt
apart (r ∷ extents) all none =
    let parts = or_parts (list_any (λ (s : Run). meet r s) extents) (do_meet extents) none in
    let rest = All-tail HasHeader r extents all in (meets_none r extents (all 0 r (omega arith)) rest parts.0, apart extents rest parts.1)

not_apart : (extents : List Run) → All HasHeader extents → do_meet extents ≡ true → IsApart extents → ⊥
not_apart [] all is apart = false≢true is
not_apart (r ∷ extents) all is apart = elim (cases_Bool (list_any (λ (s : Run). meet r s) extents)) [
  | inl here ↦
      let there = meets_some r extents (all 0 r (omega arith)) (All-tail HasHeader r extents all) here in
      false≢true (sym (apart.0 there.0 there.1) ∙ there.2)
  | inr not ↦
      let rest : do_meet extents ≡ true = (rw not at is) in not_apart extents (All-tail HasHeader r extents all) rest apart.1
]

pub tells_apart : (extents : List Run) → All HasHeader extents → do_meet extents ≡ false → IsTrue true ↔ IsApart extents
tells_apart extents all none = (λ _. apart extents all none, λ _. refl)

pub tells_shared : (extents : List Run) → All HasHeader extents → do_meet extents ≡ true → IsTrue false ↔ IsApart extents
tells_shared extents all is = (λ yes. absurd (false≢true yes), λ lie. absurd (not_apart extents all is lie))

-- the extents that are left, one after another
pub first_meets : (r : Run) (extents all : List Run) → do_meet (r ∷ extents) ≡ do_meet all → list_any (λ (s : Run). meet r s) extents ≡ true → do_meet all ≡ true
first_meets r extents all left is = sym left ∙ in_front (list_any (λ (s : Run). meet r s) extents) (do_meet extents) is

pub none_left : (extents all : List Run) → do_meet extents ≡ do_meet all → length extents ≡ 0 → do_meet all ≡ false
none_left [] all left none = sym left
none_left (r ∷ extents) all left none = absurd (omega arith)
