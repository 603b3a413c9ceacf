-- Runs of blocks that pass a test.
use Rattle.std.proofs.Common.{◌≡◌, ◌<◌, ◌≤◌, ◌+◌, ◌-◌, ◌*◌, ◌/◌, ◌%◌, ℕ, Bool, true, false, not, ◌||◌, zero, suc, refl, sym, ◌∙◌, ap, subst, drop, get_or, length, min, nat_lt, if◌then◌else◌, List, [], ◌∷◌, inl, inr, arith}
use Rattle.std.specs.List.{list_any, slice_get}
use Rattle.std.proofs.lemmas.Bool.{cases_lt}
use Rattle.std.proofs.lemmas.Bool.Decides.{nat_tests}
use Rattle.std.proofs.Math.Nat.{mod-lt}
use Rattle.std.proofs.lemmas.Nat.{div-add-mod', div-mul-add}
use Rattle.mdv_copies.specs.Below.{VolId, Base, Component, Table, Row, PartStatus, row_blocks}
use Rattle.mdv_copies.specs.Copies.{IsRun, any_below, has_copy, is_bare, is_on, is_part_on, is_usable_in, is_usable_in_row, lies_in, lies_in_row, place_in, unit_blocks, width}

none_below : (test : ℕ → Bool) (n : ℕ) → ((b : ℕ) → b < n → test b ≡ false) → any_below test n ≡ false
none_below test zero fails = refl
none_below test (suc n) fails =
    let last : test n ≡ false = fails n (omega arith) in
    let rest = none_below test n (λ b low. fails b (omega (arith, low))) in
    ap (λ (x : Bool). x || any_below test n) last ∙ rest

below_none : (test : ℕ → Bool) (n : ℕ) → any_below test n ≡ false → (b : ℕ) → b < n → test b ≡ false
below_none test zero none b low = absurd (omega (arith, low))
below_none test (suc n) none b low =
    let last : test n ≡ false = grind (arith, nat_tests) in
    let rest : any_below test n ≡ false = grind (arith, nat_tests) in
    elim (cases_lt b n) [
      | inl before ↦ below_none test n rest b before
      | inr from ↦ let here : n ≡ b = omega (arith, low, from) in subst (λ (x : ℕ). test x ≡ false) here last
    ]

some_below : (test : ℕ → Bool) (n b : ℕ) → b < n → test b ≡ true → any_below test n ≡ true
some_below test zero b low is = absurd (omega (arith, low))
some_below test (suc n) b low is =
    elim (cases_lt b n) [
      | inl before ↦ let rest = some_below test n b before is in grind (arith, nat_tests)
      | inr from ↦
          let here : b ≡ n = omega (arith, low, from) in
          let last = subst (λ (x : ℕ). test x ≡ true) here is in
          grind (arith, nat_tests)
    ]

-- none is bare below a run's end, where none is below its start
pub bare_none : (t : Table) (vs : List VolId) (from run to : ℕ) → any_below (is_bare t vs) from ≡ false → IsRun (λ b. list_any (has_copy t b) vs) from run → to ≤ from + run → any_below (is_bare t vs) to ≡ false
bare_none t vs from run to none is most =
    none_below (is_bare t vs) to (λ b low. elim (cases_lt b from) [
      | inl before ↦ below_none (is_bare t vs) from none b before
      | inr behind ↦
          let at : from + (b - from) ≡ b = omega (arith, behind) in
          let within : b - from < run = omega (arith, behind, low, most) in
          let has = subst (λ (x : ℕ). list_any (has_copy t x) vs ≡ true) at (is.all (b - from) within) in
          ap not has
    ])

-- a run of none starts at a bare block
pub bare_some : (t : Table) (vs : List VolId) (from run to : ℕ) → IsRun (λ b. list_any (has_copy t b) vs) from run → run ≡ 0 → from < to → any_below (is_bare t vs) to ≡ true
bare_some t vs from run to is none low = some_below (is_bare t vs) to from low (ap not (is.none none))

same_unit : (b k u : ℕ) → b % u + k < u → (b + k) / u ≡ b / u
same_unit b k u low =
    let at : b + k ≡ b / u * u + (b % u + k) = omega (arith, div-add-mod' b u) in
    ap (λ (x : ℕ). x / u) at ∙ div-mul-add (b / u) u (b % u + k) low

-- blocks of one unit lie on one component
pub unit_run : (r : Row) (test : ℕ → Bool) (b n m : ℕ) → test (place_in r b) ≡ true → b < m → n ≡ min (m - b) (unit_blocks r - b % unit_blocks r) → IsRun (λ x. test (place_in r x)) b n
unit_run r test b n m passes low is =
    let one : 0 < unit_blocks r = omega arith in
    let short : b % unit_blocks r < unit_blocks r = mod-lt b one in
    let some : 0 < n = omega (arith, low, is, short) in
    let within : b % unit_blocks r + n ≤ unit_blocks r = omega (arith, is, short) in
    record {
      all = λ k less.
          let place : place_in r (b + k) ≡ place_in r b = ap (λ (x : ℕ). x % width r) (same_unit b k (unit_blocks r) (omega (arith, less, within))) in
          subst (λ (p : ℕ). test p ≡ true) (sym place) passes;
      none = λ zero. absurd (omega (arith, zero, some));
    }

-- a run within the first so many numbers
pub front_run : (g f : ℕ → Bool) (b n m : ℕ) → IsRun g b n → b + n ≤ m → b < m → IsRun (λ x. if nat_lt x m then g x else f (x - m)) b n
front_run g f b n m is within low = record {
  all = λ k less. let first : nat_lt (b + k) m ≡ true = grind (arith, nat_tests) in rw first (is.all k less);
  none = λ zero. let first : nat_lt b m ≡ true = grind (arith, nat_tests) in rw first (is.none zero);
}

-- a run of one test is one of another that agrees with it from some numbers on
pub moved_run : (f g : ℕ → Bool) (b c n : ℕ) → ((k : ℕ) → f (b + k) ≡ g (c + k)) → IsRun g c n → IsRun f b n
moved_run f g b c n same is =
    let left : b + 0 ≡ b = omega arith in
    let right : c + 0 ≡ c = omega arith in
    let here : f b ≡ g c = ap f (sym left) ∙ same 0 ∙ ap g right in
    record {
      all = λ k low. same k ∙ is.all k low;
      none = λ zero. here ∙ is.none zero;
    }

-- a run in the stripe in which the block lies
pub run_found : (rows : List Row) (parts : List PartStatus) (b : ℕ) (rest : List Row) (states : List PartStatus) (left : ℕ) (r : Row) (n : ℕ) → 1 ≤ length rest → r ≡ get_or rest 0 r → ((k : ℕ) → is_usable_in rows parts (b + k) ≡ is_usable_in rest states (left + k)) → left < row_blocks r → IsRun (is_usable_in_row r states) left n → left + n ≤ row_blocks r → IsRun (is_usable_in rows parts) b n
run_found rows parts b [] states left r n some is same low run within = absurd (omega (arith, some))
run_found rows parts b (x ∷ rest) states left r n some is same low run within =
    let f = is_usable_in rest (drop (length r.components) states) in
    let front = front_run (is_usable_in_row r states) f left n (row_blocks r) run within low in
    let here : IsRun (is_usable_in (r ∷ rest) states) left n = front in
    moved_run (is_usable_in rows parts) (is_usable_in (x ∷ rest) states) b left n same (subst (λ (y : Row). IsRun (is_usable_in (y ∷ rest) states) left n) is here)

-- behind all stripes there is none
pub run_lost : (rows : List Row) (parts : List PartStatus) (b : ℕ) (rest : List Row) (states : List PartStatus) (left : ℕ) → length rest < 1 → ((k : ℕ) → is_usable_in rows parts (b + k) ≡ is_usable_in rest states (left + k)) → IsRun (is_usable_in rows parts) b 0
run_lost rows parts b [] states left none same = moved_run (is_usable_in rows parts) (is_usable_in [] states) b left 0 same (record { all = λ k low. absurd (omega (arith, low)); none = λ zero. refl })
run_lost rows parts b (x ∷ rest) states left none same = absurd (omega (arith, none))

false_of : (x : Bool) → not x ≡ true → x ≡ false
false_of x is = grind (arith, nat_tests)

true_of : (x : Bool) → not x ≡ false → x ≡ true
true_of x is = grind (arith, nat_tests)

-- none passes below the end of a run of numbers that don't, where none does below its start
pub missed_none : (test : ℕ → Bool) (from run to : ℕ) → any_below test from ≡ false → IsRun (λ b. not (test b)) from run → to ≤ from + run → any_below test to ≡ false
missed_none test from run to none is most =
    none_below test to (λ b low. elim (cases_lt b from) [
      | inl before ↦ below_none test from none b before
      | inr behind ↦
          let at : from + (b - from) ≡ b = omega (arith, behind) in
          let within : b - from < run = omega (arith, behind, low, most) in
          false_of (test b) (subst (λ (x : ℕ). not (test x) ≡ true) at (is.all (b - from) within))
    ])

-- a run of none starts at a number that passes
pub missed_some : (test : ℕ → Bool) (from run to : ℕ) → IsRun (λ b. not (test b)) from run → run ≡ 0 → from < to → any_below test to ≡ true
missed_some test from run to is none low = some_below test to from low (true_of (test from) (is.none none))

-- no component of the stripe has the base
none_on : (on : Base) (cs : List Component) (k : ℕ) → list_any (is_part_on on) cs ≡ false → is_on on (slice_get cs k) ≡ false
none_on on [] k none = refl
none_on on (c ∷ cs) zero none = grind (arith, nat_tests)
none_on on (c ∷ cs) (suc k) none =
    let rest : list_any (is_part_on on) cs ≡ false = grind (arith, nat_tests) in
    none_on on cs k rest

pub beside_row : (r : Row) (on : Base) (b n : ℕ) → list_any (is_part_on on) r.components ≡ false → 0 < n → IsRun (λ x. not (lies_in_row r on x)) b n
beside_row r on b n none some = record {
  all = λ k less. ap not (none_on on r.components (place_in r (b + k)) none);
  none = λ zero. absurd (omega (arith, zero, some));
}

-- a run beside a component within the first so many numbers
front_beside : (h f : ℕ → Bool) (b n m : ℕ) → IsRun (λ x. not (h x)) b n → b + n ≤ m → b < m → IsRun (λ x. not (if nat_lt x m then h x else f (x - m))) b n
front_beside h f b n m is within low = record {
  all = λ k less. let first : nat_lt (b + k) m ≡ true = grind (arith, nat_tests) in rw first (is.all k less);
  none = λ zero. let first : nat_lt b m ≡ true = grind (arith, nat_tests) in rw first (is.none zero);
}

-- a run beside it in the stripe in which the block lies
pub beside_found : (rows : List Row) (on : Base) (b : ℕ) (rest : List Row) (left : ℕ) (r : Row) (n : ℕ) → 1 ≤ length rest → r ≡ get_or rest 0 r → ((k : ℕ) → lies_in rows on (b + k) ≡ lies_in rest on (left + k)) → left < row_blocks r → IsRun (λ x. not (lies_in_row r on x)) left n → left + n ≤ row_blocks r → IsRun (λ x. not (lies_in rows on x)) b n
beside_found rows on b [] left r n some is same low run within = absurd (omega (arith, some))
beside_found rows on b (x ∷ rest) left r n some is same low run within =
    let here : IsRun (λ y. not (lies_in (r ∷ rest) on y)) left n = front_beside (lies_in_row r on) (lies_in rest on) left n (row_blocks r) run within low in
    moved_run (λ y. not (lies_in rows on y)) (λ y. not (lies_in (x ∷ rest) on y)) b left n (λ k. ap not (same k)) (subst (λ (z : Row). IsRun (λ y. not (lies_in (z ∷ rest) on y)) left n) is here)
