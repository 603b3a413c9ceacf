-- What stays used once extents are given back.
use Rattle.std.proofs.Common.{◌≡◌, ◌&&◌, ◌||◌, inl, inr, ℕ, Bool, true, false, not, eqb, ltb, List, [], ◌∷◌, refl, sym, subst, ◌∙◌, ap, arith, All}
use Rattle.std.proofs.lemmas.List.Elements.{All-tail, All-filter}
use Rattle.std.proofs.lemmas.Bool.{cases_Bool, or_cases, or_parts, or_from, or_left, or_right, and_parts, and_from, cond-true, cond-false, eqb-true, eq-eqb, not_from_true, not_from_false, false≢true, false_from_ne_true}
use Rattle.mdv_extent.specs.declared.run.Run.{Run}
use Rattle.mdv_extent.specs.Runs.{has, takes, with_header, same_run, is_one_of, released}
use Rattle.mdv_extent.specs.Extents.{IsApart, IsExtent, LieApart}
use Rattle.mdv_extent.specs.Laws.{IsGivenBack}
use Rattle.mdv_extent.proofs.Covering.{covers-free_of}

same_run-true : (r s : Run) → same_run r s ≡ true → r ≡ s
same_run-true r s is =
    let parts = and_parts (eqb r.at s.at) (eqb r.blocks s.blocks) is in
    let at : r.at ≡ s.at = eqb-true r.at s.at parts.0 in
    let blocks : r.blocks ≡ s.blocks = eqb-true r.blocks s.blocks parts.1 in
    λ i. record { at = at i; blocks = blocks i }

same_run-refl : (r : Run) → same_run r r ≡ true
same_run-refl r = and_from (eqb r.at r.at) (eqb r.blocks r.blocks) (eq-eqb r.at r.at refl) (eq-eqb r.blocks r.blocks refl)

-- a run of the list has its blocks taken
one_takes : (runs : List Run) (r : Run) (k : ℕ) → is_one_of runs r ≡ true → has (with_header r) k ≡ true → takes runs k ≡ true
one_takes [] r k one is = one
one_takes (s ∷ runs) r k one is = elim (or_cases (same_run r s) (is_one_of runs r) one) [
  | inl same ↦ or_left (has (with_header s) k) (takes runs k) (subst (λ (t : Run). has (with_header t) k ≡ true) (same_run-true r s same) is)
  | inr later ↦ or_right (has (with_header s) k) (takes runs k) (one_takes runs r k later is)
]

-- and a block that is taken is one of a run of the list
taker : (runs : List Run) (k : ℕ) → takes runs k ≡ true → (r : Run) × (is_one_of runs r ≡ true) × (has (with_header r) k ≡ true)
taker [] k taken = absurd (false≢true taken)
taker (s ∷ runs) k taken = elim (or_cases (has (with_header s) k) (takes runs k) taken) [
  | inl here ↦ (s, or_left (same_run s s) (is_one_of runs s) (same_run-refl s), here)
  | inr later ↦ let it = taker runs k later in (it.0, or_right (same_run it.0 s) (is_one_of runs it.0) it.1, it.2)
]

released-gone : (r : Run) (used gone : List Run) → is_one_of gone r ≡ true → released (r ∷ used) gone ≡ released used gone
released-gone r used gone one = cond-false (not (is_one_of gone r)) (r ∷ released used gone) (released used gone) (not_from_true (is_one_of gone r) one)

released-kept : (r : Run) (used gone : List Run) → is_one_of gone r ≡ false → released (r ∷ used) gone ≡ r ∷ released used gone
released-kept r used gone none = cond-true (not (is_one_of gone r)) (r ∷ released used gone) (released used gone) (not_from_false (is_one_of gone r) none)

released_none : (used gone : List Run) (k : ℕ) → takes used k ≡ false → takes (released used gone) k ≡ false
released_none [] gone k none = refl
released_none (r ∷ used) gone k none =
    let parts = or_parts (has (with_header r) k) (takes used k) none in
    elim (cases_Bool (is_one_of gone r)) [
      | inl one ↦ ap (λ (l : List Run). takes l k) (released-gone r used gone one) ∙ released_none used gone k parts.1
      | inr out ↦ ap (λ (l : List Run). takes l k) (released-kept r used gone out) ∙ or_from (has (with_header r) k) (takes (released used gone) k) parts.0 (released_none used gone k parts.1)
    ]

released_apart : (used gone : List Run) → IsApart used → IsApart (released used gone)
released_apart [] gone apart = tt
released_apart (r ∷ used) gone apart = elim (cases_Bool (is_one_of gone r)) [
  | inl one ↦ subst IsApart (sym (released-gone r used gone one)) (released_apart used gone apart.1)
  | inr out ↦ subst IsApart (sym (released-kept r used gone out)) (λ k is. released_none used gone k (apart.0 k is), released_apart used gone apart.1)
]

-- a run of those that go stands among the used ones
abbrev pub AreAmong : List Run → List Run → ℕ → Type 0
AreAmong used gone k = (g : Run) → is_one_of gone g ≡ true → has (with_header g) k ≡ true → is_one_of used g ≡ true

-- the block of a run that goes: no other run has it
gone_one : (r : Run) (used gone : List Run) (k : ℕ) → takes used k ≡ false → has (with_header r) k ≡ true → is_one_of gone r ≡ true → takes (released (r ∷ used) gone) k ≡ ((has (with_header r) k || takes used k) && not (takes gone k))
gone_one r used gone k none here one =
    let went : not (takes gone k) ≡ false = not_from_true (takes gone k) (one_takes gone r k one here) in
    ap (λ (l : List Run). takes l k) (released-gone r used gone one) ∙ released_none used gone k none ∙ sym (λ i. or_left (has (with_header r) k) (takes used k) here i && went i)

-- the block of a run that stays: no run that goes has it
kept_one : (r : Run) (used gone : List Run) (k : ℕ) → takes used k ≡ false → has (with_header r) k ≡ true → AreAmong (r ∷ used) gone k → is_one_of gone r ≡ false → takes (released (r ∷ used) gone) k ≡ ((has (with_header r) k || takes used k) && not (takes gone k))
kept_one r used gone k none here among out =
    let stays : takes gone k ≡ false = false_from_ne_true (takes gone k) (λ taken.
    let it = taker gone k taken in
    elim (or_cases (same_run it.0 r) (is_one_of used it.0) (among it.0 it.1 it.2)) [
      | inl same ↦ false≢true (sym out ∙ subst (λ (t : Run). is_one_of gone t ≡ true) (same_run-true it.0 r same) it.1)
      | inr other ↦ false≢true (sym none ∙ one_takes used it.0 k other it.2)
    ]) in
    ap (λ (l : List Run). takes l k) (released-kept r used gone out) ∙ or_left (has (with_header r) k) (takes (released used gone) k) here
    ∙ sym (λ i. or_left (has (with_header r) k) (takes used k) here i && not_from_false (takes gone k) stays i)

released_blocks : (used gone : List Run) (k : ℕ) → IsApart used → AreAmong used gone k → takes (released used gone) k ≡ (takes used k && not (takes gone k))
released_blocks [] gone k apart among = refl
released_blocks (r ∷ used) gone k apart among = elim (cases_Bool (has (with_header r) k)) [
  | inl here ↦ elim (cases_Bool (is_one_of gone r)) [
    | inl one ↦ gone_one r used gone k (apart.0 k here) here one
    | inr out ↦ kept_one r used gone k (apart.0 k here) here among out
  ]
  | inr away ↦
      let behind : AreAmong used gone k = λ g one is. elim (or_cases (same_run g r) (is_one_of used g) (among g one is)) [
        | inl same ↦ absurd (false≢true (sym away ∙ subst (λ (t : Run). has (with_header t) k ≡ true) (same_run-true g r same) is))
        | inr other ↦ other
      ] in
      let rest : takes (released used gone) k ≡ (takes used k && not (takes gone k)) = released_blocks used gone k apart.1 behind in
      let whole : takes (released (r ∷ used) gone) k ≡ takes (released used gone) k = elim (cases_Bool (is_one_of gone r)) [
        | inl one ↦ ap (λ (l : List Run). takes l k) (released-gone r used gone one)
        | inr out ↦ ap (λ (l : List Run). takes l k) (released-kept r used gone out) ∙ (λ i. away i || takes (released used gone) k)
      ] in
      whole ∙ rest ∙ sym (λ i. (away i || takes used k) && not (takes gone k))
]

among_all : (used gone : List Run) (k : ℕ) → All (λ (r : Run). is_one_of used r ≡ true) gone → AreAmong used gone k
among_all used [] k all g one is = absurd (false≢true one)
among_all used (r ∷ gone) k all g one is = elim (or_cases (same_run g r) (is_one_of gone g) one) [
  | inl same ↦ subst (λ (t : Run). is_one_of used t ≡ true) (sym (same_run-true g r same)) (all 0 r (omega arith))
  | inr later ↦ among_all used gone k (All-tail (λ (s : Run). is_one_of used s ≡ true) r gone all) g later is
]

more_free : (a u g : Bool) → (a && not (u && not g)) ≡ ((a && not u) || (a && g))
more_free true true true = refl
more_free true true false = refl
more_free true false g = refl
more_free false u g = refl

pub given_back : (blocks : ℕ) (used gone : List Run) → LieApart blocks used → All (λ (r : Run). is_one_of used r ≡ true) gone → IsGivenBack blocks used gone
given_back blocks used gone on_base all =
    let kept : (k : ℕ) → takes (released used gone) k ≡ (takes used k && not (takes gone k)) = λ k. released_blocks used gone k on_base.apart (among_all used gone k all) in
    record {
      kept = kept;
      freed = λ k. covers-free_of blocks (released used gone) k ∙ ap (λ (b : Bool). ltb k blocks && not b) (kept k) ∙ more_free (ltb k blocks) (takes used k) (takes gone k)
          ∙ ap (λ (b : Bool). b || (ltb k blocks && takes gone k)) (sym (covers-free_of blocks used k));
      others = record {
        lie = All-filter (λ (r : Run). not (is_one_of gone r)) (IsExtent blocks) used on_base.lie;
        apart = released_apart used gone on_base.apart;
      };
    }
