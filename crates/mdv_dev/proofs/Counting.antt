-- How many turns a stretch of blocks takes, and on which drives it lies.
use Rattle.std.proofs.Common.{◌≡◌, ◌⊎◌, inl, inr, ℕ, zero, suc, ◌+◌, ◌<◌, ◌≤◌, Bool, true, false, not, ◌==◌, nat_lt, refl, sym, ◌∙◌, ap, subst, arith}
use Rattle.std.proofs.lemmas.Bool.{cases_lt}
use Rattle.std.proofs.lemmas.Bool.Decides.{nat_tests}
use Rattle.mdv_shelf.proofs.Blocks.{both_ways}
use Rattle.mdv_map.proofs.Covering.{either_of, one_of}
use Rattle.mdv_map.proofs.Copies.{le_of_test, lt_of_test}
use Rattle.mdv_dev.specs.Below.{Map}
use Rattle.mdv_dev.specs.Pieces.{count_to, drive_of, has_drive, is_new}

pub same_number : (a b : ℕ) → a == b ≡ true → a ≡ b
same_number a b is = grind (arith, nat_tests)

pub number_test : (a b : ℕ) → a ≡ b → a == b ≡ true
number_test a b is = grind (arith, nat_tests)

pub not_false : (a : Bool) → not a ≡ false → a ≡ true
not_false true is = refl
not_false false is = sym is

pub not_true : (a : Bool) → a ≡ true → not a ≡ false
not_true a is = rw is

pub true_not : (a : Bool) → a ≡ false → not a ≡ true
true_not a is = rw is

module _ (test : ℕ → Bool) where
  -- where none passes the test, the count stays
  pub count_still : (from to : ℕ) → from ≤ to → ((j : ℕ) → from ≤ j → j < to → test j ≡ false) → count_to test to ≡ count_to test from
  unfolding count_to
  count_still from zero le none = let same : zero ≡ from = omega arith in ap (count_to test) same
  count_still from (suc n) le none = elim (both_ways (nat_lt n from)) [
    | inl does ↦
        let lt = lt_of_test n from does in
        let same : suc n ≡ from = omega arith in ap (count_to test) same
    | inr not_below ↦
        let from_le = le_of_test n from not_below in
        let still = count_still from n from_le (λ j above below. none j above (omega arith)) in
        let fails = none n from_le (omega arith) in rw fails (let is : count_to test n + 0 ≡ count_to test from = omega (arith, still) in is)
  ]

  -- where the first alone passes it, the count rises by one
  pub count_turn : (from to : ℕ) → from < to → test from ≡ true → ((j : ℕ) → from < j → j < to → test j ≡ false) → count_to test to ≡ count_to test from + 1
  unfolding count_to
  count_turn from to lt first none =
      let still = count_still (suc from) to (omega arith) (λ j above below. none j (omega arith) below) in
      still ∙ rw first refl

-- one number that passes a test, and is below another, is counted there and not before
pub count_below : (test : ℕ → Bool) (k n : ℕ) → k < n → test k ≡ true → count_to test k + 1 ≤ count_to test n
unfolding count_to
count_below test k zero lt is = absurd (omega (arith, lt))
count_below test k (suc n) lt is = elim (cases_lt k n) [
  | inl below ↦ let before = count_below test k n below is in omega (arith, before)
  | inr last_one ↦
      let same : n ≡ k = omega (arith, lt, last_one) in
      let counted : count_to test n ≡ count_to test k = ap (count_to test) same in
      let here : test n ≡ true = ap test same ∙ is in rw here (omega (arith, counted))
]

-- what passes one test where it passes another is counted no oftener
pub count_fewer : (one other : ℕ → Bool) → ((k : ℕ) → one k ≡ true → other k ≡ true) → (n : ℕ) → count_to one n ≤ count_to other n
unfolding count_to
count_fewer one other within zero = omega arith
count_fewer one other within (suc n) =
    let before = count_fewer one other within n in
    elim (both_ways (one n)) [
      | inl does ↦ let there = within n does in rw (does, there) (omega (arith, before))
      | inr not ↦ rw not (omega (arith, before))
    ]

module _ (v : Map) (at : ℕ) where
  pub no_drive : (drive : ℕ) → has_drive v at 0 drive ≡ false
  unfolding has_drive
  no_drive drive = refl

  pub first_is_new : is_new v at 0 ≡ true
  unfolding has_drive
  first_is_new = refl

  -- a drive that one of the blocks lies on
  pub has_at : (n j drive : ℕ) → j < n → drive_of (v.copies (at + j)) ≡ drive → has_drive v at n drive ≡ true
  unfolding has_drive
  has_at zero j drive lt is = absurd (omega arith)
  has_at (suc n) j drive lt is = either_of (drive_of (v.copies (at + n)) == drive) (has_drive v at n drive)
      (elim (both_ways (nat_lt j n)) [
        | inl does ↦ inr (has_at n j drive (lt_of_test j n does) is)
        | inr not_below ↦
            let le = le_of_test j n not_below in
            let same : n ≡ j = omega arith in inl (number_test (drive_of (v.copies (at + n))) drive (ap (λ (i : ℕ). drive_of (v.copies (at + i))) same ∙ is))
      ])

  -- and the block
  pub has_which : (n drive : ℕ) → has_drive v at n drive ≡ true → (j : ℕ) × (j < n) × (drive_of (v.copies (at + j)) ≡ drive)
  unfolding has_drive
  has_which zero drive has = absurd (cc (has))
  has_which (suc n) drive has = elim (one_of (drive_of (v.copies (at + n)) == drive) (has_drive v at n drive) has) [
    | inl last ↦ (n, omega arith, same_number (drive_of (v.copies (at + n))) drive last)
    | inr earlier ↦ let there = has_which n drive earlier in (there.0, omega (arith, there.1), there.2)
  ]

  -- more blocks lie on it too
  pub has_grows : (n m drive : ℕ) → n ≤ m → has_drive v at n drive ≡ true → has_drive v at m drive ≡ true
  has_grows n m drive le has = let there = has_which n drive has in has_at m there.0 drive (omega (arith, le, there.1)) there.2

  -- blocks on other drives don't make it one of theirs
  pub has_same : (n more drive : ℕ) → ((j : ℕ) → j < more → drive_of (v.copies (at + (n + j))) == drive ≡ false) → has_drive v at (n + more) drive ≡ has_drive v at n drive
  unfolding has_drive
  has_same n zero drive other = ap (λ (i : ℕ). has_drive v at i drive) (omega arith)
  has_same n (suc more) drive other =
      let same : n + suc more ≡ suc (n + more) = omega arith in
      ap (λ (i : ℕ). has_drive v at i drive) same ∙ rw (other more (omega arith)) (has_same n more drive (λ j lt. other j (omega arith)))

  -- a drive of a stretch in which the first block alone may be on a new one
  pub has_back : (from to drive : ℕ) → from < to → ((j : ℕ) → from < j → j < to → is_new v at j ≡ false) → has_drive v at to drive ≡ true → (drive_of (v.copies (at + from)) ≡ drive) ⊎ (has_drive v at from drive ≡ true)
  unfolding has_drive
  has_back from zero drive lt none has = absurd (omega arith)
  has_back from (suc n) drive lt none has = elim (one_of (drive_of (v.copies (at + n)) == drive) (has_drive v at n drive) has) [
    | inl last ↦ elim (both_ways (nat_lt from n)) [
      | inl does ↦
          let below = lt_of_test from n does in
          let seen = not_false (has_drive v at n (drive_of (v.copies (at + n)))) (none n below (omega arith)) in
          let here = subst (λ (d : ℕ). has_drive v at n d ≡ true) (same_number (drive_of (v.copies (at + n))) drive last) seen in
          has_back from n drive below (λ j above under. none j above (omega arith)) here
      | inr not_below ↦
          let le = le_of_test from n not_below in
          let same : from ≡ n = omega arith in inl (ap (λ (i : ℕ). drive_of (v.copies (at + i))) same ∙ same_number (drive_of (v.copies (at + n))) drive last)
    ]
    | inr earlier ↦ elim (both_ways (nat_lt from n)) [
      | inl does ↦ has_back from n drive (lt_of_test from n does) (λ j above under. none j above (omega arith)) earlier
      | inr not_below ↦
          let le = le_of_test from n not_below in
          let same : n ≡ from = omega arith in inr (subst (λ (i : ℕ). has_drive v at i drive ≡ true) same earlier)
    ]
  ]
