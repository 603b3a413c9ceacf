-- What a piece says of the turns of a request, and of the blocks that lie in it.
use Rattle.std.proofs.Common.{◌≡◌, inl, inr, ℕ, zero, suc, ◌+◌, ◌-◌, ◌<◌, ◌≤◌, true, false, not, ◌&&◌, ◌==◌, nat_lt, List, refl, sym, ◌∙◌, ap, subst, arith}
use Rattle.std.proofs.lemmas.Bool.Decides.{nat_tests}
use Rattle.mdv_shelf.proofs.Blocks.{both_ways}
use Rattle.mdv_map.proofs.Copies.{le_of_test, lt_of_test}
use Rattle.mdv_shelf.specs.Calls.{InDrive}
use Rattle.mdv_dev.specs.Below.{HasDriveBlock, Map}
use Rattle.mdv_dev.specs.Pieces.{IsOn, IsPiece, LiesAt, drive_of, goes_on, has_drive, is_new, is_start}
use Rattle.mdv_dev.specs.declared.piece.Piece.{Piece}
use Rattle.mdv_dev.proofs.Copies.{drive_is, one_copy, one_place}
use Rattle.mdv_dev.proofs.Counting.{has_at, not_true, true_not}

pub next_one : (drive block k : ℕ) → drive == drive && block + (k + 1) == (block + k) + 1 ≡ true
next_one drive block k = grind (arith, nat_tests)

-- two blocks that lie one behind another
pub goes_where : (v : Map) (b drive block next : ℕ) (other : ℕ) → LiesAt v b drive block → LiesAt v (b + 1) other next → goes_on v b ≡ (other == drive && next == block + 1)
goes_where v b drive block next other here there = rw (here.copies, there.copies)

module _ (v : Map) (at count : ℕ) (piece : Piece) (is : IsPiece v at count piece) where
  pub drive_in : (k : ℕ) → k < piece.count → drive_of (v.copies (at + k)) ≡ piece.drive.0
  drive_in k lt = drive_is v (at + k) piece.drive.0 (piece.block + k) (is.lies k lt)

  goes_in : (k : ℕ) → k + 1 < piece.count → goes_on v (at + k) ≡ true
  goes_in k lt =
      let same : at + (k + 1) ≡ (at + k) + 1 = omega arith in
      let next = subst (λ (b : ℕ). LiesAt v b piece.drive.0 (piece.block + (k + 1))) same (is.lies (k + 1) lt) in
      goes_where v (at + k) piece.drive.0 (piece.block + k) (piece.block + (k + 1)) piece.drive.0 (is.lies k (omega arith)) next ∙ next_one piece.drive.0 piece.block k

  -- a block of the piece belongs to the volume's block
  pub owns : (k drive block : ℕ) → k < piece.count → drive ≡ piece.drive.0 → block ≡ piece.block + k → HasDriveBlock (v.places (at + k)) drive block
  owns k drive block lt on here = rw (is.lies k lt).places (inl (on, here))

  -- and the volume's block to no other
  pub owned : (k drive block : ℕ) → k < piece.count → HasDriveBlock (v.places (at + k)) drive block → (drive ≡ piece.drive.0) × (block ≡ piece.block + k)
  owned k drive block lt has = one_place v (at + k) piece.drive.0 (piece.block + k) (is.lies k lt) drive block has

  pub copied : (k drive block : ℕ) → k < piece.count → HasDriveBlock (v.copies (at + k)) drive block → (drive ≡ piece.drive.0) × (block ≡ piece.block + k)
  copied k drive block lt has = one_copy v (at + k) piece.drive.0 (piece.block + k) (is.lies k lt) drive block has

  -- it is on its drive
  pub in_drive : (sizes : List ℕ) → IsOn sizes v → at + count ≤ v.blocks → InDrive sizes piece.drive.0 piece.block piece.count
  in_drive sizes on within =
      let few = is.within in
      let some = is.some in
      let last : piece.count - 1 < piece.count = omega arith in
      let there = on (at + (piece.count - 1)) piece.drive.0 (piece.block + (piece.count - 1)) (omega arith) (owns (piece.count - 1) piece.drive.0 (piece.block + (piece.count - 1)) last refl refl) in
      record { known = there.0; some = some; within = (let below = there.1 in omega arith) }

-- the next piece of a request of which so many blocks are done
module _ (v : Map) (at done count : ℕ) (piece : Piece) (is : IsPiece v (at + done) (count - done) piece) where
  at_more : (j : ℕ) → done ≤ j → at + j ≡ at + done + (j - done)
  at_more j le = omega arith

  -- no piece begins behind its first block
  pub starts_in : (j : ℕ) → done < j → j < done + piece.count → is_start v at j ≡ false
  starts_in zero above below = absurd (omega arith)
  starts_in (suc i) above below =
      let there : at + i ≡ at + done + (i - done) = at_more i (omega arith) in
      not_true (goes_on v (at + i)) (ap (goes_on v) there ∙ goes_in v (at + done) (count - done) piece is (i - done) (omega arith))

  -- and the next one begins behind it
  starts_at : (end : ℕ) → end ≡ done + piece.count → end < count → is_start v at end ≡ true
  starts_at zero same below = absurd (let some = is.some in omega arith)
  starts_at (suc i) same below =
      let some = is.some in
      let there : at + i ≡ at + done + (i - done) = at_more i (omega arith) in
      true_not (goes_on v (at + i)) (ap (goes_on v) there ∙ is.longest (i - done) (omega arith) (omega arith))

  pub starts_next : done + piece.count < count → is_start v at (done + piece.count) ≡ true
  starts_next below = starts_at (done + piece.count) refl below

  pub drive_here : (j : ℕ) → done ≤ j → j < done + piece.count → drive_of (v.copies (at + j)) ≡ piece.drive.0
  drive_here j above below = ap (λ (b : ℕ). drive_of (v.copies b)) (at_more j above) ∙ drive_in v (at + done) (count - done) piece is (j - done) (omega arith)

  -- no block of it but the first is on a new drive
  pub seen_in : (j : ℕ) → done < j → j < done + piece.count → is_new v at j ≡ false
  seen_in j above below =
      let first = drive_here done (omega arith) (omega arith) in
      let here = drive_here j (omega arith) below in
      not_true (has_drive v at j (drive_of (v.copies (at + j)))) (has_at v at j done (drive_of (v.copies (at + j))) above (first ∙ sym here))

  -- nor the first, where its drive was seen
  pub seen_first : has_drive v at done piece.drive.0 ≡ true → is_new v at done ≡ false
  seen_first seen =
      let first = drive_here done (omega arith) (let some = is.some in omega arith) in
      not_true (has_drive v at done (drive_of (v.copies (at + done)))) (ap (has_drive v at done) first ∙ seen)

  -- where its drive was seen, none of its blocks is on a new one
  pub seen_all : (from : ℕ) → ((k : ℕ) → from ≤ k → k < done → is_new v at k ≡ false) → has_drive v at done piece.drive.0 ≡ true → (k : ℕ) → from ≤ k → k < done + piece.count → is_new v at k ≡ false
  seen_all from before seen k above below = elim (both_ways (nat_lt k done)) [
    | inl does ↦ before k above (lt_of_test k done does)
    | inr not_below ↦
        let le = le_of_test k done not_below in
        elim (both_ways (nat_lt done k)) [
          | inl behind ↦ seen_in k (lt_of_test done k behind) below
          | inr here ↦
              let more = le_of_test done k here in
              let same : done ≡ k = omega arith in subst (λ (j : ℕ). is_new v at j ≡ false) same (seen_first seen)
        ]
  ]

-- up to the next drive no block is on a new one
pub seen_until : (v : Map) (at done count : ℕ) (piece : Piece) → IsPiece v (at + done) (count - done) piece → (end : ℕ) → ((k : ℕ) → done + piece.count ≤ k → k < end → is_new v at k ≡ false) → (j : ℕ) → done < j → j < end → is_new v at j ≡ false
seen_until v at done count piece is end behind j above below = elim (both_ways (nat_lt j (done + piece.count))) [
  | inl does ↦ seen_in v at done count piece is j above (lt_of_test j (done + piece.count) does)
  | inr not ↦ behind j (le_of_test j (done + piece.count) not) below
]

pub other_drive : (a b c : ℕ) → a ≡ b → (b ≡ c → ⊥) → a == c ≡ false
other_drive a b c is not = grind (arith, nat_tests)
