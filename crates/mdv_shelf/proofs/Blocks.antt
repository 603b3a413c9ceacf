-- What one call more does to each block: to what a read gives, and to what a crash may leave.
use Rattle.std.proofs.Common.{◌≡◌, ◌⊎◌, inl, inr, ℕ, Bool, true, false, List, refl, sym, subst}
use Rattle.mdv_shelf.specs.Tale.{Tale, Begun, Then, Call, writes, written, syncs, last, values, MayLeave, times_written}
use Rattle.mdv_shelf.specs.Area.{IsKept}

-- a test that came out one way or the other
pub both_ways : (b : Bool) → (b ≡ true) ⊎ (b ≡ false)
both_ways true = inl refl
both_ways false = inr refl

module _ (t : Tale) (c : Call) (drive block : ℕ) where
  pub last_written : writes c drive block ≡ true → last (Then t c) drive block ≡ written c block
  unfolding last
  last_written does = rw does

  pub last_unwritten : writes c drive block ≡ false → last (Then t c) drive block ≡ last t drive block
  unfolding last
  last_unwritten not = rw not

  pub times_unwritten : writes c drive block ≡ false → times_written (Then t c) drive block ≡ times_written t drive block
  unfolding times_written
  times_unwritten not = rw not

  pub left_written : (x : List ℕ) → writes c drive block ≡ true → MayLeave (Then t c) drive block x → (x ≡ written c block) ⊎ MayLeave t drive block x
  unfolding MayLeave values
  left_written x does left = rw does at left

  pub left_synced : (x : List ℕ) → writes c drive block ≡ false → syncs c drive ≡ true → MayLeave (Then t c) drive block x → x ≡ last t drive block
  unfolding MayLeave values
  left_synced x not does left = elim (rw (not, does) at left) [ inl is ↦ is | inr none ↦ absurd none ]

  pub left_alone : (x : List ℕ) → writes c drive block ≡ false → syncs c drive ≡ false → MayLeave (Then t c) drive block x → MayLeave t drive block x
  unfolding MayLeave values
  left_alone x not nor left = rw (not, nor) at left

  pub may_leave_written : writes c drive block ≡ true → MayLeave (Then t c) drive block (written c block)
  unfolding MayLeave values
  may_leave_written does = rw does (inl refl)

  pub may_leave_alone : (x : List ℕ) → writes c drive block ≡ false → syncs c drive ≡ false → MayLeave t drive block x → MayLeave (Then t c) drive block x
  unfolding MayLeave values
  may_leave_alone x not nor left = rw (not, nor) left

  pub may_leave_synced : writes c drive block ≡ false → syncs c drive ≡ true → MayLeave (Then t c) drive block (last t drive block)
  unfolding MayLeave values
  may_leave_synced not does = rw (not, does) (inl refl)

-- a crash may leave what a read gives
pub last_may_be_left : (t : Tale) (drive block : ℕ) → MayLeave t drive block (last t drive block)
unfolding MayLeave values last
last_may_be_left (Begun start) drive block = inl refl
last_may_be_left (Then t c) drive block = elim (both_ways (writes c drive block)) [
  | inl does ↦ rw does (inl refl)
  | inr not ↦ elim (both_ways (syncs c drive)) [
    | inl does ↦ rw (not, does) (inl refl)
    | inr nor ↦ rw (not, nor) (last_may_be_left t drive block)
  ]
]

-- a block that the call doesn't write is kept
pub kept_unwritten : (t : Tale) (c : Call) (drive block : ℕ) → writes c drive block ≡ false → IsKept t (Then t c) drive block
kept_unwritten t c drive block not = record {
  last = last_unwritten t c drive block not;
  left = λ x left. elim (both_ways (syncs c drive)) [
    | inl does ↦ subst (λ (y : List ℕ). MayLeave t drive block y) (sym (left_synced t c drive block x not does left)) (last_may_be_left t drive block)
    | inr nor ↦ left_alone t c drive block x not nor left
  ];
  unwritten = times_unwritten t c drive block not;
}
