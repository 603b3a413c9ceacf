-- Areas of the drives, and what a stretch of calls leaves as it was.
use Rattle.std.specs.Prelude.{◌≡◌, ℕ, Bool, true, false, ◌||◌, List}
use Rattle.mdv_shelf.specs.Tale.{Tale, last, MayLeave, covers, times_written}

-- a set of blocks, by drive and block
abbrev pub Area : Type 0
Area = ℕ → ℕ → Bool

-- so many blocks of a drive
abbrev pub range : ℕ → ℕ → ℕ → Area
range drive at count = covers drive at count

-- no block
abbrev pub nowhere : Area
nowhere drive block = false

-- the blocks of either
abbrev pub joined : Area → Area → Area
joined a b drive block = a drive block || b drive block

-- no block is in both
abbrev pub AreApart : Area → Area → Type 0
AreApart a b = (drive block : ℕ) → a drive block ≡ true → b drive block ≡ true → ⊥

-- a block reads as it did, no crash leaves there what it might not have left before, and no write took it
pub record IsKept (t m : Tale) (drive block : ℕ) : Type 0 where
  pub last : last m drive block ≡ last t drive block
  pub left : (x : List ℕ) → MayLeave m drive block x → MayLeave t drive block x
  pub unwritten : times_written m drive block ≡ times_written t drive block

-- each block outside the area is kept
abbrev pub KeptOutside : Area → Tale → Tale → Type 0
KeptOutside area t m = (drive block : ℕ) → area drive block ≡ false → IsKept t m drive block
