-- The disk model: what was done to the drives and told since a start, and what each block then holds.
use Rattle.std.specs.Prelude.{◌≡◌, ◌⊎◌, ℕ, ◌+◌, ◌-◌, Bool, false, ◌&&◌, ◌==◌, nat_le, nat_lt, List, [], ◌∷◌, ◌++◌, length, take, slice_index_or, if◌then◌else◌}

-- what each block of each drive held, and the reply bytes told before
pub record Start : Type 0 where
  pub block : ℕ → ℕ → List ℕ
  pub told : List ℕ

-- a call that changed something: a write of blocks at a drive's block, one of which only some blocks took,
-- a sync of a drive, and a giving of a piece of which so many bytes were told
pub data Call : Type 0 where
  Wrote : ℕ → ℕ → List (List ℕ) → Call
  Tore : ℕ → ℕ → List (List ℕ) → List Bool → Call
  Synced : ℕ → Call
  Gave : List ℕ → ℕ → Call

-- the newest call outermost
pub data Tale : Type 0 where
  Begun : Start → Tale
  Then : Tale → Call → Tale

-- whether a range of a drive has the block
abbrev pub covers : ℕ → ℕ → ℕ → ℕ → ℕ → Bool
covers in_drive at count drive block = in_drive == drive && nat_le at block && nat_lt block (at + count)

-- whether a call writes the block
abbrev pub writes : Call → ℕ → ℕ → Bool
writes (Wrote in_drive at blocks) drive block = covers in_drive at (length blocks) drive block
writes (Tore in_drive at blocks took) drive block = covers in_drive at (length blocks) drive block && slice_index_or took (block - at) false
writes (Synced in_drive) drive block = false
writes (Gave piece count) drive block = false

-- what it writes there
abbrev pub written : Call → ℕ → List ℕ
written (Wrote in_drive at blocks) block = slice_index_or blocks (block - at) []
written (Tore in_drive at blocks took) block = slice_index_or blocks (block - at) []
written (Synced in_drive) block = []
written (Gave piece count) block = []

-- whether it puts all that the drive was given on the disk
abbrev pub syncs : Call → ℕ → Bool
syncs (Synced in_drive) drive = in_drive == drive
syncs (Wrote in_drive at blocks) drive = false
syncs (Tore in_drive at blocks took) drive = false
syncs (Gave piece count) drive = false

-- what a read gives: the last value written
unfoldable pub last : Tale → ℕ → ℕ → List ℕ
last (Begun start) drive block = start.block drive block
last (Then t c) drive block = if writes c drive block then written c block else last t drive block

-- what a crash may leave in a block, the newest first: since the drive's last sync each value that was
-- written, and the one that the sync found
unfoldable pub values : Tale → ℕ → ℕ → List (List ℕ)
values (Begun start) drive block = start.block drive block ∷ []
values (Then t c) drive block =
    if writes c drive block then written c block ∷ values t drive block else if syncs c drive then last t drive block ∷ [] else values t drive block

-- how many writes took the block
unfoldable pub times_written : Tale → ℕ → ℕ → ℕ
times_written (Begun start) drive block = 0
times_written (Then t c) drive block = if writes c drive block then times_written t drive block + 1 else times_written t drive block

-- one of them is this
abbrev pub Among : List (List ℕ) → List ℕ → Type 0
Among [] x = ⊥
Among (y ∷ ys) x = (x ≡ y) ⊎ Among ys x

-- a crash may leave this in the block
unfoldable pub MayLeave : Tale → ℕ → ℕ → List ℕ → Type 0
MayLeave t drive block x = Among (values t drive block) x

abbrev pub tells : Call → List ℕ
tells (Gave piece count) = take count piece
tells (Wrote in_drive at blocks) = []
tells (Tore in_drive at blocks took) = []
tells (Synced in_drive) = []

-- the reply bytes told
unfoldable pub told : Tale → List ℕ
told (Begun start) = start.told
told (Then t c) = told t ++ tells c

-- what a crash may leave on all drives: each block has one of its values, whatever the others have
pub record IsImage (t : Tale) (image : ℕ → ℕ → List ℕ) : Type 0 where
  pub each : (drive block : ℕ) → MayLeave t drive block (image drive block)
