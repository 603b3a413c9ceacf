-- Blocks of a map that lie together on a drive.
use Rattle.std.specs.Prelude.{◌≡◌, ℕ, zero, suc, ◌+◌, ◌<◌, ◌≤◌, ◌^◌, Bool, true, false, not, ◌&&◌, ◌||◌, ◌==◌, List, [], ◌∷◌, length, slice_index, if◌then◌else◌}
use Rattle.mdv_dev.specs.Below.{DriveBlock, HasDriveBlock, Map}
use Rattle.mdv_dev.specs.declared.piece.Piece.{Piece}

-- a block lies there, and nowhere else
pub record LiesAt (v : Map) (b drive block : ℕ) : Type 0 where
  pub copies : v.copies b ≡ record { drive = drive; block = block } ∷ []
  pub places : v.places b ≡ record { drive = drive; block = block } ∷ []

-- each block has one copy
abbrev pub IsOneCopy : Map → Type 0
IsOneCopy v = (b : ℕ) → b < v.blocks → (drive : ℕ) × (block : ℕ) × LiesAt v b drive block

-- each block lies on a drive of these sizes
abbrev pub IsOn : List ℕ → Map → Type 0
IsOn sizes v = (b drive block : ℕ) → b < v.blocks → HasDriveBlock (v.places b) drive block → (drive < length sizes) × (block < slice_index sizes drive)

-- one block lies right behind another, on the same drive
abbrev pub is_next : List DriveBlock → List DriveBlock → Bool
is_next [] rs = false
is_next (s ∷ []) [] = false
is_next (s ∷ []) (r ∷ []) = r.drive == s.drive && r.block == s.block + 1
is_next (s ∷ []) (r ∷ q ∷ rs) = false
is_next (s ∷ t ∷ ss) rs = false

-- the volume's next block lies right behind this one
abbrev pub goes_on : Map → ℕ → Bool
goes_on v b = is_next (v.copies b) (v.copies (b + 1))

-- The first of these blocks, one behind another on a drive: as many as lie so.
pub record IsPiece (v : Map) (at count : ℕ) (piece : Piece) : Type 0 where
  pub some : 0 < piece.count
  pub within : piece.count ≤ count
  pub lies : (k : ℕ) → k < piece.count → LiesAt v (at + k) piece.drive.0 (piece.block + k)
  pub longest : (k : ℕ) → k + 1 ≡ piece.count → piece.count < count → goes_on v (at + k) ≡ false
  pub fits : piece.block + piece.count < 2 ^ 64

-- how many numbers below that one pass a test
unfoldable pub count_to : (ℕ → Bool) → ℕ → ℕ
count_to test zero = 0
count_to test (suc n) = count_to test n + (if test n then 1 else 0)

-- whether a piece of a request from block `at` on begins at its block of this number
abbrev pub is_start : Map → ℕ → ℕ → Bool
is_start v at zero = true
is_start v at (suc k) = not (goes_on v (at + k))

-- the drive of the first copy
abbrev pub drive_of : List DriveBlock → ℕ
drive_of [] = 0
drive_of (s ∷ ss) = s.drive

-- whether one of so many blocks, from that one on, lies on the drive
unfoldable pub has_drive : Map → ℕ → ℕ → ℕ → Bool
has_drive v at zero drive = false
has_drive v at (suc n) drive = drive_of (v.copies (at + n)) == drive || has_drive v at n drive

-- whether the block of this number is the first of the request on its drive
abbrev pub is_new : Map → ℕ → ℕ → Bool
is_new v at k = not (has_drive v at k (drive_of (v.copies (at + k))))

-- in how many pieces so many blocks lie, and on how many drives
abbrev pub pieces : Map → ℕ → ℕ → ℕ
pieces v at count = count_to (is_start v at) count

abbrev pub drives : Map → ℕ → ℕ → ℕ
drives v at count = count_to (is_new v at) count

-- the first piece, with the second where that lies right behind it
abbrev pub joined_piece : Piece → Piece → Piece
joined_piece first second =
    if first.drive.0 == second.drive.0 && first.block + first.count == second.block then record first { count = first.count + second.count } else first
