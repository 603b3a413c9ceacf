-- A volume is known by its map: where each of its blocks lies on the drives.
use Rattle.std.specs.Prelude.{◌≡◌, ◌⊎◌, ℕ, zero, suc, ◌+◌, ◌-◌, ◌*◌, ◌/◌, ◌%◌, ◌<◌, Bool, false, ◌&&◌, ◌||◌, ◌==◌, nat_lt, List, [], ◌∷◌, ◌++◌, length, map, slice_index_or, if◌then◌else◌}
use Rattle.mdv_map.specs.Below.{Area, Image}

-- a block of a drive
pub record DriveBlock : Type 0 where
  pub drive : ℕ
  pub block : ℕ

-- How many blocks a volume has; of each its copies, which may be read, and its places, which are written: all blocks of drives
-- that belong to it, its copies among them.
pub record Map : Type 0 where
  pub blocks : ℕ
  pub copies : ℕ → List DriveBlock
  pub places : ℕ → List DriveBlock

-- what the blocks of all drives hold there
abbrev pub held : Image → DriveBlock → List ℕ
held image at = image at.drive at.block

-- each value that a read of the volume's block, or a boot, may take
abbrev pub readings : Map → Image → ℕ → List (List ℕ)
readings v image b = map (held image) (v.copies b)

-- this block of the drive is one of them
abbrev pub HasDriveBlock : List DriveBlock → ℕ → ℕ → Type 0
HasDriveBlock [] drive block = ⊥
HasDriveBlock (s ∷ ss) drive block = ((drive ≡ s.drive) × (block ≡ s.block)) ⊎ HasDriveBlock ss drive block

-- no block of a drive belongs to two blocks of the volume, and each copy of a block belongs to it
pub record IsDisjoint (v : Map) : Type 0 where
  pub apart : (a b drive block : ℕ) → a < v.blocks → b < v.blocks → HasDriveBlock (v.places a) drive block → HasDriveBlock (v.places b) drive block → a ≡ b
  pub within : (b drive block : ℕ) → b < v.blocks → HasDriveBlock (v.copies b) drive block → HasDriveBlock (v.places b) drive block

-- no block of a drive belongs to both volumes
abbrev pub AreDisjoint : Map → Map → Type 0
AreDisjoint v w = (a b drive block : ℕ) → a < v.blocks → b < w.blocks → HasDriveBlock (v.places a) drive block → HasDriveBlock (w.places b) drive block → ⊥

-- all that a volume has belongs to another
abbrev pub IsWithin : Map → Map → Type 0
IsWithin v w = (b drive block : ℕ) → b < v.blocks → HasDriveBlock (v.places b) drive block → (a : ℕ) × (a < w.blocks) × HasDriveBlock (w.places a) drive block

-- so many blocks of a drive, from the first on
abbrev pub run_map : ℕ → ℕ → ℕ → Map
run_map drive first count = record {
  blocks = count;
  copies = λ b. record { drive = drive; block = first + b } ∷ [];
  places = λ b. record { drive = drive; block = first + b } ∷ [];
}

-- a concatenation: all blocks of the one, and behind them those of the other
abbrev pub chain_map : Map → Map → Map
chain_map v w = record {
  blocks = v.blocks + w.blocks;
  copies = λ b. if nat_lt b v.blocks then v.copies b else w.copies (b - v.blocks);
  places = λ b. if nat_lt b v.blocks then v.places b else w.places (b - v.blocks);
}

-- a mirror: each block lies where it lies in the one and where it lies in the other
abbrev pub mirror_map : Map → Map → Map
mirror_map v w = record {
  blocks = v.blocks;
  copies = λ b. v.copies b ++ w.copies b;
  places = λ b. v.places b ++ w.places b;
}

-- only some blocks may be read there; all are written
abbrev pub cut_map : (ℕ → Bool) → Map → Map
cut_map usable v = record v { copies = λ b. if usable b then v.copies b else [] }

-- a soft partition: so many blocks, each of which is one of the volume below
abbrev pub soft_map : (ℕ → ℕ) → ℕ → Map → Map
soft_map pick count v = record {
  blocks = count;
  copies = λ b. v.copies (pick b);
  places = λ b. v.places (pick b);
}

-- a volume without a block
abbrev pub no_map : Map
no_map = record { blocks = 0; copies = λ _. []; places = λ _. [] }

-- the column of a stripe, by its number
abbrev pub column_at : List Map → ℕ → Map
column_at columns number = slice_index_or columns number no_map

-- which column of so many a block of a stripe lies in, which block of that it is, and back
abbrev pub column_of : ℕ → ℕ → ℕ → ℕ
column_of interlace width b = b / interlace % width

abbrev pub offset_of : ℕ → ℕ → ℕ → ℕ
offset_of interlace width b = b / interlace / width * interlace + b % interlace

abbrev pub striped_block : ℕ → ℕ → ℕ → ℕ → ℕ
striped_block interlace width column offset = (offset / interlace * width + column) * interlace + offset % interlace

-- a stripe: units of so many blocks, dealt to the columns in turn, so many to each
abbrev pub stripe_map : ℕ → ℕ → List Map → Map
stripe_map interlace units columns = record {
  blocks = units * length columns * interlace;
  copies = λ b. (column_at columns (column_of interlace (length columns) b)).copies (offset_of interlace (length columns) b);
  places = λ b. (column_at columns (column_of interlace (length columns) b)).places (offset_of interlace (length columns) b);
}

-- columns that a stripe may be made of: each has room for its units, and no two share a block of a drive
pub record AreColumns (interlace units : ℕ) (columns : List Map) : Type 0 where
  pub some : 0 < interlace
  pub room : (i k : ℕ) → i < length columns → k < units * interlace → k < (column_at columns i).blocks
  pub each : (i : ℕ) → i < length columns → IsDisjoint (column_at columns i)
  pub apart : (i j : ℕ) → i < length columns → j < length columns → (i ≡ j → ⊥) → AreDisjoint (column_at columns i) (column_at columns j)

-- whether this block of the drive is one of them
abbrev pub has_drive_block : List DriveBlock → ℕ → ℕ → Bool
has_drive_block [] drive block = false
has_drive_block (s ∷ ss) drive block = (drive == s.drive && block == s.block) || has_drive_block ss drive block

-- whether it belongs to one of a volume's first blocks
unfoldable pub belongs_below : Map → ℕ → Area
belongs_below v zero drive block = false
belongs_below v (suc count) drive block = has_drive_block (v.places count) drive block || belongs_below v count drive block

-- all blocks of drives that belong to the volume
abbrev pub area_of_map : Map → Area
area_of_map v = belongs_below v v.blocks
