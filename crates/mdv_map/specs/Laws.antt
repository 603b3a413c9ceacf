-- Laws of maps and of logs, whatever kind of volume a map is of.
use Rattle.std.specs.Prelude.{◌≡◌, ◌⊎◌, ℕ, ◌+◌, ◌*◌, ◌<◌, ◌≤◌, Bool, true, false, nat_le, List, [], ◌∷◌, ◌++◌, length, slice_index_or}
use Rattle.mdv_map.specs.Below.{Among, AreApart, Begun, Image, IsImage, KeptOutside, MayLeave, Start, Tale, last, range}
use Rattle.mdv_map.specs.Maps.{Map, HasDriveBlock, IsDisjoint, AreDisjoint, IsWithin, run_map, chain_map, mirror_map, cut_map, soft_map, stripe_map, column_at, column_of, offset_of, striped_block, AreColumns, readings, area_of_map}
use Rattle.mdv_map.specs.Logs.{VolumeLog, AreIssued, AreLastIssued, Follows, after_issue, after_answer, after_flush, after_crash, after_boot, after_begin, opening, is_among, only}
use Rattle.mdv_map.specs.Requests.{IsOff, Rewriting, AreRead, AllRead, OnDrives, AllOnDisk, AreDrivesOf, AreCopiesKept}

-- so many blocks of a drive
pub record RunsLie : Type 0 where
  -- each block is one block of the drive
  pub copies : (drive first count b : ℕ) → (run_map drive first count).copies b ≡ record { drive = drive; block = first + b } ∷ []
  pub places : (drive first count b : ℕ) → (run_map drive first count).places b ≡ record { drive = drive; block = first + b } ∷ []
  pub blocks : (drive first count : ℕ) → (run_map drive first count).blocks ≡ count
  pub disjoint : (drive first count : ℕ) → IsDisjoint (run_map drive first count)
  pub apart : (drive first count other from length : ℕ) → (drive ≡ other → ⊥) ⊎ ((first + count ≤ from) ⊎ (from + length ≤ first)) → AreDisjoint (run_map drive first count) (run_map other from length)
  pub area : (drive first count other block : ℕ) → area_of_map (run_map drive first count) other block ≡ range drive first count other block

-- a concatenation
pub record ChainsLie : Type 0 where
  pub front : (v w : Map) (b : ℕ) → b < v.blocks → ((chain_map v w).places b ≡ v.places b) × ((chain_map v w).copies b ≡ v.copies b)
  pub back : (v w : Map) (b : ℕ) → ((chain_map v w).places (v.blocks + b) ≡ w.places b) × ((chain_map v w).copies (v.blocks + b) ≡ w.copies b)
  pub blocks : (v w : Map) → (chain_map v w).blocks ≡ v.blocks + w.blocks
  pub disjoint : (v w : Map) → IsDisjoint v → IsDisjoint w → AreDisjoint v w → IsDisjoint (chain_map v w)
  pub apart : (v w u : Map) → AreDisjoint v u → AreDisjoint w u → AreDisjoint (chain_map v w) u

-- a mirror
pub record MirrorsLie : Type 0 where
  -- each side is read, and each is written
  pub reads : (v w : Map) (image : Image) (b : ℕ) → readings (mirror_map v w) image b ≡ readings v image b ++ readings w image b
  pub places : (v w : Map) (b : ℕ) → (mirror_map v w).places b ≡ v.places b ++ w.places b
  pub blocks : (v w : Map) → (mirror_map v w).blocks ≡ v.blocks
  pub either : (v w : Map) (b drive block : ℕ) → HasDriveBlock ((mirror_map v w).places b) drive block → HasDriveBlock (v.places b) drive block ⊎ HasDriveBlock (w.places b) drive block
  pub disjoint : (v w : Map) → v.blocks ≤ w.blocks → IsDisjoint v → IsDisjoint w → AreDisjoint v w → IsDisjoint (mirror_map v w)
  pub apart : (v w u : Map) → v.blocks ≤ w.blocks → AreDisjoint v u → AreDisjoint w u → AreDisjoint (mirror_map v w) u

-- a volume of which only some blocks may be read
pub record CutsLie : Type 0 where
  pub copies : (usable : ℕ → Bool) (v : Map) (b drive block : ℕ) → HasDriveBlock ((cut_map usable v).copies b) drive block → (usable b ≡ true) × HasDriveBlock (v.copies b) drive block
  -- the others are read as before, and all are written
  pub others : (usable : ℕ → Bool) (v : Map) (b : ℕ) → usable b ≡ true → (cut_map usable v).copies b ≡ v.copies b
  pub places : (usable : ℕ → Bool) (v : Map) (b : ℕ) → (cut_map usable v).places b ≡ v.places b
  pub blocks : (usable : ℕ → Bool) (v : Map) → (cut_map usable v).blocks ≡ v.blocks
  pub disjoint : (usable : ℕ → Bool) (v : Map) → IsDisjoint v → IsDisjoint (cut_map usable v)

-- a soft partition, each block of which is another one of the volume below
pub record SoftPartitionsLie : Type 0 where
  pub copies : (pick : ℕ → ℕ) (count : ℕ) (v : Map) (b : ℕ) → (soft_map pick count v).copies b ≡ v.copies (pick b)
  pub places : (pick : ℕ → ℕ) (count : ℕ) (v : Map) (b : ℕ) → (soft_map pick count v).places b ≡ v.places (pick b)
  pub blocks : (pick : ℕ → ℕ) (count : ℕ) (v : Map) → (soft_map pick count v).blocks ≡ count
  pub within : (pick : ℕ → ℕ) (count : ℕ) (v : Map) → ((b : ℕ) → b < count → pick b < v.blocks) → IsWithin (soft_map pick count v) v
  pub disjoint : (pick : ℕ → ℕ) (count : ℕ) (v : Map) → ((b : ℕ) → b < count → pick b < v.blocks)
      → ((a b : ℕ) → a < count → b < count → pick a ≡ pick b → a ≡ b) → IsDisjoint v → IsDisjoint (soft_map pick count v)
  -- what shares nothing with the volume below shares nothing with it
  pub apart : (v w u : Map) → IsWithin v w → AreDisjoint w u → AreDisjoint v u

-- a stripe
pub record StripesLie : Type 0 where
  -- a block lies in one of the columns, in one of the blocks that the stripe takes of it
  pub column : (interlace units width b : ℕ) → 0 < interlace → 0 < width → b < units * width * interlace → column_of interlace width b < width
  pub offset : (interlace units width b : ℕ) → 0 < interlace → 0 < width → b < units * width * interlace → offset_of interlace width b < units * interlace
  -- and comes back from there
  pub comes_back : (interlace width b : ℕ) → 0 < interlace → striped_block interlace width (column_of interlace width b) (offset_of interlace width b) ≡ b
  -- each block of a column that the stripe takes is one of its blocks, and lies where it lay
  pub below : (interlace units : ℕ) (columns : List Map) (column offset : ℕ) → column < length columns → offset < units * interlace
      → striped_block interlace (length columns) column offset < (stripe_map interlace units columns).blocks
  pub lies : (interlace units : ℕ) (columns : List Map) (column offset : ℕ) → column < length columns → offset < units * interlace
      → (stripe_map interlace units columns).places (striped_block interlace (length columns) column offset) ≡ (column_at columns column).places offset
  pub copies : (interlace units : ℕ) (columns : List Map) (column offset : ℕ) → column < length columns → offset < units * interlace
      → (stripe_map interlace units columns).copies (striped_block interlace (length columns) column offset) ≡ (column_at columns column).copies offset
  pub blocks : (interlace units : ℕ) (columns : List Map) → (stripe_map interlace units columns).blocks ≡ units * length columns * interlace
  pub disjoint : (interlace units : ℕ) (columns : List Map) → AreColumns interlace units columns → IsDisjoint (stripe_map interlace units columns)
  pub apart : (interlace units : ℕ) (columns : List Map) (u : Map) → AreColumns interlace units columns
      → ((i : ℕ) → i < length columns → AreDisjoint (column_at columns i) u) → AreDisjoint (stripe_map interlace units columns) u

-- the area of a map is what belongs to its blocks
pub record AreasCover : Type 0 where
  pub inside : (v : Map) (drive block : ℕ) → area_of_map v drive block ≡ true → (b : ℕ) × (b < v.blocks) × HasDriveBlock (v.places b) drive block
  pub outside : (v : Map) (at count drive block : ℕ) → at + count ≤ v.blocks → area_of_map v drive block ≡ false → IsOff v at count drive block
  pub kept : (v : Map) (at : ℕ) (news : List (List ℕ)) (t m : Tale) → at + length news ≤ v.blocks → Rewriting v at news t m → KeptOutside (area_of_map v) t m
  pub apart : (v w : Map) → AreDisjoint v w → AreApart (area_of_map v) (area_of_map w)

-- One request's blocks are among another's, as the same blocks of drives or more of them: `to` tells which of the other's each
-- of its own is. What else belongs to the other's blocks belongs to none of its own.
pub record IsPartOf (v : Map) (at : ℕ) (news : List (List ℕ)) (w : Map) (from : ℕ) (all : List (List ℕ)) : Type 0 where
  pub inside : (k drive block : ℕ) → k < length all → HasDriveBlock (w.places (from + k)) drive block
      → ((j : ℕ) × (j < length news) × HasDriveBlock (v.places (at + j)) drive block × (slice_index_or news j [] ≡ slice_index_or all k [])) ⊎ IsOff v at (length news) drive block
  pub outside : (drive block : ℕ) → IsOff w from (length all) drive block → IsOff v at (length news) drive block

-- moments of a request
pub record RewritingsJoin : Type 0 where
  pub still : (v : Map) (at : ℕ) (news : List (List ℕ)) (t : Tale) → Rewriting v at news t t
  pub more : (v : Map) (at : ℕ) (news : List (List ℕ)) (t u m : Tale) → Rewriting v at news t u → Rewriting v at news u m → Rewriting v at news t m
  -- of a part of a request they are moments of the request
  pub parts : (v : Map) (at : ℕ) (news : List (List ℕ)) (w : Map) (from : ℕ) (all : List (List ℕ)) (t m : Tale) → IsPartOf v at news w from all → Rewriting v at news t m → Rewriting w from all t m
  -- so it is for some blocks behind each other of a request
  pub slice : (v : Map) (at done : ℕ) (news all : List (List ℕ)) (t m : Tale) → IsDisjoint v → at + length all ≤ v.blocks → done + length news ≤ length all
      → ((k : ℕ) → k < length news → slice_index_or news k [] ≡ slice_index_or all (done + k) []) → Rewriting v (at + done) news t m → Rewriting v at all t m
  -- for blocks of a volume below a soft partition that lie one behind another there
  pub soft : (pick : ℕ → ℕ) (count : ℕ) (v : Map) (at : ℕ) (news : List (List ℕ)) (t m : Tale)
      → ((k : ℕ) → k < length news → pick (at + k) ≡ pick at + k) → Rewriting v (pick at) news t m → Rewriting (soft_map pick count v) at news t m
  -- and for either side of a mirror
  pub left : (v w : Map) (at : ℕ) (news : List (List ℕ)) (t m : Tale) → AreDisjoint v w → at + length news ≤ v.blocks → at + length news ≤ w.blocks
      → Rewriting v at news t m → Rewriting (mirror_map v w) at news t m
  pub right : (v w : Map) (at : ℕ) (news : List (List ℕ)) (t m : Tale) → AreDisjoint v w → at + length news ≤ v.blocks → at + length news ≤ w.blocks
      → Rewriting w at news t m → Rewriting (mirror_map v w) at news t m

-- a log is followed by each copy alone
pub record FollowsEachCopy (v : Map) (log : VolumeLog) (t : Tale) : Type 0 where
  pub reads : (b drive block : ℕ) → b < v.blocks → HasDriveBlock (v.copies b) drive block → Among (log b).reads (last t drive block)
  pub leaves : (b drive block : ℕ) (x : List ℕ) → b < v.blocks → HasDriveBlock (v.copies b) drive block → MayLeave t drive block x → Among (log b).leaves x

pub record CopiesFollow : Type 0 where
  pub each : (v : Map) (log : VolumeLog) (t : Tale) → Follows v log t → FollowsEachCopy v log t
  pub all : (v : Map) (log : VolumeLog) (t : Tale) → FollowsEachCopy v log t → Follows v log t

-- a volume with fewer blocks or copies follows the log that the wider one followed
abbrev pub NarrowerMapsFollow : Type 0
NarrowerMapsFollow = (v w : Map) (log : VolumeLog) (t : Tale) → w.blocks ≤ v.blocks
    → ((b drive block : ℕ) → b < w.blocks → HasDriveBlock (w.copies b) drive block → HasDriveBlock (v.copies b) drive block) → Follows v log t → Follows w log t

-- at each moment of a request whose values were issued
abbrev pub RewritingsFollow : Type 0
RewritingsFollow = (v : Map) (at : ℕ) (news : List (List ℕ)) (log : VolumeLog) (t m : Tale) → IsDisjoint v → at + length news ≤ v.blocks
    → AreIssued log at news → Rewriting v at news t m → Follows v log t → Follows v log m

-- values are issued
pub record IssuesFollow : Type 0 where
  pub follows : (v : Map) (at : ℕ) (blocks : List (List ℕ)) (log : VolumeLog) (t : Tale) → Follows v log t → Follows v (after_issue at blocks log) t
  pub issued : (at : ℕ) (blocks : List (List ℕ)) (log : VolumeLog) → AreIssued (after_issue at blocks log) at blocks
  pub newest : (at : ℕ) (blocks : List (List ℕ)) (log : VolumeLog) → AreLastIssued (after_issue at blocks log) at blocks
  -- in front of the older values; the logs of all other blocks stay
  pub reads : (at : ℕ) (blocks : List (List ℕ)) (log : VolumeLog) (k : ℕ) → k < length blocks → (after_issue at blocks log (at + k)).reads ≡ slice_index_or blocks k [] ∷ (log (at + k)).reads
  pub leaves : (at : ℕ) (blocks : List (List ℕ)) (log : VolumeLog) (k : ℕ) → k < length blocks → (after_issue at blocks log (at + k)).leaves ≡ slice_index_or blocks k [] ∷ (log (at + k)).leaves
  pub others : (at : ℕ) (blocks : List (List ℕ)) (log : VolumeLog) (b : ℕ) → is_among at (length blocks) b ≡ false → after_issue at blocks log b ≡ log b

-- a write is answered once each copy reads so
pub record AnswersFollow : Type 0 where
  pub follows : (v : Map) (at : ℕ) (blocks : List (List ℕ)) (log : VolumeLog) (t : Tale) → AllRead v at blocks t → Follows v log t → Follows v (after_answer at blocks log) t
  -- then a read gives what was written, alone; what a crash may leave stays, and the logs of all other blocks
  pub one : (at : ℕ) (blocks : List (List ℕ)) (log : VolumeLog) (k : ℕ) → k < length blocks → (after_answer at blocks log (at + k)).reads ≡ slice_index_or blocks k [] ∷ []
  pub leaves : (at : ℕ) (blocks : List (List ℕ)) (log : VolumeLog) (b : ℕ) → (after_answer at blocks log b).leaves ≡ (log b).leaves
  pub others : (at : ℕ) (blocks : List (List ℕ)) (log : VolumeLog) (b : ℕ) → is_among at (length blocks) b ≡ false → after_answer at blocks log b ≡ log b

-- blocks are on the disk
pub record FlushesFollow : Type 0 where
  pub follows : (v : Map) (at count : ℕ) (log : VolumeLog) (t : Tale) → AllOnDisk v at count t → Follows v log t → Follows v (after_flush at count log) t
  -- then a crash leaves what a read gives of them; what a read gives stays, and the logs of all other blocks
  pub same : (at count : ℕ) (log : VolumeLog) (k : ℕ) → k < count → (after_flush at count log (at + k)).leaves ≡ (log (at + k)).reads
  pub reads : (at count : ℕ) (log : VolumeLog) (b : ℕ) → (after_flush at count log b).reads ≡ (log b).reads
  pub others : (at count : ℕ) (log : VolumeLog) (b : ℕ) → is_among at count b ≡ false → after_flush at count log b ≡ log b

-- the drives begin anew: from what a crash may leave, or from what they hold
pub record CrashesFollow : Type 0 where
  -- a read gives what the crash might have left
  pub reads : (log : VolumeLog) (b : ℕ) → (after_crash log b).reads ≡ (log b).leaves
  pub leaves : (log : VolumeLog) (b : ℕ) → (after_crash log b).leaves ≡ (log b).leaves
  pub crashed : (v : Map) (log : VolumeLog) (t : Tale) (start : Start) → IsImage t start.block → Follows v log t → Follows v (after_crash log) (Begun start)
  pub ended : (v : Map) (log : VolumeLog) (t : Tale) (start : Start) → ((drive block : ℕ) → start.block drive block ≡ last t drive block) → Follows v log t → Follows v log (Begun start)

-- a boot finds one value of each block: one that a crash might have left
pub record BootsFollow : Type 0 where
  pub woken : (v : Map) (content : ℕ → List ℕ) (log : VolumeLog) (t : Tale) → ((image : Image) (b : ℕ) (x : List ℕ) → IsImage t image → b < v.blocks → Among (readings v image b) x → x ≡ content b)
      → Follows v (after_boot content log) t
  pub one : (content : ℕ → List ℕ) (log : VolumeLog) (b : ℕ) → after_boot content log b ≡ only (content b)
  pub left : (v : Map) (log : VolumeLog) (t : Tale) (b drive block : ℕ) → b < v.blocks → HasDriveBlock (v.copies b) drive block → Follows v log t → Among (log b).leaves (last t drive block)

-- logs begin, from some block on
pub record BeginningsFollow : Type 0 where
  pub made : (v : Map) (t : Tale) → Follows v (opening v t) t
  pub behind : (v : Map) (from : ℕ) (log logs : VolumeLog) (t : Tale) → Follows (record v { blocks = from }) log t
      → Follows (cut_map (λ b. nat_le from b) v) logs t → Follows v (after_begin from logs log) t
  -- the blocks before it keep their log
  pub before : (from : ℕ) (log logs : VolumeLog) (b : ℕ) → b < from → after_begin from logs log b ≡ log b
  pub beyond : (from : ℕ) (log logs : VolumeLog) (b : ℕ) → from ≤ b → after_begin from logs log b ≡ logs b

-- what a request knows of its blocks
pub record RequestsStand : Type 0 where
  -- stays while their copies are kept
  pub reads : (v : Map) (at count : ℕ) (blocks : List (List ℕ)) (t m : Tale) → AreCopiesKept v at count t m → AreRead v at count blocks t → AreRead v at count blocks m
  pub on_drives : (v : Map) (passes : ℕ → Bool) (at count : ℕ) (t m : Tale) → AreCopiesKept v at count t m → OnDrives v passes at count t → OnDrives v passes at count m
  pub on_disk : (v : Map) (at count : ℕ) (t m : Tale) → AreCopiesKept v at count t m → AllOnDisk v at count t → AllOnDisk v at count m
  -- and so they are by a request for other blocks of the volume, or for another volume
  pub beside : (v : Map) (at count from : ℕ) (news : List (List ℕ)) (t m : Tale) → IsDisjoint v → at + count ≤ v.blocks → from + length news ≤ v.blocks
      → (at + count ≤ from) ⊎ (from + length news ≤ at) → Rewriting v from news t m → AreCopiesKept v at count t m
  pub elsewhere : (v w : Map) (at count from : ℕ) (news : List (List ℕ)) (t m : Tale) → IsDisjoint v → AreDisjoint v w → at + count ≤ v.blocks → from + length news ≤ w.blocks
      → Rewriting w from news t m → AreCopiesKept v at count t m
  -- what is on all drives is on the disk
  pub everywhere : (v : Map) (passes : ℕ → Bool) (at count : ℕ) (t : Tale) → AreDrivesOf passes v at count → OnDrives v passes at count t → AllOnDisk v at count t
  -- what both sides of a mirror read, the mirror reads; and a copy less reads no more
  pub both : (v w : Map) (at : ℕ) (blocks : List (List ℕ)) (t : Tale) → AllRead v at blocks t → AllRead w at blocks t → AllRead (mirror_map v w) at blocks t
  pub fewer : (usable : ℕ → Bool) (v : Map) (at : ℕ) (blocks : List (List ℕ)) (t : Tale) → AllRead v at blocks t → AllRead (cut_map usable v) at blocks t
