-- How the drives stand with a volume's log, by its map, and how that goes on.
use Rattle.std.specs.Prelude.{◌≡◌, ◌⊎◌, ℕ, ◌+◌, ◌<◌, List}
use Rattle.mdv_volumes.specs.Below.{Among, Follows, HasDriveBlock, Image, IsImage, IsKept, Map, MayLeave, Start, Tale, VolumeLog, last, readings}
use Rattle.mdv_volumes.specs.Events.{VolumeEvent, IsCourse, log_after_all}

-- the log goes on by these events, each of which may happen, to one that the drives follow: each copy of each block has a value of it
pub record GoesBy (v : Map) (log : VolumeLog) (es : List VolumeEvent) (m : Tale) : Type 0 where
  pub course : IsCourse log es
  pub follows : Follows v (log_after_all log es) m

-- each of so many blocks, from that one on, has a copy
abbrev pub HaveCopies : Map → ℕ → ℕ → Type 0
HaveCopies v at count = (k : ℕ) → k < count → (drive : ℕ) × (block : ℕ) × HasDriveBlock (v.copies (at + k)) drive block

-- each copy of the volume's blocks is kept
abbrev pub AreKept : Map → Tale → Tale → Type 0
AreKept v t m = (b drive block : ℕ) → b < v.blocks → HasDriveBlock (v.copies b) drive block → IsKept t m drive block

-- no crash leaves what one might not have left before
abbrev pub LeavesNoMore : Tale → Tale → Type 0
LeavesNoMore t u = (drive block : ℕ) (x : List ℕ) → MayLeave u drive block x → MayLeave t drive block x

-- each drive holds what a read gave of it, or what some crash left: it went on, or was lost and is back
abbrev pub HoldWhatWas : Tale → Start → Type 0
HoldWhatWas t start = (drive : ℕ) → ((block : ℕ) → start.block drive block ≡ last t drive block) ⊎ ((block : ℕ) → MayLeave t drive block (start.block drive block))

-- whatever a crash leaves, each block has this one value on each of its copies, of which there is one at least
pub record HaveOneValue (v : Map) (content : ℕ → List ℕ) (t : Tale) : Type 0 where
  pub some : (b : ℕ) → b < v.blocks → Among (readings v (last t) b) (content b)
  pub alone : (image : Image) (b : ℕ) (x : List ℕ) → IsImage t image → b < v.blocks → Among (readings v image b) x → x ≡ content b
