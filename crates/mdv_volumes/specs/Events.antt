-- What happens to the blocks of a volume, when it may, and what it makes of their logs.
use Rattle.std.specs.Prelude.{ℕ, ◌+◌, ◌-◌, ◌<◌, ◌≤◌, nat_lt, List, [], ◌∷◌, length, slice_index_or, if◌then◌else◌}
use Rattle.mdv_volumes.specs.Below.{Among, BlockLog, VolumeLog, AreLastIssued, after_answer, after_begin, after_crash, after_flush, after_issue, is_among, only}
use Rattle.mdv_store_law.specs.Machine.{AreAll, after_all, all_of}
use Rattle.mdv_store_law.specs.Machine as machine

pub data VolumeEvent : Type 0 where
  -- blocks from that one on begin to be written
  Issues : ℕ → List (List ℕ) → VolumeEvent
  -- that write was answered: each copy reads so
  Answers : ℕ → List (List ℕ) → VolumeEvent
  -- so many blocks from that one on are on the disk
  Flushes : ℕ → ℕ → VolumeEvent
  -- from that block on the logs are these: the volume was made, grew, or is used by no other any more
  Begins : ℕ → VolumeLog → VolumeEvent
  -- drives began anew, from what a crash left or as they were
  Crashes : VolumeEvent
  -- a boot found one value of each of the first so many blocks
  Woke : ℕ → (ℕ → List ℕ) → VolumeEvent

-- the first so many blocks have one value each
abbrev pub after_waking : ℕ → (ℕ → List ℕ) → VolumeLog → VolumeLog
after_waking count content log b = if nat_lt b count then only (content b) else log b

abbrev pub log_after : VolumeLog → VolumeEvent → VolumeLog
log_after log (Issues at blocks) = after_issue at blocks log
log_after log (Answers at blocks) = after_answer at blocks log
log_after log (Flushes at count) = after_flush at count log
log_after log (Begins from logs) = after_begin from logs log
log_after log Crashes = after_crash log
log_after log (Woke count content) = after_waking count content log

abbrev pub log_after_all : VolumeLog → List VolumeEvent → VolumeLog
log_after_all = after_all log_after

-- what a read gives of a block, a crash may leave
abbrev pub MayBeLeft : BlockLog → Type 0
MayBeLeft log = (x : List ℕ) → Among log.reads x → Among log.leaves x

-- each of the first so many blocks has a value that a read may give, and a crash leave
abbrev pub AreFound : VolumeLog → ℕ → (ℕ → List ℕ) → Type 0
AreFound log count content = (b : ℕ) → b < count → Among (log b).reads (content b) × Among (log b).leaves (content b)

-- a read may give each of these values
abbrev pub AreReadable : VolumeLog → ℕ → List (List ℕ) → Type 0
AreReadable log at blocks = (k : ℕ) → k < length blocks → Among (log (at + k)).reads (slice_index_or blocks k [])

-- When each may happen. A write is answered while its values are the last that were issued for its blocks.
abbrev pub MayHappen : VolumeLog → VolumeEvent → Type 0
MayHappen log (Issues at blocks) = Unit {0}
MayHappen log (Answers at blocks) = AreLastIssued log at blocks
MayHappen log (Flushes at count) = Unit {0}
MayHappen log (Begins from logs) = (b : ℕ) → from ≤ b → MayBeLeft (logs b)
MayHappen log Crashes = Unit {0}
MayHappen log (Woke count content) = AreFound log count content

-- each of the events may happen where it happens
abbrev pub IsCourse : VolumeLog → List VolumeEvent → Type 0
IsCourse = machine.IsCourse log_after MayHappen

-- the values that are issued for a block
abbrev pub issues_of : ℕ → VolumeEvent → List (List ℕ)
issues_of b (Issues at blocks) = if is_among at (length blocks) b then slice_index_or blocks (b - at) [] ∷ [] else []
issues_of b (Answers at blocks) = []
issues_of b (Flushes at count) = []
issues_of b (Begins from logs) = []
issues_of b Crashes = []
issues_of b (Woke count content) = []

abbrev pub issued_to : ℕ → List VolumeEvent → List (List ℕ)
issued_to b = all_of (issues_of b)

-- the block's log doesn't begin anew
abbrev pub GoesOn : ℕ → VolumeEvent → Type 0
GoesOn b (Issues at blocks) = Unit {0}
GoesOn b (Answers at blocks) = Unit {0}
GoesOn b (Flushes at count) = Unit {0}
GoesOn b (Begins from logs) = b < from
GoesOn b Crashes = Unit {0}
GoesOn b (Woke count content) = Unit {0}

abbrev pub AllGoOn : ℕ → List VolumeEvent → Type 0
AllGoOn b = AreAll (GoesOn b)

-- no drive begins anew
abbrev pub IsNoCrash : VolumeEvent → Type 0
IsNoCrash (Issues at blocks) = Unit {0}
IsNoCrash (Answers at blocks) = Unit {0}
IsNoCrash (Flushes at count) = Unit {0}
IsNoCrash (Begins from logs) = Unit {0}
IsNoCrash Crashes = ⊥
IsNoCrash (Woke count content) = Unit {0}

abbrev pub NoCrash : List VolumeEvent → Type 0
NoCrash = AreAll IsNoCrash
