-- Requests for blocks of a device: what one has done by now, and what a turn of it does.
use Rattle.std.specs.Prelude.{◌≡◌, ℕ, ◌+◌, ◌-◌, ◌<◌, ◌≤◌, Bool, true, List, [], length, take, drop, Result, IfErr, OnOk, OnErr}
use Rattle.mdv_shelf.specs.Shelves.{AtEachTale, DriveFailures}
use Rattle.mdv_shelf.specs.declared.shelf.Shelf.{Ghosts}
use Rattle.mdv_dev.specs.Below.{AllOnDisk, AllRead, AreCalm, AreRead, DriveNo, FailedOn, IsSynced, Map, OnDrives, Outcomes, Rewriting, Tale, Took, TookBetween}
use Rattle.mdv_dev.specs.Pieces.{count_to, drive_of, has_drive, is_new, is_start, pieces}
use Rattle.mdv_dev.specs.declared.work.Work.{Work}
use Rattle.mdv_dev.specs.declared.work.WorkKind.{WorkKind}
use Rattle.mdv_dev.specs.declared.work.WorkKind.TheVariants.{Read, Write, Flush}

-- what a request may change
abbrev pub news : WorkKind → List (List ℕ) → List (List ℕ)
news Read buffer = []
news Write buffer = buffer
news Flush buffer = []

-- how many blocks it writes of so many
abbrev pub written_of : WorkKind → ℕ → ℕ
written_of Read count = 0
written_of Write count = count
written_of Flush count = 0

-- its buffer has a block for each of its own
abbrev pub HasRoom : WorkKind → ℕ → ℕ → Type 0
HasRoom Read count room = room ≡ count
HasRoom Write count room = room ≡ count
HasRoom Flush count room = Unit {0}

-- whether a turn begins at its block of this number: a piece is read or written at its first block, a drive is synced at the first
-- block on it
abbrev pub is_turn : Map → WorkKind → ℕ → ℕ → Bool
is_turn v Read at k = is_start v at k
is_turn v Write at k = is_start v at k
is_turn v Flush at k = is_new v at k

-- in how many turns so many of its blocks are done
abbrev pub turns : Map → WorkKind → ℕ → ℕ → ℕ
turns v kind at count = count_to (is_turn v kind at) count

-- What a request has done by now, told of its own blocks alone: those that are done read as the buffer; of a flush, those of its blocks are
-- on the disk that lie on drives that it has come to.
abbrev pub HasDoneOf : WorkKind → Map → ℕ → ℕ → ℕ → List (List ℕ) → Tale → Type 0
HasDoneOf Read v at count done buffer t = AreRead v at done buffer t
HasDoneOf Write v at count done buffer t = AreRead v at done buffer t
HasDoneOf Flush v at count done buffer t = OnDrives v (has_drive v at done) at count t

abbrev pub HasDone : Map → Work → List (List ℕ) → Tale → Type 0
HasDone v work buffer t = HasDoneOf work.kind v work.at work.count work.done buffer t

-- A flush that has come to this drive put all of it on the disk. This stays true as long as no request writes there, to whatever blocks.
abbrev pub HasSyncedOf : WorkKind → Map → ℕ → ℕ → ℕ → Tale → Type 0
HasSyncedOf Read v at done drive t = Unit {0}
HasSyncedOf Write v at done drive t = Unit {0}
HasSyncedOf Flush v at done drive t = has_drive v at done drive ≡ true → IsSynced drive t

abbrev pub HasSynced : Map → Work → ℕ → Tale → Type 0
HasSynced v work drive t = HasSyncedOf work.kind v work.at work.done drive t

-- a request with blocks left to do, at one where a turn begins
pub record IsOpen (v : Map) (work : Work) (room : ℕ) : Type 0 where
  pub some_left : work.done < work.count
  pub within : work.at + work.count ≤ v.blocks
  pub buffer : HasRoom work.kind work.count room
  pub begins : is_turn v work.kind work.at work.done ≡ true

-- a read fills the buffer; else it stays
abbrev pub LeavesBuffer : WorkKind → List (List ℕ) → List (List ℕ) → Type 0
LeavesBuffer Read old new = length new ≡ length old
LeavesBuffer Write old new = new ≡ old
LeavesBuffer Flush old new = new ≡ old

-- A call failed at the request's block of that number: a turn begins there, the drive is the one that this block lies on, and no call failed on another.
pub record FailedAt (calls : Outcomes) (v : Map) (kind : WorkKind) (at count k drive : ℕ) : Type 0 where
  pub below : k < count
  pub begins : is_turn v kind at k ≡ true
  pub on : drive ≡ drive_of (v.copies (at + k))
  pub failed : FailedOn drive calls

-- At each moment a request rewrites its own blocks alone; a read leaves the tale as it was.
pub record IsRewriting {S : Type 0} (shelf : Ghosts S) (old new : S) (v : Map) (work : Work) (buffer : List (List ℕ)) : Type 0 where
  pub each : AtEachTale shelf (Rewriting v work.at (news work.kind buffer)) old new
  pub still : work.kind ≡ Read → shelf.tale new ≡ shelf.tale old

-- One turn: more is done, up to where the next one begins, or to the end, and the buffer stays but for the blocks that it did. Where its
-- call failed, no more is done, and the front of the buffer stays, as far as blocks are done: it was on the drive that is told, the one of
-- the first block that isn't done.
pub record IsTurned {T : Type 0} (v : Map) (calls : Outcomes) (old : Work) (before : List (List ℕ)) (new : Work) (after : List (List ℕ)) (result : Result T DriveNo) : Type 0 where
  pub same : new ≡ record old { done = new.done }
  pub buffer : LeavesBuffer old.kind before after
  pub front : take old.done after ≡ take old.done before
  pub behind : OnOk result (drop new.done after ≡ drop new.done before)
  pub within : new.done ≤ old.count
  pub begins : new.done < old.count → is_turn v old.kind old.at new.done ≡ true
  pub rose : OnOk result ((old.done < new.done) × (turns v old.kind old.at new.done ≡ turns v old.kind old.at old.done + 1))
  pub calm : OnOk result (AreCalm calls)
  pub stayed : IfErr result (λ drive. (new.done ≡ old.done) × (drive.0 ≡ drive_of (v.copies (old.at + old.done))) × FailedOn drive.0 calls)

-- All turns of it. The front of the buffer stays, as far as blocks were done before. Where a call failed, all before it stays done: it
-- failed at the first block that isn't, on the drive that is told.
pub record IsFinished {T : Type 0} (v : Map) (calls : Outcomes) (old : Work) (before : List (List ℕ)) (new : Work) (after : List (List ℕ)) (result : Result T DriveNo) : Type 0 where
  pub same : new ≡ record old { done = new.done }
  pub buffer : LeavesBuffer old.kind before after
  pub front : take old.done after ≡ take old.done before
  pub whole : OnOk result ((new.done ≡ old.count) × AreCalm calls)
  pub stayed : IfErr result (λ drive. (old.done ≤ new.done) × FailedAt calls v old.kind old.at old.count new.done drive.0)

-- how many turns are left of it
abbrev pub turns_left : Map → Work → ℕ
turns_left v work = turns v work.kind work.at work.count - turns v work.kind work.at work.done

-- What was done stays done, and more is where more is told; and each drive that a flush has come to is synced as a whole, if those that it came to earlier were.
pub record Carries (v : Map) (old : Work) (before : List (List ℕ)) (new : Work) (after : List (List ℕ)) (t u : Tale) : Type 0 where
  pub done : HasDone v old before t → HasDone v new after u
  pub synced : (drive : ℕ) → HasSynced v old drive t → HasSynced v new drive u

-- Blocks that were written: each copy reads so, a crash leaves them, and each drive that they lie on is synced, with all that it was given before.
pub record AreOnDisk (v : Map) (at : ℕ) (blocks : List (List ℕ)) (u : Tale) : Type 0 where
  pub read : AllRead v at blocks u
  pub on_disk : AllOnDisk v at (length blocks) u
  pub synced : (drive : ℕ) → has_drive v at (length blocks) drive ≡ true → IsSynced drive u

-- it took so many calls, told from both sides, and wrote no more than so many blocks
abbrev pub TookExactly : {S : Type 0} → Ghosts S → S → S → ℕ → ℕ → Type 0
TookExactly shelf before now calls blocks = TookBetween shelf.calls shelf.written before now calls calls blocks

-- what a turn takes: one call
pub record IsTurnCounted {S T E : Type 0} (shelf : Ghosts S) (before now : S) (old new : Work) (result : Result T E) : Type 0 where
  pub done : OnOk result (Took shelf.calls shelf.written before now 1 (written_of old.kind (new.done - old.done)))
  pub any : TookExactly shelf before now 1 (written_of old.kind (old.count - old.done))

-- What a request takes: a call for each turn that is left. Where one fails, a call for each turn that it did, that one, and no other.
pub record MakesTurns {S T E : Type 0} (shelf : Ghosts S) (before now : S) (v : Map) (old new : Work) (result : Result T E) : Type 0 where
  pub done : OnOk result (Took shelf.calls shelf.written before now (turns_left v old) (written_of old.kind (old.count - old.done)))
  pub failed : OnErr result (TookExactly shelf before now (turns v old.kind old.at new.done - turns v old.kind old.at old.done + 1) (written_of old.kind (old.count - old.done)))

-- blocks of a volume, one at least
pub record IsRange (v : Map) (at count : ℕ) : Type 0 where
  pub some : 0 < count
  pub within : at + count ≤ v.blocks

-- It stopped at the failure of a turn of that kind on that drive: it made so many calls earlier, one for each turn before it, that one, and no other.
abbrev pub StopsAt : {S : Type 0} → Ghosts S → S → S → Map → WorkKind → ℕ → ℕ → ℕ → ℕ → ℕ → Type 0
StopsAt shelf before now v kind at count earlier blocks drive =
    (k : ℕ) × FailedAt (DriveFailures shelf before now) v kind at count k drive × TookExactly shelf before now (earlier + turns v kind at k + 1) blocks

-- a whole read: a call for each piece, up to the first that fails, on the drive that is told
pub record TakesReads {S T : Type 0} (shelf : Ghosts S) (before now : S) (v : Map) (at count : ℕ) (result : Result T DriveNo) : Type 0 where
  pub calm : OnOk result (AreCalm (DriveFailures shelf before now))
  pub done : OnOk result (Took shelf.calls shelf.written before now (pieces v at count) 0)
  pub failed : IfErr result (λ drive. StopsAt shelf before now v Read at count 0 0 drive.0)
