-- A pass that writes to each active place in order, whatever it writes: one step of it, and where it leads.
use Rattle.std.specs.Prelude.{◌≡◌, ◌==◌, ◌+◌, ℕ, if◌then◌else◌, not, List, [], ◌∷◌, ◌++◌, filter, length, map, Option, None, Some, Result, Ok, Err, slice_get, slice_set}
use Rattle.mdv_base.specs.declared.drive.Failed.{Failed}
use Rattle.mdv_replica.specs.Replica.{Claiming, IsClaimed, IsSlotWritten, SlotWriting}
use Rattle.mdv_shelf.specs.Between.{RoseByAtLeast}
use Rattle.mdv_shelf.specs.Calls.{OnDrive}
use Rattle.mdv_shelf.specs.Shelves.{AtEachTale, AtEnd, DriveFailures, KeptOn, MadeCalls}
use Rattle.mdv_store.specs.Below.{DriveNo, Ghosts, Mark, Open, Replica, Slot, Tale, at_of, with_slot}
use Rattle.mdv_store.specs.Counts.{ArePassCounted, MadeCallsBetween}
use Rattle.mdv_store.specs.Seats.{IsSpareOf, TakesClaim, TakesSlot, drive_of}
use Rattle.mdv_store.specs.declared.seats.Seat.{Seat}

-- What is written to each replica: so many calls, with so many blocks; what holds by each moment of them; and in the end, of the replica as it was and as it is.
pub record Writing : Type 1 where
  pub calls : ℕ
  pub blocks : ℕ
  pub Took : Replica → Replica → Type 0
  pub Goes : Replica → Tale → Tale → Type 0
  pub Ends : Replica → Replica → Tale → Tale → Type 0

-- a claim
abbrev pub claiming : ℕ → Writing
claiming number = record {
  calls = 2;
  blocks = 1;
  Took = TakesClaim number;
  Goes = λ r. Claiming (at_of r) number;
  Ends = λ r n t u. TakesClaim number r n × Claiming (at_of r) number t u × IsClaimed (at_of r) number u;
}

-- a body of a table
abbrev pub slotting : Mark → ℕ → List (List ℕ) → Writing
slotting mark bytes body = record {
  calls = 6;
  blocks = 2 + length body;
  Took = TakesSlot mark bytes;
  Goes = λ r t m. (slot : Slot) × IsSpareOf r.head slot × SlotWriting (at_of r) slot mark bytes body t m;
  Ends = λ r n t u. (slot : Slot) × IsSpareOf r.head slot × (n ≡ record r { head = with_slot r.head slot (Open mark bytes) }) × SlotWriting (at_of r) slot mark bytes body t u × IsSlotWritten (at_of r) slot mark bytes body u;
}

-- the place of this number in the list has this replica
abbrev pub IsActiveAt : List Seat → ℕ → Replica → Type 0
IsActiveAt seats index r = (s : Seat) × (slice_get seats index ≡ Some s) × (s.replica ≡ Some r)

-- the place without its replica, where that lies on the drive
abbrev pub unless_on : DriveNo → Option Replica → Option Replica
unless_on drive None = None
unless_on drive (Some r) = if drive_of r == drive.0 then None else Some r

abbrev pub left_on : DriveNo → Seat → Seat
left_on drive s = record s { replica = unless_on drive s.replica }

-- a replica that took what was written
pub record IsTaken {S : Type 0} (shelf : Ghosts S) (w : Writing) (old new : S) (r n : Replica) : Type 0 where
  pub took : w.Took r n
  pub end : AtEnd shelf (w.Ends r n) old new
  pub calm : (DriveFailures shelf old new (drive_of r)).none
  pub made : MadeCalls shelf old new w.calls w.blocks

-- one on whose drive a call failed
pub record IsFailed {S : Type 0} (shelf : Ghosts S) (w : Writing) (old new : S) (r : Replica) : Type 0 where
  pub failed : (DriveFailures shelf old new (drive_of r)).some
  pub made : MadeCallsBetween shelf old new 1 w.calls w.blocks

abbrev pub CameOf : {S E : Type 0} → Ghosts S → Writing → S → S → Replica → Result Replica E → Type 0
CameOf shelf w old new r (Ok n) = IsTaken shelf w old new r n
CameOf shelf w old new r (Err fault) = IsFailed shelf w old new r

-- What is written to one replica: it is told as it is then, or a call failed; some block was written.
pub record IsWriteOf {S E : Type 0} (shelf : Ghosts S) (w : Writing) (old new : S) (r : Replica) (result : Result Replica E) : Type 0 where
  pub moments : AtEachTale shelf (w.Goes r) old new
  pub came : CameOf shelf w old new r result
  pub wrote : RoseByAtLeast 1 (shelf.written old) (shelf.written new)
  pub kept : KeptOn shelf old new (OnDrive (drive_of r))

-- the list then: the place of this number has that replica, or all places of its drive are left
abbrev pub AreThen : {E : Type 0} → List Seat → ℕ → List Seat → Seat → Replica → Result Replica E → Type 0
AreThen before index now s r (Ok n) = now ≡ slice_set before index (record s { replica = Some n })
AreThen before index now s r (Err fault) = now ≡ map (left_on r.line.at.drive) before

pub record IsTried {S : Type 0} (shelf : Ghosts S) (w : Writing) (old new : S) (before : List Seat) (index : ℕ) (now : List Seat) (s : Seat) (r : Replica) : Type 0 where
  pub result : Result Replica Failed
  pub written : IsWriteOf shelf w old new r result
  pub left : AreThen before index now s r result

-- a place that isn't active is passed over
abbrev pub IsStepAt : {S : Type 0} → Ghosts S → Writing → S → S → List Seat → ℕ → List Seat → Seat → Option Replica → Type 0
IsStepAt shelf w old new before index now s None = (new ≡ old) × (now ≡ before)
IsStepAt shelf w old new before index now s (Some r) = IsTried shelf w old new before index now s r

-- One step of a pass: at the place of this number.
abbrev pub IsStep : {S : Type 0} → Ghosts S → Writing → S → S → List Seat → ℕ → List Seat → Type 0
IsStep shelf w old new before index now = (s : Seat) → slice_get before index ≡ Some s → IsStepAt shelf w old new before index now s s.replica

-- A pass went on from the first place to the one of this number, by a step at each.
pub data WentBy {S : Type 0} (shelf : Ghosts S) (w : Writing) (old : S) (before : List Seat) : ℕ → S → List Seat → Type 0 where
  begun : WentBy shelf w old before 0 old before
  next : (index : ℕ) (mid new : S) (between now : List Seat) → WentBy shelf w old before index mid between → IsStep shelf w mid new between index now → WentBy shelf w old before (index + 1) new now

-- It went over all places, and so many calls were made.
pub record WentOver {S : Type 0} (shelf : Ghosts S) (w : Writing) (old new : S) (before now : List Seat) : Type 0 where
  pub steps : WentBy shelf w old before (length before) new now
  pub counted : ArePassCounted shelf old new w.calls w.blocks before now

-- those that don't lie on the drive
abbrev pub beside : DriveNo → List Replica → List Replica
beside drive rs = filter (λ (r : Replica). not (drive_of r == drive.0)) rs

-- Where a pass over these replicas has come, from t: these took what was written, and those are due. Each one that was written to took it, or its drive is left.
pub data Passed (w : Writing) (all : List Replica) (t : Tale) : List Replica → List Replica → Tale → Type 0 where
  begun : Passed w all t [] all t
  took : (done due : List Replica) (r n : Replica) (u v : Tale) → Passed w all t done (r ∷ due) u → w.Took r n → w.Ends r n u v → Passed w all t (done ++ n ∷ []) due v
  lost : (done due : List Replica) (r : Replica) (u v : Tale) → Passed w all t done (r ∷ due) u → w.Goes r u v → Passed w all t (beside r.line.at.drive done) (beside r.line.at.drive due) v

-- at a moment of it
abbrev pub IsPassing : Writing → List Replica → Tale → Tale → Type 0
IsPassing w all t m = (done : List Replica) × (due : List Replica) × Passed w all t done due m
