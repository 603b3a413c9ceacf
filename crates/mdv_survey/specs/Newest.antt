-- The newest of the tables that a survey's replicas show: the greatest mark of all.
use Rattle.std.specs.Prelude.{◌≡◌, ◌<◌, ◌↔◌, ℕ, Bool, true, false, IsTrue, List, Contains, Option, None, Some, slice_get}
use Rattle.mdv_survey.specs.Below.{First, Geometry, Head, IsBelow, IsTextOf, Mark, Open, PlaceAt, Second, Slot, SlotShows, gate_of, shows}
use Rattle.mdv_survey.specs.declared.replica.Finds.{Finds}
use Rattle.mdv_survey.specs.declared.replica.Newest.{Newest}
use Rattle.mdv_survey.specs.declared.replica.Replica.{Replica}
use Rattle.mdv_survey.specs.declared.replica.Shown.{Shown}
use Rattle.mdv_survey.specs.Replica.{Contents, at_of}

-- no slot of this head has a greater mark
abbrev pub HasNoneAbove : Mark → Head → Type 0
HasNoneAbove mark head = (slot : Slot) (m : Mark) (bytes : ℕ) → gate_of head slot ≡ Open m bytes → IsBelow mark m → ⊥

-- no slot of this head has the mark
abbrev pub HasNot : Mark → Head → Type 0
HasNot mark head = (slot : Slot) (bytes : ℕ) → gate_of head slot ≡ Open mark bytes → ⊥

-- where both slots of the head have the mark it is the second one
abbrev pub IsLastOfBoth : Head → Slot → Mark → Type 0
IsLastOfBoth head slot mark = slot ≡ First → (bytes : ℕ) → gate_of head Second ≡ Open mark bytes → ⊥

-- of all marks that the replicas have this one is the greatest: the slot of that replica has it, no slot of any of them a greater one, and none of one before it
-- the same
pub record IsGreatest (replicas : List Replica) (newest : Newest) : Type 0 where
  pub replica : Replica
  pub one_of : slice_get replicas newest.replica ≡ Some replica
  pub bytes : ℕ
  pub gate : gate_of replica.head newest.slot ≡ Open newest.mark bytes
  pub tie : IsLastOfBoth replica.head newest.slot newest.mark
  pub greatest : (other : Replica) → Contains replicas other → HasNoneAbove newest.mark other.head
  pub first : (k : ℕ) (other : Replica) → k < newest.replica → slice_get replicas k ≡ Some other → HasNot newest.mark other.head

-- the newest one is that with the greatest mark; there is none exactly where no replica shows a table
abbrev pub IsMarked : List Replica → Option Newest → Type 0
IsMarked replicas None = (r : Replica) → Contains replicas r → shows r.head ≡ false
IsMarked replicas (Some newest) = IsGreatest replicas newest

-- where the drives have these blocks the slot has that table
pub record IsTableIn (g : Geometry) (content : Contents) (replicas : List Replica) (newest : Newest) : Type 0 where
  pub replica : Replica
  pub one_of : slice_get replicas newest.replica ≡ Some replica
  pub shows : SlotShows (IsTextOf g) (at_of replica) (content replica.line.at.drive.0) replica.head newest.slot newest.mark newest.table

abbrev pub HasTable : Geometry → Contents → List Replica → Option Newest → Type 0
HasTable g content replicas None = Unit {0}
HasTable g content replicas (Some newest) = IsTableIn g content replicas newest

-- what one head shows: the greatest of its marks, in this slot
pub record IsShownBy (head : Head) (shown : Shown) : Type 0 where
  pub bytes : ℕ
  pub gate : gate_of head shown.slot ≡ Open shown.mark bytes
  pub tie : IsLastOfBoth head shown.slot shown.mark
  pub greatest : HasNoneAbove shown.mark head

abbrev pub IsShown : Head → Option Shown → Type 0
IsShown head None = shows head ≡ false
IsShown head (Some shown) = IsShownBy head shown

-- and where its drive has these blocks the slot has that table
abbrev pub ShowsIn : Geometry → PlaceAt → (ℕ → List ℕ) → Head → Option Shown → Type 0
ShowsIn g at content head None = Unit {0}
ShowsIn g at content head (Some shown) = SlotShows (IsTextOf g) at content head shown.slot shown.mark shown.table

-- the mark is greater than the newest one's
abbrev pub IsNewerThan : Option Newest → Mark → Bool → Type 0
IsNewerThan None mark newer = newer ≡ true
IsNewerThan (Some newest) mark newer = IsTrue newer ↔ IsBelow newest.mark mark

-- where the drives have these blocks the newest table was there, and the slot has what this replica shows: then the newest one is there
abbrev pub TableGoesOn : Replica → Option Shown → Finds → Finds → Type 0
TableGoesOn r shown old new =
    (g : Geometry) (content : Contents) → HasTable g content old.replicas old.newest → ShowsIn g (at_of r) (content r.line.at.drive.0) r.head shown → HasTable g content new.replicas new.newest
