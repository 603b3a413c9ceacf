-- What the slots of a replica have, as a look reads them.
use Rattle.std.specs.Prelude.{◌≡◌, ℕ, ◌≤◌, List, Option, Some, None, Result, IfOk, IfErr, OnOk}
use Rattle.mdv_survey.specs.Below.{Closed, Counts, Failures, First, Gate, Geometry, Ghosts, Head, IsTextOf, Mark, Open, PlaceAt, Second, Slot, SlotFits, Table, Tale, gate_of, room_of, text_of}
use Rattle.mdv_survey.specs.Newest.{IsShown, ShowsIn}
use Rattle.mdv_survey.specs.declared.body.ReadFault.{ReadFault}
use Rattle.mdv_survey.specs.declared.body.ReadFault.TheVariants.{Failed, Memory}
use Rattle.mdv_survey.specs.declared.slots.Held.{Held}
use Rattle.mdv_survey.specs.declared.slots.Held.TheVariants.{Nothing, Kept, Other}
use Rattle.mdv_survey.specs.declared.slots.Slots.{Slots}

-- a read fails where a call failed, or for want of memory, where none did
abbrev pub HasReadCause : Failures → ReadFault → Type 0
HasReadCause failures Failed = failures.some
HasReadCause failures Memory = failures.none

-- no call failed where it is answered, and a read that isn't has its cause
pub record ReadAnswer {T : Type 0} (failures : Failures) (result : Result T ReadFault) : Type 0 where
  pub calm : OnOk result failures.none
  pub cause : IfErr result (HasReadCause failures)

-- nothing is done, and Q holds of all that was done before
pub record OnlyReads {S : Type 0} (shelf : Ghosts S) (Q : Tale → Type 0) (old new : S) : Type 0 where
  pub same : shelf.tale new ≡ shelf.tale old
  pub gave : (t : Tale) → shelf.tale old ≡ Some t → Q t

-- the table whose text these bytes are; none where they are no record
abbrev pub IsFoundText : Geometry → List ℕ → Option Table → Type 0
IsFoundText g text (Some table) = IsTextOf g text table
IsFoundText g text None = (table : Table) → IsTextOf g text table → ⊥

-- a text of so many bytes fits the slot, and is the record of a table
abbrev pub Fits : Geometry → PlaceAt → Slot → Gate → (ℕ → List ℕ) → Type 0
Fits g at slot gate content = SlotFits (Counts (IsTextOf g)) at slot gate content

-- so many bytes of the slot are this table's text, and fit it; or they are no record that counts there
abbrev pub IsRead : Geometry → PlaceAt → Slot → ℕ → (ℕ → List ℕ) → Option Table → Type 0
IsRead g at slot bytes content (Some table) = (bytes ≤ room_of at.place.blocks) × IsTextOf g (text_of at slot bytes content) table
IsRead g at slot bytes content None = (table : Table) → bytes ≤ room_of at.place.blocks → IsTextOf g (text_of at slot bytes content) table → ⊥

-- the gate is open under this mark for a text that fits, and is this table's
pub record IsKept (g : Geometry) (at : PlaceAt) (slot : Slot) (gate : Gate) (content : ℕ → List ℕ) (mark : Mark) (table : Table) : Type 0 where
  pub bytes : ℕ
  pub is : gate ≡ Open mark bytes
  pub in_room : bytes ≤ room_of at.place.blocks
  pub text : IsTextOf g (text_of at slot bytes content) table

-- what the slot has under its gate
abbrev pub IsHeld : Geometry → PlaceAt → Slot → Gate → (ℕ → List ℕ) → Held → Type 0
IsHeld g at slot gate content Nothing = gate ≡ Closed
IsHeld g at slot gate content (Kept mark table) = IsKept g at slot gate content mark table
IsHeld g at slot gate content Other = Fits g at slot gate content → ⊥

-- and whatever its blocks have
abbrev pub IsHeldUnder : Gate → Held → Type 0
IsHeldUnder gate Nothing = gate ≡ Closed
IsHeldUnder gate (Kept mark table) = (bytes : ℕ) × (gate ≡ Open mark bytes)
IsHeldUnder gate Other = Unit {0}

pub record IsHeldAnswer (failures : Failures) (gate : Gate) (result : Result Held ReadFault) : Type 0 where
  pub read : ReadAnswer failures result
  pub under : IfOk result (IsHeldUnder gate)

-- both slots of the replica fit
pub record BothFit (g : Geometry) (at : PlaceAt) (head : Head) (content : ℕ → List ℕ) : Type 0 where
  pub first : Fits g at First head.first content
  pub second : Fits g at Second head.second content

-- what the slots of a head show; none where they don't both fit
abbrev pub IfShown : Head → Option Slots → Type 0
IfShown head None = Unit {0}
IfShown head (Some slots) = IsShown head slots.newest

pub record IsSlotsAnswer (failures : Failures) (head : Head) (result : Result (Option Slots) ReadFault) : Type 0 where
  pub read : ReadAnswer failures result
  pub shown : IfOk result (IfShown head)

abbrev pub AreSlots : Geometry → PlaceAt → Head → (ℕ → List ℕ) → Option Slots → Type 0
AreSlots g at head content None = BothFit g at head content → ⊥
AreSlots g at head content (Some slots) = BothFit g at head content × ShowsIn g at content head slots.newest

-- the same of the slot with the newest table alone
abbrev pub IsNewestRead : Geometry → PlaceAt → Head → Slot → (ℕ → List ℕ) → Option Slots → Type 0
IsNewestRead g at head slot content None = Fits g at slot (gate_of head slot) content → ⊥
IsNewestRead g at head slot content (Some slots) = Fits g at slot (gate_of head slot) content × ShowsIn g at content head slots.newest
