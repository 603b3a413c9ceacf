-- How many calls a survey makes.
use Rattle.std.specs.Prelude.{◌≡◌, ◌⊎◌, ℕ, zero, suc, ◌+◌, ◌*◌, ◌/◌, ◌<◌, ◌≤◌, max, Bool, true, false, List, [], ◌∷◌, Option, Some, None, Result, Ok, Err}
use Rattle.std.specs.Bool.{MatchBool}
use Rattle.mdv_shelf.specs.Calls.{OnDrive}
use Rattle.mdv_shelf.specs.Shelves.{DriveFailures, KeptOn}
use Rattle.mdv_survey.specs.Below.{Closed, Drives, First, Gate, Geometry, Ghosts, Head, IsHead, IsInChain, IsMasterAt, IsSpareSlot, IsTextOf, MadeCalls, Master, Open, PlaceAt, Second, Site, SliceLine, Slot, Tale, gate_of, has_drive, last, other_slot, place_on, size_on, slot_blocks}
use Rattle.mdv_survey.specs.Replica.{Contents}
use Rattle.mdv_survey.specs.Others.{first_at, most_on}
use Rattle.mdv_survey.specs.Slots.{Fits}
use Rattle.mdv_survey.specs.declared.slots.Held.{Held}
use Rattle.mdv_survey.specs.declared.slots.Held.TheVariants.{Nothing, Kept, Other}

-- how many blocks are read for a text of so many bytes: one at least
abbrev pub blocks_for : ℕ → ℕ
blocks_for bytes = max 1 ((bytes + 511) / 512)

-- one read of a slot whose gate is open, and none of another
abbrev pub reads_of : Gate → ℕ
reads_of Closed = 0
reads_of (Open mark bytes) = 1

-- a text of so many bytes takes one read where a slot of a place of that length has room for it, and else none
abbrev pub IsTextBy : (blocks bytes n : ℕ) → Type 0
IsTextBy blocks bytes n = ((blocks_for bytes ≤ slot_blocks blocks) × (n ≡ 1)) ⊎ ((slot_blocks blocks < blocks_for bytes) × (n ≡ 0))

-- so does an open slot
abbrev pub IsSlotBy : ℕ → Gate → ℕ → Type 0
IsSlotBy blocks Closed n = n ≡ 0
IsSlotBy blocks (Open mark bytes) n = IsTextBy blocks bytes n

-- how many slots of a replica are open
abbrev pub open_slots : Head → ℕ
open_slots head = reads_of head.first + reads_of head.second

-- exactly so many reads; where there is none the shelf is as it was
abbrev pub MadeReads : {S : Type 0} → Ghosts S → S → S → ℕ → Type 0
MadeReads shelf old new zero = new ≡ old
MadeReads shelf old new (suc more) = MadeCalls shelf old new (suc more) 0

-- so many reads at most, or none
abbrev pub MadeFew : {S : Type 0} → Ghosts S → S → S → ℕ → Type 0
MadeFew shelf old new most = (count : ℕ) × (count ≤ most) × MadeReads shelf old new count

-- the last of the calls failed, and none on the drive before it
pub record FailedAtLast {S : Type 0} (shelf : Ghosts S) (old new : S) (drive : ℕ) : Type 0 where
  pub failing : S
  pub calls : ℕ
  pub before : MadeReads shelf old failing calls
  pub calm : (DriveFailures shelf old failing drive).none
  pub made : MadeCalls shelf failing new 1 0
  pub failed : (DriveFailures shelf failing new drive).some

-- No call failed but on this drive, and there none, or the last one of all.
pub record ReadOn {S : Type 0} (shelf : Ghosts S) (old new : S) (drive : ℕ) : Type 0 where
  pub kept : KeptOn shelf old new (OnDrive drive)
  pub ended : (DriveFailures shelf old new drive).none ⊎ FailedAtLast shelf old new drive

-- so many reads, of which Is holds
abbrev pub MadeThese : {S : Type 0} → Ghosts S → S → S → (ℕ → Type 0) → Type 0
MadeThese shelf old new Is = (count : ℕ) × Is count × MadeReads shelf old new count

-- so many were read where something was found, these where nothing was, and no more than so many where a read failed
abbrev pub AreReadFor : {S T E : Type 0} → Ghosts S → S → S → ℕ → (ℕ → Type 0) → Result (Option T) E → Type 0
AreReadFor shelf old new slots Is (Ok (Some found)) = MadeReads shelf old new slots
AreReadFor shelf old new slots Is (Ok None) = MadeThese shelf old new Is
AreReadFor shelf old new slots Is (Err fault) = MadeFew shelf old new slots

-- an open slot is read once, unless its text has no room there, or the read fails
abbrev pub IsHeldCounted : {S E : Type 0} → Ghosts S → S → S → ℕ → Gate → Result Held E → Type 0
IsHeldCounted shelf old new blocks gate (Ok Nothing) = MadeReads shelf old new (reads_of gate)
IsHeldCounted shelf old new blocks gate (Ok (Kept mark table)) = MadeReads shelf old new (reads_of gate)
IsHeldCounted shelf old new blocks gate (Ok Other) = MadeThese shelf old new (IsSlotBy blocks gate)
IsHeldCounted shelf old new blocks gate (Err fault) = MadeFew shelf old new (reads_of gate)

-- It took so many calls, `most` at most, and wrote nothing; Q says how many they are, by what was done before.
pub record IsCounted {S : Type 0} (shelf : Ghosts S) (old new : S) (most : ℕ) (Q : Tale → ℕ → Type 0) : Type 0 where
  pub calls : ℕ
  pub few : calls ≤ most
  pub made : MadeReads shelf old new calls
  pub by : (t : Tale) → shelf.tale old ≡ Some t → Q t calls

-- The reads of a replica whose slots don't both fit: the one without the newest table is read first, and where that fits the other one, too.
pub record IsUnfitBy (g : Geometry) (at : PlaceAt) (head : Head) (content : ℕ → List ℕ) (n : ℕ) : Type 0 where
  pub slot : Slot
  pub spare : IsSpareSlot head slot
  pub tie : slot ≡ Second → IsSpareSlot head First → ⊥
  pub reads : ((Fits g at slot (gate_of head slot) content → ⊥) × IsSlotBy at.place.blocks (gate_of head slot) n)
      ⊎ (Fits g at slot (gate_of head slot) content × ((k : ℕ) × IsSlotBy at.place.blocks (gate_of head (other_slot slot)) k × (n ≡ reads_of (gate_of head slot) + k)))

-- each open slot of a readable replica was read once
abbrev pub AreSlotsBy : {S T E : Type 0} → Ghosts S → Geometry → PlaceAt → Head → S → S → Result (Option T) E → Type 0
AreSlotsBy shelf g at head old new (Ok (Some found)) = MadeReads shelf old new (open_slots head)
AreSlotsBy shelf g at head old new (Ok None) = IsCounted shelf old new 2 (λ t n. IsUnfitBy g at head (last t at.drive.0) n)
AreSlotsBy shelf g at head old new (Err fault) = MadeFew shelf old new (open_slots head)

abbrev pub IsVisitBy : Geometry → PlaceAt → (ℕ → List ℕ) → Head → Bool → ℕ → Type 0
IsVisitBy g at content head true n = n ≡ open_slots head
IsVisitBy g at content head false n = IsUnfitBy g at head content n

-- the slice has no place of this number
abbrev pub HasNoPlace : SliceLine → Master → ℕ → Type 0
HasNoPlace line first k = (line.at.blocks < 16 + k * first.blocks + first.blocks) ⊎ ((0 < k) × (first.count ≤ k))

module _ (g : Geometry) (site : Site) (line : SliceLine) (first : Master) (content : ℕ → List ℕ) where
  -- The slice has the places before this number, and readable replicas there; the looks at them take so many calls: one each, and one for each open slot.
  abbrev pub ReadableBy : ℕ → ℕ → Type 0
  ReadableBy zero n = n ≡ 0
  ReadableBy (suc k) n = (h : Head) × (m : ℕ) × (HasNoPlace line first k → ⊥) × IsInChain (IsTextOf g) site line k content first h × ReadableBy k m × (n ≡ m + (1 + open_slots h))

  -- The look at a place of the slice that has no readable replica takes one call; and where it has a head of the slice's length, those for its slots, too.
  pub record IsUnreadableBy (k n : ℕ) : Type 0 where
    pub place : HasNoPlace line first k → ⊥
    pub never : (h : Head) → IsInChain (IsTextOf g) site line k content first h → ⊥
    pub headless : ((h : Head) → IsHead (place_on line first.blocks first.count k) (size_on site line) content h → h.master.blocks ≡ first.blocks → ⊥) → n ≡ 1
    pub headed : (h : Head) → IsHead (place_on line first.blocks first.count k) (size_on site line) content h → h.master.blocks ≡ first.blocks
        → (m : ℕ) × IsUnfitBy g (place_on line first.blocks first.count k) h content m × (n ≡ 1 + m)

  -- there the look at the slice ends
  abbrev pub EndsBy : ℕ → ℕ → Type 0
  EndsBy k n = (HasNoPlace line first k × (n ≡ 0)) ⊎ IsUnreadableBy k n

  -- the replica of this number is readable, or there the look ends
  abbrev pub IsNumberBy : ℕ → Bool → ℕ → Type 0
  IsNumberBy k true n = (h : Head) × (HasNoPlace line first k → ⊥) × IsInChain (IsTextOf g) site line k content first h × (n ≡ 1 + open_slots h)
  IsNumberBy k false n = EndsBy k n

-- All of a slice that has its first master's place: the looks at its readable replicas and at the first place that has none; or at its first place alone, where that has no head.
pub record IsWalkedBy (g : Geometry) (site : Site) (line : SliceLine) (first : Master) (content : ℕ → List ℕ) (n : ℕ) : Type 0 where
  pub located : IsMasterAt (place_on line 8192 0 0) (size_on site line) (content (line.at.start + 16)) first
  pub begins : HasNoPlace line first 0 → ⊥
  pub number : ℕ
  pub calls : ℕ
  pub more : ℕ
  pub readable : ReadableBy g site line first content number calls
  pub ends : EndsBy g site line first content number more
  pub all : n ≡ calls + more

abbrev pub IsSliceBy : Geometry → Site → SliceLine → (ℕ → List ℕ) → ℕ → Type 0
IsSliceBy g site line content n =
    (((h : Head) → IsHead (first_at line (most_on line)) (size_on site line) content h → ⊥) × (n ≡ 1)) ⊎ ((first : Master) × IsWalkedBy g site line first content n)

-- behind the first one
abbrev pub IsBehindBy : Geometry → Site → SliceLine → Master → (ℕ → List ℕ) → ℕ → Type 0
IsBehindBy g site line first content n =
    IsMasterAt (place_on line 8192 0 0) (size_on site line) (content (line.at.start + 16)) first → (m : ℕ)
    → ReadableBy g site line first content 1 m → IsWalkedBy g site line first content (m + n)

-- A slice on a drive that isn't up takes no call; one on a drive on which a call failed no more than 765, those of 255 replicas with two open slots each.
abbrev pub IsLineBy : Geometry → Site → Drives → Drives → Contents → SliceLine → ℕ → Type 0
IsLineBy g site up failed content line n = MatchBool (has_drive up line.at.drive)
    ((n ≤ 765) × (has_drive failed line.at.drive ≡ false → IsSliceBy g site line (content line.at.drive.0) n))
    (n ≡ 0)

-- the slices one after another
abbrev pub AreLinesBy : Geometry → Site → Drives → Drives → Contents → List SliceLine → ℕ → Type 0
AreLinesBy g site up failed content [] n = n ≡ 0
AreLinesBy g site up failed content (line ∷ lines) n =
    (m : ℕ) × (k : ℕ) × IsLineBy g site up failed content line m × AreLinesBy g site up failed content lines k × (n ≡ m + k)
