-- What is done at places before a table is written there: masters are blanked, and replicas formatted.
use Rattle.std.specs.Prelude.{◌≡◌, ◌⊎◌, ◌+◌, ◌-◌, ◌*◌, ◌<◌, ◌^◌, ℕ, zero, suc, List, [], ◌∷◌, ◌++◌, flat_map, nat_lt, if◌then◌else◌, Contains}
use Rattle.mdv_replica.specs.Replica.{Formatting, IsFormatted, IsWiped, Wiping, master_of}
use Rattle.mdv_replica.specs.declared.forms.Master.{Master}
use Rattle.mdv_shelf.specs.Drives.{KeptAmong}
use Rattle.mdv_shelf.specs.Shelves.{AtEachTale, AtEnd, DriveFailures, MadeCalls}
use Rattle.mdv_acts.specs.Below.{DriveNo, Ghosts, Identity, IsPlaced, Key, PlaceAt, SliceLine, Tale, TookBetween, place_on}

-- a master is blanked, or a place is formatted with a master and a claim
pub data Act : Type 0 where
  Blanks : PlaceAt → Act
  Forms : PlaceAt → Master → ℕ → Act

abbrev pub calls_for : Act → ℕ
calls_for (Blanks at) = 2
calls_for (Forms at master claim) = 6

abbrev pub blocks_written : Act → ℕ
blocks_written (Blanks at) = 1
blocks_written (Forms at master claim) = 5

abbrev pub calls_of : List Act → ℕ
calls_of [] = 0
calls_of (a ∷ acts) = calls_for a + calls_of acts

abbrev pub blocks_of : List Act → ℕ
blocks_of [] = 0
blocks_of (a ∷ acts) = blocks_written a + blocks_of acts

-- while it is done
abbrev pub IsDoing : Act → Tale → Tale → Type 0
IsDoing (Blanks at) t m = Wiping at t m
IsDoing (Forms at master claim) t m = Formatting at master claim t m

-- once it is
abbrev pub IsDone : Act → Tale → Tale → Type 0
IsDone (Blanks at) t u = Wiping at t u × IsWiped at u
IsDone (Forms at master claim) t u = Formatting at master claim t u × IsFormatted at master claim u

-- all of them are done, one behind another
abbrev pub AreDone : List Act → Tale → Tale → Type 0
AreDone [] t u = u ≡ t
AreDone (a ∷ acts) t u = (v : Tale) × IsDone a t v × AreDone acts v u

-- some of them are done, from the front on, and the next one may be half done
abbrev pub AreDoing : List Act → Tale → Tale → Type 0
AreDoing [] t m = m ≡ t
AreDoing (a ∷ acts) t m = (m ≡ t) ⊎ (IsDoing a t m ⊎ ((v : Tale) × IsDone a t v × AreDoing acts v m))

-- so many calls at least were made, and so many at most, and no more than so many blocks were written
abbrev pub MadeCallsBetween : {S : Type 0} → Ghosts S → S → S → ℕ → ℕ → ℕ → Type 0
MadeCallsBetween shelf old new least most blocks = TookBetween shelf.calls shelf.written old new least most blocks

-- so many calls were made, with so many blocks
abbrev pub Makes : {S : Type 0} → Ghosts S → S → S → List Act → Type 0
Makes shelf old new [] = new ≡ old
Makes shelf old new (a ∷ acts) = MadeCalls shelf old new (calls_of (a ∷ acts)) (blocks_of (a ∷ acts))

-- All were done, on these drives, and no call failed.
pub record HaveGone {S : Type 0} (shelf : Ghosts S) (old new : S) (drives : List DriveNo) (acts : List Act) : Type 0 where
  pub moments : AtEachTale shelf (AreDoing acts) old new
  pub end : AtEnd shelf (AreDone acts) old new
  pub calm : (drive : ℕ) → (DriveFailures shelf old new drive).none
  pub made : Makes shelf old new acts
  pub kept : KeptAmong shelf old new drives

-- A call failed on one drive, and nothing was done behind it.
pub record HaveStopped {S : Type 0} (shelf : Ghosts S) (old new : S) (drives : List DriveNo) (acts : List Act) : Type 0 where
  pub moments : AtEachTale shelf (AreDoing acts) old new
  pub drive : DriveNo
  pub one_of : Contains drives drive
  pub here : (DriveFailures shelf old new drive.0).some
  pub elsewhere : (other : DriveNo) → (other ≡ drive → ⊥) → (DriveFailures shelf old new other.0).none
  pub made : MadeCallsBetween shelf old new 1 (calls_of acts) (blocks_of acts)
  pub kept : KeptAmong shelf old new drives

-- the place of this number lies within its drive
pub record IsPlacedOn (sizes : List ℕ) (line : SliceLine) (count blocks k : ℕ) : Type 0 where
  pub placed : IsPlaced sizes (place_on line blocks count k)
  pub short : 16 + k * blocks < 2 ^ 32

abbrev pub ArePlaced : List ℕ → SliceLine → ℕ → ℕ → Type 0
ArePlaced sizes line count blocks = (k : ℕ) → k < count → IsPlacedOn sizes line count blocks k

-- the masters of a slice from this number down to the second one
abbrev pub blanks_behind : SliceLine → ℕ → ℕ → ℕ → List Act
blanks_behind line count blocks zero = []
blanks_behind line count blocks (suc n) = Blanks (place_on line blocks count (n + 1)) ∷ blanks_behind line count blocks n

-- the first one before those
abbrev pub blanks_on : ℕ → ℕ → SliceLine → List Act
blanks_on count blocks line = Blanks (place_on line blocks count 0) ∷ blanks_behind line count blocks (count - 1)

abbrev pub blanks_asked : List SliceLine → ℕ → ℕ → List Act
blanks_asked lines count blocks = if nat_lt 1 count then flat_map (blanks_on count blocks) lines else []

abbrev pub form_on : Key → Identity → ℕ → SliceLine → ℕ → ℕ → ℕ → Act
form_on key identity claim line count blocks k = Forms (place_on line blocks count k) (master_of (place_on line blocks count k) key identity) claim

-- the places of a slice from this number on, so many of them
abbrev pub forms_from : Key → Identity → ℕ → SliceLine → ℕ → ℕ → ℕ → ℕ → List Act
forms_from key identity claim line count blocks k zero = []
forms_from key identity claim line count blocks k (suc n) = form_on key identity claim line count blocks k ∷ forms_from key identity claim line count blocks (k + 1) n

abbrev pub forms_on : Key → Identity → ℕ → ℕ → ℕ → SliceLine → List Act
forms_on key identity claim count blocks line = forms_from key identity claim line count blocks 0 count

abbrev pub forms_asked : Key → Identity → ℕ → List SliceLine → ℕ → ℕ → List Act
forms_asked key identity claim lines count blocks = flat_map (forms_on key identity claim count blocks) lines

-- first the one, then the other
abbrev pub acts_asked : Key → Identity → ℕ → List SliceLine → ℕ → ℕ → List Act
acts_asked key identity claim lines count blocks = blanks_asked lines count blocks ++ forms_asked key identity claim lines count blocks
