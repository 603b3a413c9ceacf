-- What a crash leaves of a place that is being written, told from what one might have left before.
use Rattle.std.specs.Prelude.{◌≡◌, ◌⊎◌, ℕ, ◌+◌, ◌<◌, false, List, [], length, slice_index_or}
use Rattle.mdv_replica.specs.Below.{Mark, Image, Area, range}
use Rattle.mdv_replica.specs.declared.forms.Gate.TheVariants.{Closed, Open}
use Rattle.mdv_replica.specs.declared.forms.Master.{Master}
use Rattle.mdv_replica.specs.declared.replica.PlaceAt.{PlaceAt}
use Rattle.mdv_replica.specs.declared.replica.Slot.{Slot}
use Rattle.mdv_replica.specs.Forms.{gate_text, block_of}
use Rattle.mdv_replica.specs.Replica.{gate_at, body_at, head_area, slot_area, claim_blocks, blank_master, formatted_blocks}

abbrev pub IsSame : Image → Image → Type 0
IsSame old new = (drive block : ℕ) → new drive block ≡ old drive block

abbrev pub SameOutside : Area → Image → Image → Type 0
SameOutside area old new = (drive block : ℕ) → area drive block ≡ false → new drive block ≡ old drive block

-- these blocks are written from that one on, and no other
pub record Overwrites (drive at : ℕ) (blocks : List (List ℕ)) (old new : Image) : Type 0 where
  pub elsewhere : SameOutside (range drive at (length blocks)) old new
  pub here : (k : ℕ) → k < length blocks → new drive (at + k) ≡ slice_index_or blocks k []

-- the place has another claim, or a blank master
abbrev pub Claims : PlaceAt → ℕ → Image → Image → Type 0
Claims at number = Overwrites at.drive.0 (at.first + 1) (claim_blocks number)

abbrev pub Wipes : PlaceAt → Image → Image → Type 0
Wipes at = Overwrites at.drive.0 at.first blank_master

-- a claim or a wipe that isn't done: all is as it was, or it is written
abbrev pub MayClaim : PlaceAt → ℕ → Image → Image → Type 0
MayClaim at number old new = IsSame old new ⊎ Claims at number old new

abbrev pub MayWipe : PlaceAt → Image → Image → Type 0
MayWipe at old new = IsSame old new ⊎ Wipes at old new

-- the place has this master, this claim, and closed gates
abbrev pub Formats : PlaceAt → Master → ℕ → Image → Image → Type 0
Formats at master claim = Overwrites at.drive.0 at.first (formatted_blocks master claim)

-- a format that isn't done: all is as it was, or the master is blank, or all four blocks are written
pub data MayFormat (at : PlaceAt) (master : Master) (claim : ℕ) (old new : Image) : Type 0 where
  untouched : IsSame old new → MayFormat at master claim old new
  blanked : SameOutside (head_area at) old new → new at.drive.0 at.first ≡ block_of [] → MayFormat at master claim old new
  formatted : Formats at master claim old new → MayFormat at master claim old new

-- the slot has this body, and its gate is open for it
pub record Fills (at : PlaceAt) (slot : Slot) (mark : Mark) (bytes : ℕ) (body : List (List ℕ)) (old new : Image) : Type 0 where
  pub elsewhere : SameOutside (slot_area at slot (length body)) old new
  pub opened : new at.drive.0 (gate_at at slot) ≡ block_of (gate_text (Open mark bytes))
  pub here : (k : ℕ) → k < length body → new at.drive.0 (body_at at slot + k) ≡ slice_index_or body k []

-- a slot's writing that isn't done: all is as it was, or the gate is closed, or body and gate are written
pub data MayFill (at : PlaceAt) (slot : Slot) (mark : Mark) (bytes : ℕ) (body : List (List ℕ)) (old new : Image) : Type 0 where
  untouched : IsSame old new → MayFill at slot mark bytes body old new
  closed : SameOutside (slot_area at slot (length body)) old new → new at.drive.0 (gate_at at slot) ≡ block_of (gate_text Closed) → MayFill at slot mark bytes body old new
  filled : Fills at slot mark bytes body old new → MayFill at slot mark bytes body old new
