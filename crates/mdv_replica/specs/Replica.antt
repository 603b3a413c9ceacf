-- A replica at its place: what its head says, and what calls on it do at each moment.
use Rattle.std.specs.Prelude.{◌≡◌, ◌⊎◌, ℕ, ◌+◌, ◌-◌, ◌/◌, ◌≤◌, ◌<◌, ◌^◌, List, [], ◌∷◌, length, slice_index_or, Result}
use Rattle.mdv_base.specs.Causes.{HasCause}
use Rattle.mdv_replica.specs.Below.{Identity, Mark, Key, Tale, MayLeave, told, Area, range, joined, KeptOutside, Settling, IsSettled, IsFixed}
use Rattle.mdv_replica.specs.declared.forms.Master.{Master}
use Rattle.mdv_replica.specs.declared.forms.Gate.TheVariants.{Closed, Open}
use Rattle.mdv_replica.specs.declared.replica.PlaceAt.{PlaceAt}
use Rattle.mdv_replica.specs.declared.replica.Head.{Head}
use Rattle.mdv_replica.specs.declared.replica.Slot.{Slot}
use Rattle.mdv_replica.specs.declared.replica.Slot.TheVariants.{First, Second}
use Rattle.mdv_replica.specs.Forms.{master_text, claim_text, gate_text, block_of, IsMaster, IsGate}

-- how many blocks a slot has: half of what four blocks of head leave
abbrev pub slot_blocks : ℕ → ℕ
slot_blocks blocks = (blocks - 4) / 2

-- where the gate and the body of a slot lie on the drive
abbrev pub gate_at : PlaceAt → Slot → ℕ
gate_at at First = at.first + 2
gate_at at Second = at.first + 3

abbrev pub body_at : PlaceAt → Slot → ℕ
body_at at First = at.first + 4
body_at at Second = at.first + 4 + slot_blocks at.place.blocks

-- the same place with this length
abbrev pub with_blocks : PlaceAt → ℕ → PlaceAt
with_blocks at blocks = record at { place = record at.place { blocks = blocks } }

-- the place is large enough for a head and ends within the drive
pub record IsPlaced (sizes : List ℕ) (at : PlaceAt) : Type 0 where
  pub drive : at.drive.0 < length sizes
  pub least : 16 ≤ at.place.blocks
  pub within : at.first + at.place.blocks ≤ slice_index_or sizes at.drive.0 0
  pub size : slice_index_or sizes at.drive.0 0 < 2 ^ 64

-- the master of this place in a database
abbrev pub master_of : PlaceAt → Key → Identity → Master
master_of at key identity =
    record { identity = identity; key = key; slice = at.place.slice; start = at.place.start; blocks = at.place.blocks; index = at.index; count = at.count }

-- a master names the place where it was read, with a length that a replica may have there, on a drive of this size: the
-- place's blocks are the most
pub record LiesAt (at : PlaceAt) (size : ℕ) (master : Master) : Type 0 where
  pub slice : master.slice ≡ at.place.slice
  pub start : master.start ≡ at.place.start
  pub least : 16 ≤ master.blocks
  pub most : master.blocks ≤ 8192
  pub in_place : master.blocks ≤ at.place.blocks
  pub within : at.first + master.blocks ≤ size

-- what a head can say there
pub record IsFormed (at : PlaceAt) (size : ℕ) (head : Head) : Type 0 where
  pub of_master : IsMaster head.master
  pub of_place : LiesAt at size head.master
  pub of_claim : head.claim < 2 ^ 63
  pub of_first : IsGate head.first
  pub of_second : IsGate head.second

-- the head that four blocks spell there: a master, a claim and two gates
pub record IsHeadOf (at : PlaceAt) (size : ℕ) (zero one two three : List ℕ) (head : Head) : Type 0 where
  pub master : IsMaster head.master
  pub master_block : zero ≡ block_of (master_text head.master)
  pub lies : LiesAt at size head.master
  pub claim : head.claim < 2 ^ 63
  pub claim_block : one ≡ block_of (claim_text head.claim)
  pub first : IsGate head.first
  pub first_block : two ≡ block_of (gate_text head.first)
  pub second : IsGate head.second
  pub second_block : three ≡ block_of (gate_text head.second)

-- the head that a drive's blocks spell at a place
abbrev pub IsHead : PlaceAt → ℕ → (ℕ → List ℕ) → Head → Type 0
IsHead at size content head = IsHeadOf at size (content at.first) (content (at.first + 1)) (content (at.first + 2)) (content (at.first + 3)) head

-- The areas of a place: its master, its claim, the four blocks of its head, and the gate and so many blocks of the
-- body of a slot.
abbrev pub master_area : PlaceAt → Area
master_area at = range at.drive.0 at.first 1

abbrev pub claim_area : PlaceAt → Area
claim_area at = range at.drive.0 (at.first + 1) 1

abbrev pub head_area : PlaceAt → Area
head_area at = range at.drive.0 at.first 4

abbrev pub slot_area : PlaceAt → Slot → ℕ → Area
slot_area at slot count = joined (range at.drive.0 (gate_at at slot) 1) (range at.drive.0 (body_at at slot) count)

-- what is written: a claim; no master; a claim and two closed gates, or a master in front of them
abbrev pub claim_blocks : ℕ → List (List ℕ)
claim_blocks number = block_of (claim_text number) ∷ []

abbrev pub blank_master : List (List ℕ)
blank_master = block_of [] ∷ []

abbrev pub formatted_rest : ℕ → List (List ℕ)
formatted_rest claim = block_of (claim_text claim) ∷ block_of (gate_text Closed) ∷ block_of (gate_text Closed) ∷ []

abbrev pub formatted_blocks : Master → ℕ → List (List ℕ)
formatted_blocks master claim = block_of (master_text master) ∷ formatted_rest claim

-- a claim is written to the place, and is on the disk in the end
abbrev pub Claiming : PlaceAt → ℕ → Tale → Tale → Type 0
Claiming at number = Settling at.drive.0 (at.first + 1) (claim_blocks number)

abbrev pub IsClaimed : PlaceAt → ℕ → Tale → Type 0
IsClaimed at number u = IsSettled at.drive.0 (at.first + 1) (claim_blocks number) u

-- its master is blanked
abbrev pub Wiping : PlaceAt → Tale → Tale → Type 0
Wiping at = Settling at.drive.0 at.first blank_master

abbrev pub IsWiped : PlaceAt → Tale → Type 0
IsWiped at u = IsSettled at.drive.0 at.first blank_master u

-- a crash leaves in the block only these
abbrev pub LeavesOnly : Tale → ℕ → ℕ → (List ℕ → Type 0) → Type 0
LeavesOnly m drive block P = (x : List ℕ) → MayLeave m drive block x → P x

-- three stretches of calls, one behind another
pub data Stretch (A B C : Type 0) : Type 0 where
  starting : A → Stretch A B C
  between : B → Stretch A B C
  ending : C → Stretch A B C

-- A master that is blanked, and written again once claim and gates are on the disk: a crash leaves all
-- as before, but for a master that may be blank; or the master is blank; or claim and gates are as they
-- will be, under a master that is blank or as it will be.
pub record Formatting (at : PlaceAt) (master : Master) (claim : ℕ) (t m : Tale) : Type 0 where
  pub outside : KeptOutside (head_area at) t m
  pub quiet : told m ≡ told t
  pub stretch : Stretch
      (LeavesOnly m at.drive.0 at.first (λ x. MayLeave t at.drive.0 at.first x ⊎ (x ≡ block_of [])) × KeptOutside (master_area at) t m)
      (LeavesOnly m at.drive.0 at.first (λ x. x ≡ block_of []))
      (LeavesOnly m at.drive.0 at.first (λ x. (x ≡ block_of []) ⊎ (x ≡ block_of (master_text master))) × IsFixed at.drive.0 (at.first + 1) (formatted_rest claim) m)

-- the master is of its form, and a format fails only where the count of failures rose
pub record IsFormatAnswer {T E : Type 0} (before now : ℕ) (master : Master) (result : Result T E) : Type 0 where
  pub form : IsMaster master
  pub cause : HasCause before now result

-- in the end all four blocks are on the disk
abbrev pub IsFormatted : PlaceAt → Master → ℕ → Tale → Type 0
IsFormatted at master claim u = IsSettled at.drive.0 at.first (formatted_blocks master claim) u

-- A slot whose gate is closed, and opened again once the body is on the disk: a crash leaves the slot as
-- before, but for a gate that may be closed; or the gate is closed; or the body is as it will be, under a
-- gate that is closed or open for it.
pub record SlotWriting (at : PlaceAt) (slot : Slot) (mark : Mark) (bytes : ℕ) (body : List (List ℕ)) (t m : Tale) : Type 0 where
  pub outside : KeptOutside (slot_area at slot (length body)) t m
  pub quiet : told m ≡ told t
  pub stretch : Stretch
      (LeavesOnly m at.drive.0 (gate_at at slot) (λ x. MayLeave t at.drive.0 (gate_at at slot) x ⊎ (x ≡ block_of (gate_text Closed))) × KeptOutside (range at.drive.0 (gate_at at slot) 1) t m)
      (LeavesOnly m at.drive.0 (gate_at at slot) (λ x. x ≡ block_of (gate_text Closed)))
      (LeavesOnly m at.drive.0 (gate_at at slot) (λ x. (x ≡ block_of (gate_text Closed)) ⊎ (x ≡ block_of (gate_text (Open mark bytes)))) × IsFixed at.drive.0 (body_at at slot) body m)

-- in the end the slot holds the body under its mark, and all that the drive was given is on the disk
pub record IsSlotWritten (at : PlaceAt) (slot : Slot) (mark : Mark) (bytes : ℕ) (body : List (List ℕ)) (u : Tale) : Type 0 where
  pub gate_settled : IsSettled at.drive.0 (gate_at at slot) (block_of (gate_text (Open mark bytes)) ∷ []) u
  pub body_settled : IsSettled at.drive.0 (body_at at slot) body u
