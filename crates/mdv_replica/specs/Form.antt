-- The form of a replica over the contents of its drive, for records of any kind: `Counts` says which text of a slot's
-- body counts as a record at a place.
use Rattle.std.specs.Prelude.{ℕ, ◌*◌, ◌≤◌, max, Bool, true, false, ◌||◌, List, length, map, take}
use Rattle.std.specs.List.{concat, range_with_len}
use Rattle.mdv_replica.specs.Below.{IsBelow, Identity, Mark, Key, Place}
use Rattle.mdv_replica.specs.declared.forms.Gate.{Gate}
use Rattle.mdv_replica.specs.declared.forms.Gate.TheVariants.{Closed, Open}
use Rattle.mdv_replica.specs.declared.replica.PlaceAt.{PlaceAt}
use Rattle.mdv_replica.specs.declared.replica.Head.{Head}
use Rattle.mdv_replica.specs.declared.replica.Slot.{Slot}
use Rattle.mdv_replica.specs.declared.replica.Slot.TheVariants.{First, Second}
use Rattle.mdv_replica.specs.Forms.{IsMark}
use Rattle.mdv_replica.specs.Replica.{IsHead, body_at, slot_blocks, with_blocks, master_of}

-- so many blocks of the contents, from that one on, one behind another
unfoldable pub bytes_of : (ℕ → List ℕ) → ℕ → ℕ → List ℕ
bytes_of content at count = concat (map content (range_with_len at count))

-- how many bytes a slot has room for, in a place of that length
abbrev pub room_of : ℕ → ℕ
room_of blocks = 512 * slot_blocks blocks

-- the text of a slot of which so many bytes count: the front of its body
abbrev pub text_of : PlaceAt → Slot → ℕ → (ℕ → List ℕ) → List ℕ
text_of at slot bytes content = take bytes (bytes_of content (body_at at slot) (slot_blocks at.place.blocks))

-- a closed gate fits; an open one where no more bytes count than the slot has room for, and its text counts
abbrev pub SlotFits : (Place → List ℕ → Type 0) → PlaceAt → Slot → Gate → (ℕ → List ℕ) → Type 0
SlotFits Counts at slot Closed content = Unit {0}
SlotFits Counts at slot (Open mark bytes) content = (bytes ≤ room_of at.place.blocks) × Counts at.place (text_of at slot bytes content)

-- a replica is readable: its head is spelled there, and both slots fit the place of the master's length
pub record IsReadable (Counts : Place → List ℕ → Type 0) (at : PlaceAt) (size : ℕ) (content : ℕ → List ℕ) (head : Head) : Type 0 where
  pub of_head : IsHead at size content head
  pub of_first : SlotFits Counts (with_blocks at head.master.blocks) First head.first content
  pub of_second : SlotFits Counts (with_blocks at head.master.blocks) Second head.second content

-- what is written to a slot of a place: a mark, and a body of which so many bytes count, as a record
pub record IsTable (Counts : Place → List ℕ → Type 0) (at : PlaceAt) (mark : Mark) (bytes : ℕ) (body : List (List ℕ)) : Type 0 where
  pub of_mark : IsMark mark
  pub in_slot : length body ≤ slot_blocks at.place.blocks
  pub in_room : bytes ≤ room_of at.place.blocks
  pub in_body : bytes ≤ length (concat body)
  pub as_record : Counts at.place (take bytes (concat body))

-- no head is spelled there, so that no replica is readable
abbrev pub HasNoHead : PlaceAt → ℕ → (ℕ → List ℕ) → Type 0
HasNoHead at size content = (head : Head) → IsHead at size content head → ⊥

abbrev pub is_open : Gate → Bool
is_open Closed = false
is_open (Open mark bytes) = true

-- the replica shows a table
abbrev pub shows : Head → Bool
shows head = is_open head.first || is_open head.second

abbrev pub other_slot : Slot → Slot
other_slot First = Second
other_slot Second = First

abbrev pub gate_of : Head → Slot → Gate
gate_of head First = head.first
gate_of head Second = head.second

-- a head with this gate in that slot, and one with this claim
abbrev pub with_slot : Head → Slot → Gate → Head
with_slot head First gate = record head { first = gate }
with_slot head Second gate = record head { second = gate }

abbrev pub with_claim : Head → ℕ → Head
with_claim head number = record head { claim = number }

-- the head of a formatted replica
abbrev pub formatted_head : PlaceAt → Key → Identity → ℕ → Head
formatted_head at key identity claim = record { master = master_of at key identity; claim = claim; first = Closed; second = Closed }

-- an open gate, beside one that is closed or whose mark isn't greater
abbrev pub IsNewestGate : Gate → Gate → Type 0
IsNewestGate Closed other = ⊥
IsNewestGate (Open mark bytes) Closed = Unit {0}
IsNewestGate (Open mark bytes) (Open other more) = IsBelow mark other → ⊥

-- the slot holds the newest table, the one with the greatest mark
abbrev pub IsNewest : Head → Slot → Type 0
IsNewest head slot = IsNewestGate (gate_of head slot) (gate_of head (other_slot slot))

-- a slot that doesn't hold the newest table: closed, or beside an open one that isn't older
abbrev pub IsSpare : Gate → Gate → Type 0
IsSpare Closed other = Unit {0}
IsSpare (Open mark bytes) Closed = ⊥
IsSpare (Open mark bytes) (Open other more) = IsBelow other mark → ⊥

abbrev pub IsSpareSlot : Head → Slot → Type 0
IsSpareSlot head slot = IsSpare (gate_of head slot) (gate_of head (other_slot slot))

abbrev pub boot_of : Gate → ℕ
boot_of Closed = 0
boot_of (Open mark bytes) = mark.boot

-- the greatest claim or boot number that the replica has
abbrev pub greatest : Head → ℕ
greatest head = max head.claim (max (boot_of head.first) (boot_of head.second))
