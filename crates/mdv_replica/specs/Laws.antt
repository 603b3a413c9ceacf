-- What a place shows while it is formatted, wiped, claimed and written, whatever its records are: `counts` tells which
-- text of a slot's body counts as a record at a place.
use Rattle.std.specs.Prelude.{◌≡◌, ◌⊎◌, ℕ, ◌<◌, ◌^◌, Bool, true, IsTrue, List, length}
use Rattle.mdv_replica.specs.Below.{Leaves, IsBelow, Identity, Mark, Key, Place, Tale}
use Rattle.mdv_replica.specs.declared.forms.Gate.{Gate}
use Rattle.mdv_replica.specs.declared.forms.Gate.TheVariants.{Closed, Open}
use Rattle.mdv_replica.specs.declared.replica.PlaceAt.{PlaceAt}
use Rattle.mdv_replica.specs.declared.replica.Head.{Head}
use Rattle.mdv_replica.specs.declared.replica.Slot.{Slot}
use Rattle.mdv_replica.specs.Forms.{IsMaster}
use Rattle.mdv_replica.specs.Replica.{IsHeadOf, IsHead, LiesAt, Claiming, IsClaimed, Wiping, IsWiped, Formatting, IsFormatted, SlotWriting, IsSlotWritten, master_of, master_area, claim_area, head_area, slot_area}
use Rattle.mdv_replica.specs.Form.{IsReadable, IsTable, HasNoHead, IsNewest, IsSpareSlot, shows, gate_of, other_slot, formatted_head, with_slot, with_claim}
use Rattle.mdv_replica.specs.Images.{IsSame, SameOutside}

-- four blocks spell one head at most
abbrev pub OneHead : Type 0
OneHead = (at : PlaceAt) (size : ℕ) (zero one two three : List ℕ) (a b : Head) → IsHeadOf at size zero one two three a → IsHeadOf at size zero one two three b → a ≡ b

-- a place is formatted
pub record FormatsShow : Type 0 where
  -- at each moment it is as it was, or has no readable replica, or has the new one, which shows no table
  pub moments : (at : PlaceAt) (key : Key) (identity : Identity) (claim size : ℕ) (t m : Tale) → IsMaster (master_of at key identity) → LiesAt at size (master_of at key identity) → claim < 2 ^ 63 → Formatting at (master_of at key identity) claim t m
      → Leaves (λ old new. SameOutside (head_area at) old new × (IsSame old new ⊎ (HasNoHead at size (new at.drive.0) ⊎ IsHead at size (new at.drive.0) (formatted_head at key identity claim)))) t m
  -- in the end it has the new one
  pub end : (at : PlaceAt) (key : Key) (identity : Identity) (claim size : ℕ) (t u : Tale) → IsMaster (master_of at key identity) → LiesAt at size (master_of at key identity) → claim < 2 ^ 63 → Formatting at (master_of at key identity) claim t u
      → IsFormatted at (master_of at key identity) claim u → Leaves (λ old new. SameOutside (head_area at) old new × IsHead at size (new at.drive.0) (formatted_head at key identity claim)) t u

-- a place is wiped
pub record WipesShow : Type 0 where
  -- at each moment it is as it was, or has no readable replica
  pub moments : (at : PlaceAt) (size : ℕ) (t m : Tale) → Wiping at t m → Leaves (λ old new. SameOutside (master_area at) old new × (IsSame old new ⊎ HasNoHead at size (new at.drive.0))) t m
  -- in the end it has none
  pub end : (at : PlaceAt) (size : ℕ) (t u : Tale) → Wiping at t u → IsWiped at u → Leaves (λ old new. SameOutside (master_area at) old new × HasNoHead at size (new at.drive.0)) t u

-- the texts that pass a test count
abbrev pub Passes : (Place → List ℕ → Bool) → Place → List ℕ → Type 0
Passes counts place text = IsTrue (counts place text)

-- a claim is written to a place
pub record ClaimsShow : Type 0 where
  -- at each moment each replica that was readable is, with the old claim or the new one
  pub moments : (counts : Place → List ℕ → Bool) (at : PlaceAt) (number size : ℕ) (t m : Tale) → number < 2 ^ 63 → Claiming at number t m
      → Leaves (λ old new. SameOutside (claim_area at) old new
      × ((head : Head) → IsReadable (Passes counts) at size (old at.drive.0) head
      → IsReadable (Passes counts) at size (new at.drive.0) head ⊎ IsReadable (Passes counts) at size (new at.drive.0) (with_claim head number))) t m
  -- in the end with the new one
  pub end : (counts : Place → List ℕ → Bool) (at : PlaceAt) (number size : ℕ) (t u : Tale) → number < 2 ^ 63 → Claiming at number t u → IsClaimed at number u
      → Leaves (λ old new. SameOutside (claim_area at) old new
      × ((head : Head) → IsReadable (Passes counts) at size (old at.drive.0) head → IsReadable (Passes counts) at size (new at.drive.0) (with_claim head number))) t u

-- a table is written to a slot of a place, and the other slot stays as it is
pub record SlotsShow : Type 0 where
  -- at each moment each replica of that length that was readable is, with this slot as it was, or closed, or with the table
  pub moments : (counts : Place → List ℕ → Bool) (at : PlaceAt) (slot : Slot) (mark : Mark) (bytes : ℕ) (body : List (List ℕ)) (size : ℕ) (t m : Tale) → IsTable (Passes counts) at mark bytes body → SlotWriting at slot mark bytes body t m
      → Leaves (λ old new. SameOutside (slot_area at slot (length body)) old new
      × ((head : Head) → head.master.blocks ≡ at.place.blocks → IsReadable (Passes counts) at size (old at.drive.0) head
      → IsReadable (Passes counts) at size (new at.drive.0) head
      ⊎ (IsReadable (Passes counts) at size (new at.drive.0) (with_slot head slot Closed) ⊎ IsReadable (Passes counts) at size (new at.drive.0) (with_slot head slot (Open mark bytes))))) t m
  -- in the end with the table
  pub end : (counts : Place → List ℕ → Bool) (at : PlaceAt) (slot : Slot) (mark : Mark) (bytes : ℕ) (body : List (List ℕ)) (size : ℕ) (t u : Tale) → IsTable (Passes counts) at mark bytes body → SlotWriting at slot mark bytes body t u
      → IsSlotWritten at slot mark bytes body u
      → Leaves (λ old new. SameOutside (slot_area at slot (length body)) old new
      × ((head : Head) → head.master.blocks ≡ at.place.blocks → IsReadable (Passes counts) at size (old at.drive.0) head → IsReadable (Passes counts) at size (new at.drive.0) (with_slot head slot (Open mark bytes)))) t u

-- the newest table of a replica, and the slot that takes the next one
pub record NewestStays : Type 0 where
  -- where both slots hold the newest table they have one mark
  pub one : (head : Head) (a b : Slot) (mark other : Mark) (bytes more : ℕ) → IsNewest head a → IsNewest head b → gate_of head a ≡ Open mark bytes → gate_of head b ≡ Open other more → mark ≡ other
  -- beside a spare slot the other one holds it, also once the spare slot is closed; and while that is written, a table is shown
  pub beside : (head : Head) (slot : Slot) → IsSpareSlot head slot → shows head ≡ true → IsNewest head (other_slot slot)
  pub closed : (head : Head) (slot : Slot) → IsSpareSlot head slot → shows head ≡ true → IsNewest (with_slot head slot Closed) (other_slot slot)
  pub shown : (head : Head) (slot : Slot) (gate : Gate) → IsSpareSlot head slot → shows head ≡ true → shows (with_slot head slot gate) ≡ true
  -- a table under a mark that the other slot has none above of is the newest
  pub above : (head : Head) (slot : Slot) (mark : Mark) (bytes : ℕ) → ((other : Mark) (more : ℕ) → gate_of head (other_slot slot) ≡ Open other more → IsBelow mark other → ⊥) → IsNewest (with_slot head slot (Open mark bytes)) slot
