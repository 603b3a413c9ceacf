-- What a look at the head of a replica answers, from what the drive's blocks hold.
use Rattle.std.specs.Prelude.{◌≡◌, ◌⊎◌, ◌↔◌, ℕ, ◌+◌, ◌≤◌, ◌<◌, ◌^◌, Bool, true, false, not, IsTrue, List, [], length, slice_index_or, Some, None}
use Rattle.mdv_base.specs.Causes.{Failures}
use Rattle.mdv_base.specs.declared.flags.Flags.{Flags}
use Rattle.mdv_replica.specs.declared.forms.Master.{Master}
use Rattle.mdv_replica.specs.declared.forms.Gate.{Gate}
use Rattle.mdv_replica.specs.declared.replica.PlaceAt.{PlaceAt}
use Rattle.mdv_replica.specs.declared.replica.Head.{Head}
use Rattle.mdv_replica.specs.declared.looking.ClaimAndGates.{ClaimAndGates}
use Rattle.mdv_replica.specs.declared.looking.Seen.{Seen}
use Rattle.mdv_replica.specs.Forms.{master_text, claim_text, gate_text, block_of, IsMaster, IsGate}
use Rattle.mdv_replica.specs.Replica.{LiesAt, IsHead, with_blocks}

-- the block is this master, and it lies at this place
pub record IsMasterAt (at : PlaceAt) (size : ℕ) (block : List ℕ) (master : Master) : Type 0 where
  pub form : IsMaster master
  pub spelled : block ≡ block_of (master_text master)
  pub lies : LiesAt at size master

-- the three blocks are a claim and two gates
pub record AreClaimAndGates (one two three : List ℕ) (claim : ℕ) (first second : Gate) : Type 0 where
  pub claim_form : claim < 2 ^ 63
  pub claim_block : one ≡ block_of (claim_text claim)
  pub first_form : IsGate first
  pub first_block : two ≡ block_of (gate_text first)
  pub second_form : IsGate second
  pub second_block : three ≡ block_of (gate_text second)

-- so are the three behind the first of these blocks
abbrev pub AreBehindFirst : List (List ℕ) → ℕ → Gate → Gate → Type 0
AreBehindFirst blocks claim first second = AreClaimAndGates (slice_index_or blocks 1 []) (slice_index_or blocks 2 []) (slice_index_or blocks 3 []) claim first second

-- the head that they make with a master
abbrev pub head_with : Master → ClaimAndGates → Head
head_with master rest = record { master = master; claim = rest.claim; first = rest.first; second = rest.second }

-- the blocks are those of the contents from the first on
abbrev pub AreBlocksOf : (ℕ → List ℕ) → ℕ → List (List ℕ) → Type 0
AreBlocksOf content first blocks = (k : ℕ) → k < length blocks → slice_index_or blocks k [] ≡ content (first + k)

-- the drive has the three blocks behind the master, and they are a claim and two gates
pub record HasClaimAndGates (at : PlaceAt) (size : ℕ) (content : ℕ → List ℕ) : Type 0 where
  pub within : at.first + 4 ≤ size
  pub claim : ℕ
  pub first : Gate
  pub second : Gate
  pub are : AreClaimAndGates (content (at.first + 1)) (content (at.first + 2)) (content (at.first + 3)) claim first second

-- the letters of a head that was read: its master was of the form or not, and claim and gates were not or were
abbrev pub head_flags : Bool → Bool → Flags
head_flags located form_fault =
    record { active = false; master = false; updated = false; located = located; write_error = false; read_error = false; form_fault = form_fault; master_fault = not located; body_fault = false }

-- the answer where the read failed
abbrev pub unread_at : PlaceAt → Seen
unread_at at =
    record {
      place = at.place;
      flags = record { active = false; master = false; updated = false; located = false; write_error = false; read_error = true; form_fault = false; master_fault = false; body_fault = false };
      head = None;
    }

-- the answer where the read gave what the drive has of these contents' four blocks from the first on
pub record IsLook (at : PlaceAt) (size : ℕ) (content : ℕ → List ℕ) (seen : Seen) : Type 0 where
  pub located : IsTrue seen.flags.located ↔ ((master : Master) × IsMasterAt at size (content at.first) master)
  pub formed : (seen.flags.form_fault ≡ false) ↔ HasClaimAndGates at size content
  pub letters : seen.flags ≡ head_flags seen.flags.located seen.flags.form_fault
  pub sized : (master : Master) → IsMasterAt at size (content at.first) master → seen.place ≡ (with_blocks at master.blocks).place
  pub unsized : seen.flags.located ≡ false → seen.place ≡ at.place
  pub head : (spelled : Head) → (seen.head ≡ Some spelled) ↔ IsHead at size content spelled

-- the read failed exactly where the answer says so
abbrev pub HasLookCause : Failures → Bool → Type 0
HasLookCause failures true = failures.some
HasLookCause failures false = failures.none

-- the read failed, or the answer is what the blocks say
abbrev pub IsSeen : PlaceAt → ℕ → (ℕ → List ℕ) → Seen → Type 0
IsSeen at size content seen = (seen ≡ unread_at at) ⊎ IsLook at size content seen
