-- The places of a slice that a look comes to, and what it sees where no replica of the key is found.
use Rattle.std.specs.Prelude.{◌≡◌, ◌⊎◌, ◌↔◌, ℕ, ◌+◌, ◌-◌, ◌*◌, ◌<◌, ◌≤◌, min, true, false, not, Bool, IsTrue, List, Contains}
use Rattle.mdv_replica.specs.Seen.{HasClaimAndGates}
use Rattle.mdv_survey.specs.Below.{Flags, Geometry, Head, IsHead, IsInChain, IsMasterAt, IsTextOf, Master, PlaceAt, Site, SliceLine, place_on, size_on, with_blocks}
use Rattle.mdv_survey.specs.Replica.{Contents, IsFoundIn}
use Rattle.mdv_survey.specs.Slots.{BothFit}
use Rattle.mdv_survey.specs.declared.replica.Other.{Other}
use Rattle.mdv_survey.specs.declared.replica.Replica.{Replica}

-- where a slice's first replica lies, with the most blocks that it may have
abbrev pub first_at : SliceLine → ℕ → PlaceAt
first_at line most = record {
  place = record { slice = line.name; start = 16; blocks = most };
  drive = line.at.drive;
  first = line.at.start + 16;
  index = 0;
  count = 0;
}

-- no more than end within the slice
abbrev pub most_on : SliceLine → ℕ
most_on line = min 8192 (line.at.blocks - 16)

-- the slice has this first master, and each replica before that number is readable and ends within the slice
pub record IsAhead (g : Geometry) (site : Site) (line : SliceLine) (first : Master) (number : ℕ) (content : ℕ → List ℕ) : Type 0 where
  pub located : IsMasterAt (place_on line 8192 0 0) (size_on site line) (content (line.at.start + 16)) first
  pub before : (j : ℕ) → j < number → (h : Head) × IsInChain (IsTextOf g) site line j content first h
  pub within : 16 + number * first.blocks ≤ line.at.blocks

-- behind the first one, where the first master tells of so many
pub record IsReached (g : Geometry) (site : Site) (line : SliceLine) (first : Master) (number : ℕ) (content : ℕ → List ℕ) : Type 0 where
  pub ahead : IsAhead g site line first number content
  pub behind : 0 < number
  pub numbered : number < first.count

-- a look at the slice comes to this place, the one of that number: the first one, whatever is there, or one that is reached
abbrev pub ComesTo : Geometry → Site → SliceLine → ℕ → (ℕ → List ℕ) → PlaceAt → Type 0
ComesTo g site line number content at =
    ((number ≡ 0) × (at ≡ first_at line (most_on line))) ⊎ ((first : Master) × IsReached g site line first number content × (at ≡ place_on line first.blocks first.count number))

-- the letters of a look, and the master's alone
abbrev pub seen_flags : Bool → Bool → Bool → Bool → Flags
seen_flags located form_fault master_fault body_fault =
    record { active = false; master = false; updated = false; located = located; write_error = false; read_error = false; form_fault = form_fault; master_fault = master_fault; body_fault = body_fault }

abbrev pub master_alone : Flags
master_alone = seen_flags false false true false

-- of a place without a head, and of one with it
abbrev pub unread_flags : Bool → Bool → Flags
unread_flags located form_fault = seen_flags located form_fault (not located) false

abbrev pub headed_flags : Bool → Flags
headed_flags body_fault = seen_flags true false false body_fault

-- the first place of a slice
abbrev pub first_of : SliceLine → Flags → Other
first_of line flags = record { line = line; number = 0; start = 16; flags = flags }

-- the first replica may have any length, each further one just that of its place
abbrev pub IsLong : ℕ → PlaceAt → ℕ → Type 0
IsLong number at blocks = (number ≡ 0) ⊎ (blocks ≡ at.place.blocks)

-- By the blocks: whether a master of such a length lies there, claim and gates are behind it, and a head of such a length has slots that don't both fit.
pub record AreSeen (g : Geometry) (at : PlaceAt) (size number : ℕ) (content : ℕ → List ℕ) (flags : Flags) : Type 0 where
  pub letters : flags ≡ seen_flags flags.located flags.form_fault (not flags.located) flags.body_fault
  pub located : IsTrue flags.located ↔ ((master : Master) × IsMasterAt at size (content at.first) master × IsLong number at master.blocks)
  pub formed : (flags.form_fault ≡ false) ↔ HasClaimAndGates at size content
  pub bodies : IsTrue flags.body_fault ↔ ((head : Head) × IsHead at size content head × IsLong number at head.master.blocks × (BothFit g (with_blocks at head.master.blocks) head content → ⊥))

-- of a place that would end behind the slice the master's letter alone
abbrev pub AreLetters : Geometry → Site → SliceLine → ℕ → (ℕ → List ℕ) → PlaceAt → Flags → Type 0
AreLetters g site line number content at flags =
    ((line.at.blocks < at.place.start + at.place.blocks) × (flags ≡ master_alone)) ⊎ ((at.place.start + at.place.blocks ≤ line.at.blocks) × AreSeen g at (size_on site line) number content flags)

-- a look comes to the place, and finds no replica of the key there
pub record IsOtherIn (g : Geometry) (site : Site) (content : Contents) (other : Other) : Type 0 where
  pub one_of : Contains site.lines other.line
  pub at : PlaceAt
  pub comes : ComesTo g site other.line other.number (content other.line.at.drive.0) at
  pub start : other.start ≡ at.place.start
  pub letters : AreLetters g site other.line other.number (content other.line.at.drive.0) at other.flags
  pub never : (r : Replica) → r.line ≡ other.line → r.number ≡ other.number → IsFoundIn g site content r → ⊥

-- a replica or another place has that number on the slice
abbrev pub IsNumberTold : List Replica → List Other → SliceLine → ℕ → Type 0
IsNumberTold replicas others line number =
    ((r : Replica) × Contains replicas r × (r.line ≡ line) × (r.number ≡ number)) ⊎ ((o : Other) × Contains others o × (o.line ≡ line) × (o.number ≡ number))
