-- How the blocks of a replica are spelled. Bytes of a block that no field has are zero.
use Rattle.std.specs.Prelude.{◌<◌, ◌^◌, ℕ, List, [], ◌∷◌, ◌++◌, length, codes}
use Rattle.byteorder.specs.Endian.{big_bytes}
use Rattle.mdv_replica.specs.Below.{padded_to, IsName, SliceName, Mark, Key, Local, Set}
use Rattle.mdv_replica.specs.declared.forms.Master.{Master}
use Rattle.mdv_replica.specs.declared.forms.Gate.{Gate}
use Rattle.mdv_replica.specs.declared.forms.Gate.TheVariants.{Closed, Open}

-- the name of a database: whose it is, the length of the name, and 32 bytes
abbrev pub key_text : Key → List ℕ
key_text (Local name) = 0 ∷ length name ∷ padded_to 32 name
key_text (Set name) = 1 ∷ length name ∷ padded_to 32 name

abbrev pub slice_bytes : SliceName → List ℕ
slice_bytes s = s.drive.controller ∷ s.drive.target ∷ s.drive.disk ∷ s.slice ∷ []

unfoldable pub master_text : Master → List ℕ
master_text m =
    codes "MDVREPL1" ++ big_bytes 8 m.identity.fresh ++ big_bytes 4 m.identity.number ++ key_text m.key ++ slice_bytes m.slice ++ big_bytes 4 m.start
    ++ big_bytes 4 m.blocks ++ m.index ∷ m.count ∷ []

unfoldable pub claim_text : ℕ → List ℕ
claim_text number = codes "MDVCLAIM" ++ big_bytes 8 number

-- a closed gate has no mark and no length
unfoldable pub gate_text : Gate → List ℕ
gate_text Closed = codes "MDVGATE1" ++ 0 ∷ [] ++ big_bytes 8 0 ++ big_bytes 8 0 ++ big_bytes 4 0
gate_text (Open mark bytes) = codes "MDVGATE1" ++ 1 ∷ [] ++ big_bytes 8 mark.boot ++ big_bytes 8 mark.count ++ big_bytes 4 bytes

abbrev pub block_of : List ℕ → List ℕ
block_of text = padded_to 512 text

abbrev pub name_of_key : Key → List ℕ
name_of_key (Local name) = name
name_of_key (Set name) = name

-- what a master block can say
pub record IsMaster (m : Master) : Type 0 where
  pub fresh : m.identity.fresh < 2 ^ 64
  pub number : m.identity.number < 2 ^ 32
  pub name : IsName (name_of_key m.key)
  pub controller : m.slice.drive.controller < 256
  pub target : m.slice.drive.target < 256
  pub disk : m.slice.drive.disk < 256
  pub slice : m.slice.slice < 256
  pub start : m.start < 2 ^ 32
  pub blocks : m.blocks < 2 ^ 32
  pub index : m.index < 256
  pub count : m.count < 256

-- claims and marks are below 2 ^ 63
pub record IsMark (mark : Mark) : Type 0 where
  pub boot : mark.boot < 2 ^ 63
  pub count : mark.count < 2 ^ 63

abbrev pub IsGate : Gate → Type 0
IsGate Closed = Unit {0}
IsGate (Open mark bytes) = IsMark mark × (bytes < 2 ^ 32)
