-- What a replica shows, and what an image of the drives shows of a database's world.
use Rattle.std.specs.Prelude.{◌≡◌, ℕ, true, false, List, Option, None, Some}
use Rattle.mdv_shown.specs.Below.{IsBelow, Identity, Mark, SliceLine, gate_of, other_slot, text_of, Open, Master, Head, PlaceAt, Slot, Image, Core, place_at, table_at, Spot, SpotState, Version}
use Rattle.mdv_shown.specs.Site.{Site, place_on, spot_on}
use Rattle.mdv_shown.specs.Found.{IsOwn, IsOwnAt}

-- the slot's blocks say this table under this mark
pub record SlotShows {Table : Type 0} (Spells : List ℕ → Table → Type 0) (at : PlaceAt) (content : ℕ → List ℕ) (head : Head) (slot : Slot) (mark : Mark) (table : Table) : Type 0 where
  pub bytes : ℕ
  pub gate : gate_of head slot ≡ Open mark bytes
  pub text : Spells (text_of at slot bytes content) table

-- neither slot says a table
abbrev pub ShowsNone : {Table : Type 0} → (List ℕ → Table → Type 0) → PlaceAt → (ℕ → List ℕ) → Head → Type 0
ShowsNone {Table = Table} Spells at content head = (slot : Slot) (mark : Mark) (table : Table) → SlotShows Spells at content head slot mark table → ⊥

-- it is the newest one: the other slot says none, or one under a smaller mark
pub record IsNewestOf {Table : Type 0} (Spells : List ℕ → Table → Type 0) (at : PlaceAt) (content : ℕ → List ℕ) (head : Head) (slot : Slot) (mark : Mark) (table : Table) : Type 0 where
  pub shows : SlotShows Spells at content head slot mark table
  pub last : (other : Mark) (t : Table) → SlotShows Spells at content head (other_slot slot) other t → IsBelow other mark

-- the newest one is the family's table of this number; `tables` says what that table is
pub record HasNumber {Table : Type 0} (Spells : List ℕ → Table → Type 0) (tables : ℕ → Table) (family : List Version) (at : PlaceAt) (content : ℕ → List ℕ) (head : Head) (i : ℕ) : Type 0 where
  pub slot : Slot
  pub is : IsNewestOf Spells at content head slot (table_at family i).mark (tables i)

abbrev pub NewestIs : {Table : Type 0} → (List ℕ → Table → Type 0) → (ℕ → Table) → List Version → PlaceAt → (ℕ → List ℕ) → Head → Option ℕ → Type 0
NewestIs Spells tables family at content head None = ShowsNone Spells at content head
NewestIs Spells tables family at content head (Some i) = HasNumber Spells tables family at content head i

-- the place holds this replica
pub record IsPlaceWith {Table : Type 0} (Spells : List ℕ → Table → Type 0) (tables : ℕ → Table) (family : List Version) (at : PlaceAt) (content : ℕ → List ℕ) (head : Head) (x : SpotState) : Type 0 where
  pub holds : x.holds ≡ true
  pub claim : x.claim ≡ head.claim
  pub newest : NewestIs Spells tables family at content head x.newest

-- The image shows these places: each replica that is found is there, and no other. Mediators' blocks aren't read yet.
pub record ShowsPlaces {Table : Type 0} (Spells : List ℕ → Table → Type 0) (site : Site) (identity : Identity) (tables : ℕ → Table) (family : List Version) (places : List SpotState) (image : Image) : Type 0 where
  pub each : (line : SliceLine) (k : ℕ) (first : Master) (head : Head) → IsOwn Spells site identity line k image first head
      → IsPlaceWith Spells tables family (place_on line first.blocks first.count k) (image line.at.drive.0) head (place_at places (spot_on line first.blocks k))
  pub only : (p : Spot) → p.mediator ≡ false → (place_at places p).holds ≡ true → IsOwnAt Spells site identity image p
  pub seats : (p : Spot) → p.mediator ≡ true → (place_at places p).holds ≡ true → ⊥

-- The image shows the world. Which drives are lost is no part of that.
abbrev pub Shows : {Table : Type 0} → (List ℕ → Table → Type 0) → Site → Identity → (ℕ → Table) → Core → Image → Type 0
Shows Spells site identity tables w image = ShowsPlaces Spells site identity tables w.family w.places image
