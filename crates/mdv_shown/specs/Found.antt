-- Which replicas a boot finds, whatever their records are: `Spells` says which text is a record of which table.
use Rattle.std.specs.Prelude.{◌≡◌, ◌⊎◌, ℕ, ◌+◌, ◌*◌, ◌<◌, ◌≤◌, List, Contains}
use Rattle.mdv_shown.specs.Below.{Identity, Place, SliceLine, IsReadable, IsMasterAt, Master, Head, Image, Spot}
use Rattle.mdv_shown.specs.Site.{Site, size_on, place_on, spot_on}

-- a text counts that is a record of some table, wherever it lies
abbrev pub Counts : {Table : Type 0} → (List ℕ → Table → Type 0) → Place → List ℕ → Type 0
Counts {Table = Table} Spells place text = (table : Table) × Spells text table

-- the replica of this number is readable, and as long as the slice's first master says
pub record IsInChain {Table : Type 0} (Spells : List ℕ → Table → Type 0) (site : Site) (line : SliceLine) (j : ℕ) (content : ℕ → List ℕ) (first : Master) (head : Head) : Type 0 where
  pub readable : IsReadable (Counts Spells) (place_on line first.blocks first.count j) (size_on site line) content head
  pub length : head.master.blocks ≡ first.blocks

-- A boot that looks at the slice finds this replica, number k there: the first master tells how many there are and how
-- long they are, each one before it is readable, and it ends within the slice.
pub record IsFound {Table : Type 0} (Spells : List ℕ → Table → Type 0) (site : Site) (line : SliceLine) (k : ℕ) (content : ℕ → List ℕ) (first : Master) (head : Head) : Type 0 where
  pub one_of : Contains site.lines line
  pub located : IsMasterAt (place_on line 8192 0 0) (size_on site line) (content (line.at.start + 16)) first
  pub numbered : (k ≡ 0) ⊎ (k < first.count)
  pub within : 16 + k * first.blocks + first.blocks ≤ line.at.blocks
  pub before : (j : ℕ) → j < k → (h : Head) × IsInChain Spells site line j content first h
  pub here : IsInChain Spells site line k content first head
  pub of_key : head.master.key ≡ site.key

-- and it is one of this database
pub record IsOwn {Table : Type 0} (Spells : List ℕ → Table → Type 0) (site : Site) (identity : Identity) (line : SliceLine) (k : ℕ) (image : Image) (first : Master) (head : Head) : Type 0 where
  pub found : IsFound Spells site line k (image line.at.drive.0) first head
  pub of_identity : head.master.identity ≡ identity

-- one is found at this spot
pub record IsOwnAt {Table : Type 0} (Spells : List ℕ → Table → Type 0) (site : Site) (identity : Identity) (image : Image) (p : Spot) : Type 0 where
  pub line : SliceLine
  pub number : ℕ
  pub first : Master
  pub head : Head
  pub own : IsOwn Spells site identity line number image first head
  pub spot : p ≡ spot_on line first.blocks number
