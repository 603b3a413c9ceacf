-- The replicas that a survey found, and where it looks for them.
use Rattle.std.specs.Prelude.{◌≡◌, ◌⊎◌, ℕ, ◌+◌, ◌*◌, ◌<◌, ◌≤◌, ◌^◌, true, List, [], ◌∷◌, ◌++◌, All, Contains}
use Rattle.mdv_survey.specs.Below.{AreDrives, Drives, Flags, Geometry, IsFormed, IsFound, IsTextOf, PlaceAt, Site, SliceLine, IsSite, has_drive, place_on, size_on}
use Rattle.mdv_survey.specs.declared.replica.Other.{Other}
use Rattle.mdv_survey.specs.declared.replica.Replica.{Replica}

-- where the replica lies
abbrev pub at_of : Replica → PlaceAt
at_of r = place_on r.line r.first.blocks r.first.count r.number

-- its place, with these letters, where it is no replica of the key
abbrev pub other_of : Replica → Flags → Other
other_of r flags = record { line = r.line; number = r.number; start = 16 + r.number * r.first.blocks; flags = flags }

-- The site lies on a shelf with drives of these sizes: its drives are the shelf's, and each slice ends within one of them.
pub record IsOnShelf (sizes : List ℕ) (site : Site) : Type 0 where
  pub site_is : IsSite site
  pub sizes_are : site.sizes ≡ sizes
  pub drives : AreDrives sizes site.drives
  pub brought : (line : SliceLine) → Contains site.lines line → Contains site.drives line.at.drive
  pub within : (line : SliceLine) → Contains site.lines line → line.at.start + line.at.blocks ≤ size_on site line
  pub small : (line : SliceLine) → Contains site.lines line → size_on site line < 2 ^ 64

-- the blocks of the drives, each drive by its number
abbrev pub Contents : Type 0
Contents = ℕ → ℕ → List ℕ

-- the replica is found where the drives have these blocks
abbrev pub IsFoundIn : Geometry → Site → Contents → Replica → Type 0
IsFoundIn g site content r = IsFound (IsTextOf g) site r.line r.number (content r.line.at.drive.0) r.first r.head

-- The replica lies on one of the slices, where one of its number may: its head is one of that place, and as long as the slice's first master says.
pub record IsSeated (site : Site) (r : Replica) : Type 0 where
  pub one_of : Contains site.lines r.line
  pub numbered : (r.number ≡ 0) ⊎ (r.number < r.first.count)
  pub within : 16 + r.number * r.first.blocks + r.first.blocks ≤ r.line.at.blocks
  pub formed : IsFormed (at_of r) (size_on site r.line) r.head
  pub length : r.head.master.blocks ≡ r.first.blocks

-- so it does on a drive that is up, and it is of the key
pub record IsListed (site : Site) (up : Drives) (r : Replica) : Type 0 where
  pub seated : IsSeated site r
  pub is_up : has_drive up r.line.at.drive ≡ true
  pub of_key : r.head.master.key ≡ site.key

-- the one slice comes before the other in the list
pub record ComesBefore (lines : List SliceLine) (a b : SliceLine) : Type 0 where
  pub before : List SliceLine
  pub behind : List SliceLine
  pub all : lines ≡ before ++ behind
  pub earlier : Contains before a
  pub later : Contains behind b

-- its slice comes before the other's, or it has the smaller number on the same slice
abbrev pub Precedes : List SliceLine → Replica → Replica → Type 0
Precedes lines a b = ComesBefore lines a.line b.line ⊎ ((a.line ≡ b.line) × (a.number < b.number))

-- in the order of their slices and numbers
abbrev pub AreOrdered : List SliceLine → List Replica → Type 0
AreOrdered lines [] = Unit {0}
AreOrdered lines (r ∷ rs) = All (Precedes lines r) rs × AreOrdered lines rs
