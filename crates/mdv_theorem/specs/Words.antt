-- What lines show of a database and of a volume: that they are there, that the volume's blocks may be read, where it lies, and what its blocks may have. Further commands and kinds of
-- volumes widen these words.
use Rattle.std.specs.Prelude.{◌≡◌, ◌⊎◌, ◌<◌, ℕ, List, [], ◌∷◌, ◌++◌, filter, flat_map, is_some, not, replicate, Contains, false, true, Bool}
use Rattle.std.specs.List.{list_any}
use Rattle.mdv_base.specs.declared.drive.SliceName.{SliceName}
use Rattle.mdv_base.specs.declared.name.Named.TheVariants as named
use Rattle.mdv_base.specs.declared.name.VolId.{VolId}
use Rattle.mdv_base.specs.declared.refusal.Refusal.{Refusal}
use Rattle.mdv_change.specs.declared.change.Change.{Change}
use Rattle.mdv_config.specs.Lists.{with_lists}
use Rattle.mdv_engine_law.specs.Altering.{Alters}
use Rattle.mdv_engine_law.specs.Replies.{ok_line, refusal_line}
use Rattle.mdv_home.specs.View.{own_view}
use Rattle.mdv_keeping.specs.Keeping.{IsStepOf}
use Rattle.mdv_map.specs.Maps.{HasDriveBlock, Map}
use Rattle.mdv_name.specs.SliceIndex.{same_slice, slice_at}
use Rattle.mdv_name.specs.declared.geometry.Geometry.{Geometry}
use Rattle.mdv_plan.specs.Table.{empty_table}
use Rattle.mdv_plan.specs.declared.lists.Lists.{Lists}
use Rattle.mdv_plan.specs.declared.table.Table.{Table}
use Rattle.mdv_shelf.specs.Everywhere.{Image}
use Rattle.mdv_volumes.specs.Tables.{IsMapOf}
use Rattle.mdv_words.specs.declared.command.Alteration.{Alteration}
use Rattle.mdv_words.specs.declared.command.Alteration.TheVariants.{Attach, Clear, ClearAll, Make}
use Rattle.mdv_words.specs.declared.command.Command.{Command}
use Rattle.mdv_words.specs.declared.command.Command.TheVariants.{AddListed, AddPlaces, Alter, DropPlaces, Print, Read, Write}
use Rattle.mdv_theorem.specs.Exchanges.{Asks, Exchange, IsGranted, IsSameBlock, IsTold, MayBeWritten, MayHaveBegun, ShowsThere}

-- the volume is one of those that go; none lies below another yet
abbrev pub Clears : VolId → Alteration → Type 0
Clears volume (Make entry) = ⊥
Clears volume (Attach other row) = ⊥
Clears volume (Clear names below) = Contains names (named.Volume volume)
Clears volume ClearAll = Unit {0}

-- the command may take the volume away: it clears it, or its database may go, where places are dropped with force
abbrev pub TakesAway : VolId → Command → Type 0
TakesAway volume (AddPlaces slices force count blocks) = ⊥
TakesAway volume (AddListed number force) = ⊥
TakesAway volume (DropPlaces slices force) = force ≡ true
TakesAway volume (Alter alteration) = Clears volume alteration
TakesAway volume (Read other at count) = ⊥
TakesAway volume (Write other at what) = ⊥
TakesAway volume (Print names) = ⊥

-- the line may have taken the volume away
pub record MayTakeAway (volume : VolId) (one : Exchange) : Type 0 where
  pub command : Command
  pub asks : Asks one command
  pub takes : TakesAway volume command
  pub begun : MayHaveBegun one

-- one of these lines shows the volume to be there, and none behind it may have taken it away
pub record IsThere (volume : VolId) (lines : List Exchange) : Type 0 where
  pub shown : Exchange
  pub before : List Exchange
  pub behind : List Exchange
  pub parts : lines ≡ before ++ shown ∷ behind
  pub shows : ShowsThere volume shown
  pub stays : (one : Exchange) → Contains behind one → MayTakeAway volume one → ⊥

-- the volume's blocks have begun to have values: they have as soon as it is there
abbrev pub HasBegun : VolId → List Exchange → Type 0
HasBegun volume lines = IsThere volume lines

-- the command may take the database away: places are dropped with force, without which the last ones stay
abbrev pub TakesDatabase : Command → Type 0
TakesDatabase (AddPlaces slices force count blocks) = ⊥
TakesDatabase (AddListed number force) = ⊥
TakesDatabase (DropPlaces slices force) = force ≡ true
TakesDatabase (Alter alteration) = ⊥
TakesDatabase (Read volume at count) = ⊥
TakesDatabase (Write volume at what) = ⊥
TakesDatabase (Print names) = ⊥

-- the line may have taken the database away
pub record MayTakeDatabase (one : Exchange) : Type 0 where
  pub command : Command
  pub asks : Asks one command
  pub takes : TakesDatabase command
  pub begun : MayHaveBegun one

-- none of these lines may have
abbrev pub KeepsDatabase : List Exchange → Type 0
KeepsDatabase lines = (one : Exchange) → Contains lines one → MayTakeDatabase one → ⊥

-- the command is done with a database alone, or makes one, and leaves it there: each, but that which drops places with force
abbrev pub NeedsDatabase : Command → Type 0
NeedsDatabase (AddPlaces slices force count blocks) = Unit {0}
NeedsDatabase (AddListed number force) = Unit {0}
NeedsDatabase (DropPlaces slices force) = force ≡ false
NeedsDatabase (Alter alteration) = Unit {0}
NeedsDatabase (Read volume at count) = Unit {0}
NeedsDatabase (Write volume at what) = Unit {0}
NeedsDatabase (Print names) = Unit {0}

-- the command makes a database, or adds replicas to one, where it is told `ok`
abbrev pub MakesDatabase : Command → Type 0
MakesDatabase (AddPlaces slices force count blocks) = Unit {0}
MakesDatabase (AddListed number force) = Unit {0}
MakesDatabase other = ⊥

-- one of these lines made a database, or was done with one, as it was told, and none behind it may have taken it away
pub record HasDatabase (lines : List Exchange) : Type 0 where
  pub shown : Exchange
  pub command : Command
  pub before : List Exchange
  pub behind : List Exchange
  pub parts : lines ≡ before ++ shown ∷ behind
  pub asks : Asks shown command
  pub needs : NeedsDatabase command
  pub granted : IsGranted shown command
  pub stays : (one : Exchange) → Contains behind one → MayTakeDatabase one → ⊥

-- so many of each of these slices
abbrev pub spread : ℕ → List SliceName → List SliceName
spread count slices = flat_map (λ (slice : SliceName). replicate count slice) slices

-- the line was refused
abbrev pub IsRefused : Exchange → Type 0
IsRefused one = (refusal : Refusal) × IsTold one (refusal_line refusal)

-- The line was told to have made a database with so many replicas on each of these slices: those before that ask one were refused.
pub record IsMadeBy (before : List Exchange) (made : Exchange) (slices : List SliceName) (count : ℕ) : Type 0 where
  pub force : Bool
  pub blocks : ℕ
  pub asks : Asks made (AddPlaces slices force count blocks)
  pub told : IsTold made ok_line
  pub first : (one : Exchange) (command : Command) → Contains before one → Asks one command → MakesDatabase command → IsRefused one

-- One of these lines made the database, and none behind it may have taken it away.
pub record IsMadeOn (lines : List Exchange) : Type 0 where
  pub slices : List SliceName
  pub count : ℕ
  pub made : Exchange
  pub before : List Exchange
  pub behind : List Exchange
  pub parts : lines ≡ before ++ made ∷ behind
  pub by : IsMadeBy before made slices count
  pub stays : (one : Exchange) → Contains behind one → MayTakeDatabase one → ⊥

-- those of these slices that the host has
abbrev pub slices_there : Geometry → List ℕ → List SliceName → List SliceName
slices_there drives name slices = filter (λ (slice : SliceName). is_some (slice_at (own_view drives name).slices slice)) slices

-- What a command makes of the slices on which replicas lie, each told once for each replica: more behind these, on each that the host has, or none on some; and where it adds as many as an entry says, that isn't told.
abbrev pub MakesOf : Geometry → List ℕ → Command → List SliceName → List SliceName → Type 0
MakesOf drives name (AddPlaces slices force count blocks) old next = next ≡ old ++ spread count (slices_there drives name slices)
MakesOf drives name (AddListed number force) old next = Unit {0}
MakesOf drives name (DropPlaces slices force) old next = next ≡ filter (λ (slice : SliceName). not (list_any (same_slice slice) slices)) old
MakesOf drives name other old next = ⊥

-- it moves places
abbrev pub MovesPlaces : Command → Type 0
MovesPlaces (AddPlaces slices force count blocks) = Unit {0}
MovesPlaces (AddListed number force) = Unit {0}
MovesPlaces (DropPlaces slices force) = Unit {0}
MovesPlaces other = ⊥

-- the line was told to have moved places
abbrev pub TellsPlaces : Exchange → Type 0
TellsPlaces one = (command : Command) × Asks one command × MovesPlaces command × IsTold one ok_line

-- what a line may make of them: nothing, where it wasn't told to have moved places; or what it asks, where it may have begun that
abbrev pub MayMake : Geometry → List ℕ → Exchange → List SliceName → List SliceName → Type 0
MayMake drives name one old next = ((next ≡ old) × (TellsPlaces one → ⊥)) ⊎ ((command : Command) × Asks one command × MakesOf drives name command old next × MayHaveBegun one)

-- so may these lines, one behind another
abbrev pub MayBecome : Geometry → List ℕ → List Exchange → List SliceName → List SliceName → Type 0
MayBecome drives name [] old last = last ≡ old
MayBecome drives name (one ∷ behind) old last = (next : List SliceName) × MayMake drives name one old next × MayBecome drives name behind next last

-- the replicas may lie so by these lines
abbrev pub MayLieOn : Geometry → List ℕ → {lines : List Exchange} → IsMadeOn lines → List SliceName → Type 0
MayLieOn drives name made slices = MayBecome drives name made.behind (spread made.count made.slices) slices

-- What a line may make of a table of the host's database, of whose places nothing is said: none but where it may have begun what it asks, and that is one of the changes that nothing refuses, where replicas lie at
-- some places; none any more where it may have taken the database away. And the change that it asked was made, where it was told so.
pub data MayChange (g : Geometry) (one : Exchange) (old next : Table) : Type 0 where
  stays : ((alteration : Alteration) → Asks one (Alter alteration) → IsTold one ok_line → ⊥) → next ≡ old → MayChange g one old next
  comes : (alteration : Alteration) (change : Change) (lists : Lists) → Asks one (Alter alteration) → MayHaveBegun one → Alters alteration change → IsStepOf g change (with_lists old lists) (with_lists next lists) → MayChange g one old next
  ends : MayTakeDatabase one → next ≡ empty_table [] → MayChange g one old next

-- what lines may make of one, one behind the other
abbrev pub MayCome : Geometry → List Exchange → Table → Table → Type 0
MayCome g [] old last = last ≡ old
MayCome g (one ∷ lines) old last = (next : Table) × MayChange g one old next × MayCome g lines next last

-- the host's database may have this table behind these lines, but for its places
abbrev pub MayHave : Geometry → List ℕ → List Exchange → Table → Type 0
MayHave drives name lines table = MayCome (own_view drives name) lines (empty_table []) table

-- and the volume lie so
pub record MayLie (drives : Geometry) (name : List ℕ) (volume : VolId) (v : Map) (lines : List Exchange) : Type 0 where
  pub table : Table
  pub may : MayHave drives name lines table
  pub lies : IsMapOf (own_view drives name) table volume v

-- that block of the volume may lie in this block of a drive, by these lines
pub record MayLieAt (drives : Geometry) (name : List ℕ) (lines : List Exchange) (volume : VolId) (number drive block : ℕ) : Type 0 where
  pub map : Map
  pub may : MayLie drives name volume map lines
  pub within : number < map.blocks
  pub lies : HasDriveBlock (map.copies number) drive block

-- One of these lines may have put these bytes into that block of the drive: it may have written them to a block of a volume that may lie there by the lines before.
pub record MayBePut (drives : Geometry) (name : List ℕ) (lines : List Exchange) (drive block : ℕ) (bytes : List ℕ) : Type 0 where
  pub one : Exchange
  pub before : List Exchange
  pub behind : List Exchange
  pub parts : lines ≡ before ++ one ∷ behind
  pub volume : VolId
  pub number : ℕ
  pub at : MayLieAt drives name before volume number drive block
  pub written : MayBeWritten volume number bytes one

-- the block of the drive held these bytes when the drives were new, or one of these lines may have put them there
abbrev pub HeldOrWasPut : Geometry → List ℕ → Image → List Exchange → ℕ → ℕ → List ℕ → Type 0
HeldOrWasPut drives name made lines drive block bytes = (bytes ≡ made drive block) ⊎ MayBePut drives name lines drive block bytes

-- The block has these bytes, or others that one of these lines may have written, or one of them may have taken the volume away.
abbrev pub IsOrWasWritten : VolId → ℕ → List ℕ → List Exchange → List ℕ → Type 0
IsOrWasWritten volume number old lines block =
    IsSameBlock block old ⊎ ((one : Exchange) × (new : List ℕ) × Contains lines one × MayBeWritten volume number new one × IsSameBlock block new) ⊎ ((one : Exchange) × Contains lines one × MayTakeAway volume one)
