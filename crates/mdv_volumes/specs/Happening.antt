-- When each event of a history may happen, what it tells and what it begins.
use Rattle.std.specs.Prelude.{◌++◌, ◌≡◌, ◌⊎◌, ℕ, ◌+◌, ◌<◌, ◌≤◌, true, false, List, [], ◌∷◌, length, map, slice_index_or, Option, None, Some}
use Rattle.mdv_volumes.specs.Below.{Change, DriveNo, Geometry, HasDriveBlock, Identity, IsFresh, Key, Map, Version, VolId, VolumeLog, is_firm, only}
use Rattle.mdv_store_law.specs.Log as log
use Rattle.mdv_store_law.specs.Machine.{all_of}
use Rattle.mdv_store_law.specs.Machine as machine
use Rattle.mdv_volumes.specs.Databases.{Database, current_of, log_of}
pub use Rattle.mdv_databases.specs.Meeting.{MayBeFound}
use Rattle.mdv_volumes.specs.Events.{VolumeEvent, Issues, Answers, Flushes, Begins, Woke, AreReadable}
use Rattle.mdv_volumes.specs.Events as lives
use Rattle.mdv_volumes.specs.History.{Deed, Created, Changed, Deleted, Deletes, Wrote, Saw, Event, Creation, OfDatabase, OfVolume, Reads, Acknowledges, Shows, Boots, Unsettles, Stops, Crashes, History, history_after}
use Rattle.mdv_volumes.specs.Tables.{IsMapOf}

-- a table that a boot may find has the volume, with this map
pub record IsNamed (g : Geometry) (databases : List Database) (key : Key) (volume : VolId) (v : Map) : Type 0 where
  pub version : Version
  pub found : MayBeFound (log_of databases key).family version
  pub map : IsMapOf g version.table volume v

-- the key's database isn't about to be deleted, and its newest table was written, and has the volume with this map
pub record IsThere (g : Geometry) (databases : List Database) (key : Key) (volume : VolId) (v : Map) : Type 0 where
  pub lives : (log_of databases key).fate ≡ log.Lives
  pub newest : Version
  pub older : List Version
  pub family : (log_of databases key).family ≡ newest ∷ older
  pub written : newest.is_written ≡ true
  pub map : IsMapOf g newest.table volume v

-- and so many blocks, from that one on
pub record HasRange (g : Geometry) (databases : List Database) (key : Key) (volume : VolId) (at count : ℕ) : Type 0 where
  pub map : Map
  pub there : IsThere g databases key volume map
  pub some : 0 < count
  pub within : at + count ≤ map.blocks

-- a block of a volume that the newest table has, with a copy on the drive, isn't one value: a crash may leave another one than a read gives
pub record IsTornOn (g : Geometry) (h : History) (key : Key) (drive : DriveNo) : Type 0 where
  pub volume : VolId
  pub map : Map
  pub there : IsThere g h.databases key volume map
  pub number : ℕ
  pub below : number < map.blocks
  pub block : ℕ
  pub lies : HasDriveBlock (map.copies number) drive.0 block
  pub torn : (x : List ℕ) → h.volumes key volume number ≡ only x → ⊥

-- it isn't a creation
abbrev pub IsLater : log.Event → Type 0
IsLater (log.Issued identity) = ⊥
IsLater (log.Writing mark asked before table) = Unit {0}
IsLater log.Written = Unit {0}
IsLater (log.Told which before) = Unit {0}
IsLater (log.Placing places) = Unit {0}
IsLater log.Clearing = Unit {0}
IsLater log.Gone = Unit {0}

-- an event of the key's current database, which has this identity
pub record IsOfCurrent (g : Geometry) (databases : List Database) (key : Key) (identity : Identity) (e : log.Event) : Type 0 where
  pub database : Database
  pub current : current_of databases key ≡ Some database
  pub as_begun : database.identity ≡ identity
  pub later : IsLater e
  pub may : log.MayHappen g database.log e

-- the key's current database is over
abbrev pub IsOver : List Database → Key → Type 0
IsOver databases key = (log_of databases key).fate ≡ log.Over

-- a creation of a key that has no database whose table was written, or had one that was deleted, under an identity that none has
pub record MayBegin (databases : List Database) (key : Key) (identity : Identity) : Type 0 where
  pub fresh : IsFresh databases identity
  pub free : (is_firm (log_of databases key) ≡ false) ⊎ IsOver databases key

-- Blocks are issued, and answered, of a volume that the one table has which a boot may find; a log begins where no table that a boot may find has the
-- volume with blocks from there on; drives begin anew all at once.
abbrev pub IsPlaced : Geometry → History → Key → VolId → VolumeEvent → Type 0
IsPlaced g h key volume (Issues at blocks) = HasRange g h.databases key volume at (length blocks)
IsPlaced g h key volume (Answers at blocks) = HasRange g h.databases key volume at (length blocks)
IsPlaced g h key volume (Flushes at count) = Unit {0}
IsPlaced g h key volume (Begins from logs) = (v : Map) → IsNamed g h.databases key volume v → v.blocks ≤ from
IsPlaced g h key volume lives.Crashes = ⊥
IsPlaced g h key volume (Woke count content) = Unit {0}

-- this deed is done and not told, at that place of the list
abbrev pub IsUntoldAt : List Deed → ℕ → Deed → Type 0
IsUntoldAt deeds place deed = (place < length deeds) × (slice_index_or deeds place deed ≡ deed)

-- each of these blocks has this one value, by reads and by crashes
abbrev pub HaveOnly : VolumeLog → ℕ → List (List ℕ) → Type 0
HaveOnly log at blocks = (k : ℕ) → k < length blocks → log (at + k) ≡ only (slice_index_or blocks k [])

-- When each event may happen. A write is told while its values are all that its blocks may have, whatever crashes; an end while no image has the key's database.
-- A drive becomes unsteady only where a block on it isn't one value.
abbrev pub MayHappen : Geometry → History → Event → Type 0
MayHappen g h (Creation key identity) = MayBegin h.databases key identity
MayHappen g h (OfDatabase key identity e) = IsOfCurrent g h.databases key identity e
MayHappen g h (OfVolume key volume e) = lives.MayHappen (h.volumes key volume) e × IsPlaced g h key volume e
MayHappen g h (Reads key volume at blocks) = HasRange g h.databases key volume at (length blocks) × AreReadable (h.volumes key volume) at blocks
MayHappen g h (Acknowledges place key volume at blocks) = IsUntoldAt h.untold place (Wrote key volume at blocks) × HasRange g h.databases key volume at (length blocks) × HaveOnly (h.volumes key volume) at blocks
MayHappen g h (Shows place key volume at blocks) = IsUntoldAt h.untold place (Saw key volume at blocks)
MayHappen g h (Deletes place key) = IsUntoldAt h.untold place (Deleted key) × IsOver h.databases key
MayHappen g h (Boots key up) = Unit {0}
MayHappen g h (Unsettles key drive) = IsTornOn g h key drive
MayHappen g h Stops = Unit {0}
MayHappen g h Crashes = (h.answered ≡ []) × (h.untold ≡ [])

-- each of the events may happen where it happens
abbrev pub IsCourse : Geometry → History → List Event → Type 0
IsCourse g = machine.IsCourse history_after (MayHappen g)

-- a creation or a change of the key's database, told or begun
abbrev pub deed_of : Key → Option Change → Deed
deed_of key None = Created key
deed_of key (Some change) = Changed key change

-- what an event tells
abbrev pub tells : Event → List Deed
tells (Creation key identity) = []
tells (OfDatabase key identity e) = map (deed_of key) (log.tells e)
tells (OfVolume key volume e) = []
tells (Reads key volume at blocks) = []
tells (Acknowledges place key volume at blocks) = Wrote key volume at blocks ∷ []
tells (Shows place key volume at blocks) = Saw key volume at blocks ∷ []
tells (Deletes place key) = Deleted key ∷ []
tells (Boots key up) = []
tells (Unsettles key drive) = []
tells Stops = []
tells Crashes = []

abbrev pub told_by : List Event → List Deed
told_by = all_of tells

-- an end of the key's database begins where its last master is about to be blanked
abbrev pub ends_of : Key → log.Event → List Deed
ends_of key (log.Issued identity) = []
ends_of key (log.Writing mark asked before table) = []
ends_of key log.Written = []
ends_of key (log.Told which before) = []
ends_of key (log.Placing places) = []
ends_of key log.Clearing = Deleted key ∷ []
ends_of key log.Gone = []

-- what an event of a key's database begins
abbrev pub begun_at : Key → log.Event → List Deed
begun_at key e = map (deed_of key) (log.begins e) ++ ends_of key e

-- what an event of a volume begins
abbrev pub begun_of : Key → VolId → VolumeEvent → List Deed
begun_of key volume (Issues at blocks) = Wrote key volume at blocks ∷ []
begun_of key volume (Answers at blocks) = []
begun_of key volume (Flushes at count) = []
begun_of key volume (Begins from logs) = []
begun_of key volume lives.Crashes = []
begun_of key volume (Woke count content) = []

-- what an event begins
abbrev pub begins : Event → List Deed
begins (Creation key identity) = Created key ∷ []
begins (OfDatabase key identity e) = begun_at key e
begins (OfVolume key volume e) = begun_of key volume e
begins (Reads key volume at blocks) = []
begins (Acknowledges place key volume at blocks) = []
begins (Shows place key volume at blocks) = []
begins (Deletes place key) = []
begins (Boots key up) = []
begins (Unsettles key drive) = []
begins Stops = []
begins Crashes = []

abbrev pub issued_by : List Event → List Deed
issued_by = all_of begins

-- no run ends by the event, and no drive begins anew; and what it issues of a database is so
abbrev pub IsIssue : (log.Issue → Type 0) → Event → Type 0
IsIssue Which (Creation key identity) = Which (log.OfCreation identity)
IsIssue Which (OfDatabase key identity e) = log.IsIssue Which e
IsIssue Which (OfVolume key volume e) = Unit {0}
IsIssue Which (Reads key volume at blocks) = Unit {0}
IsIssue Which (Acknowledges place key volume at blocks) = Unit {0}
IsIssue Which (Shows place key volume at blocks) = Unit {0}
IsIssue Which (Deletes place key) = Unit {0}
IsIssue Which (Boots key up) = Unit {0}
IsIssue Which (Unsettles key drive) = Unit {0}
IsIssue Which Stops = ⊥
IsIssue Which Crashes = ⊥

-- The events of a run tell these deeds, and begin only deeds that are asked, in that order and each once; and what they issue of databases is so.
abbrev pub Adds : (log.Issue → Type 0) → List Deed → List Deed → List Event → Type 0
Adds Which = machine.Adds tells begins (IsIssue Which)
