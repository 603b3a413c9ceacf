-- Laws of histories: of each volume, of databases and of deeds, over crashes, boots, writes and reads.
use Rattle.std.specs.Prelude.{◌≡◌, ◌⊎◌, ◌+◌, ◌<◌, ◌≤◌, ℕ, true, List, [], ◌∷◌, ◌++◌, length, slice_index_or, Bool, if◌then◌else◌, map, Option, Some, None, All, Contains}
use Rattle.mdv_volumes.specs.Below.{AllOnDisk, AllRead, Among, AreApart, AreDisjoint, Area, Change, DriveNo, Follows, Geometry, HasDriveBlock, HasNoReplica, Identity, Image, IsBeside, IsCurrentOf, IsOfGeometry, Key, KeptOutside, Map, MayLeave, One, Place, PlanChange, Rewriting, Spells, Stand, Table, Tale, Version, VolId, area_of_map, is_firm, last, only, opening, restarted, site_area, site_of, with_events, Lists, Two}
use Rattle.mdv_growing_law.specs.Going.{Clears}
use Rattle.mdv_store_law.specs.Changes.{KeepsPlaces, OfPlan, TellsList, list_after}
use Rattle.mdv_store_law.specs.Log as log
use Rattle.mdv_store_law.specs.Machine.{AreAll, all_of}
use Rattle.mdv_store_law.specs.Part.{IsPart}
use Rattle.mdv_volumes.specs.Databases.{Database, current_of, log_of, same_key, with_creation}
use Rattle.mdv_volumes.specs.Events.{Answers, Begins, Flushes, Issues, Woke}
use Rattle.mdv_volumes.specs.Events as lives
use Rattle.mdv_volumes.specs.Happening.{HasRange, HaveOnly, IsCourse, IsLater, IsNamed, IsOver, IsThere, MayBeFound, MayBegin, begun_at, deed_of, issued_by, told_by}
use Rattle.mdv_volumes.specs.Histories.{Happens, Stands}
use Rattle.mdv_volumes.specs.LogLaws.{MayBe}
use Rattle.mdv_volumes.specs.History.{Deed, Created, Changed, Deleted, Deletes, Wrote, Saw, Event, Creation, OfDatabase, OfVolume, Reads, Acknowledges, Shows, Boots, Unsettles, Stops, Crashes, History, events_of, history_after, history_after_all}
use Rattle.mdv_volumes.specs.Standing.{HaveCopies, HaveOneValue, LeavesNoMore}
use Rattle.mdv_volumes.specs.Tables.{AreLaid, IsMapOf}

-- a table that an event begins to write, for a change
abbrev pub AsksTable : log.Event → Table → Type 0
AsksTable (log.Issued identity) table = ⊥
AsksTable (log.Writing mark None before other) table = ⊥
AsksTable (log.Writing mark (Some change) before other) table = other ≡ table
AsksTable log.Written table = ⊥
AsksTable (log.Told which before) table = ⊥
AsksTable (log.Placing places) table = ⊥
AsksTable log.Clearing table = ⊥
AsksTable log.Gone table = ⊥

-- one of them begins it
abbrev pub IsAsked : List log.Event → Table → Type 0
IsAsked [] table = ⊥
IsAsked (e ∷ es) table = AsksTable e table ⊎ IsAsked es table

-- a history says of a volume's blocks what happened to them, so the laws of their logs are its laws
pub record VolumesLive : Type 0 where
  pub is : (key : Key) (volume : VolId) (h : History) (es : List Event) → (history_after_all h es).volumes key volume ≡ lives.log_after_all (h.volumes key volume) (events_of key volume es)
  pub may : (key : Key) (volume : VolId) (g : Geometry) (h : History) (es : List Event) → IsCourse g h es → lives.IsCourse (h.volumes key volume) (events_of key volume es)

-- what the events of a write that is done make of a history
abbrev pub write_of : Key → VolId → ℕ → List (List ℕ) → List Event
write_of key volume at blocks = OfVolume key volume (Issues at blocks) ∷ OfVolume key volume (Answers at blocks) ∷ OfVolume key volume (Flushes at (length blocks)) ∷ []

-- a write that is done, and isn't told: the newest table has its blocks, and each has just its value
pub record CanAcknowledge (g : Geometry) (h : History) (key : Key) (volume : VolId) (at : ℕ) (blocks : List (List ℕ)) : Type 0 where
  pub untold : Contains h.untold (Wrote key volume at blocks)
  pub range : HasRange g h.databases key volume at (length blocks)
  pub only : HaveOnly (h.volumes key volume) at blocks

-- a write is done, and can be told
pub record IsWritten (g : Geometry) (h : History) (key : Key) (volume : VolId) (at : ℕ) (blocks : List (List ℕ)) (u : Tale) : Type 0 where
  pub happens : Happens g h (write_of key volume at blocks) (Wrote key volume at blocks ∷ []) [] u
  pub can_tell : CanAcknowledge g (history_after_all h (write_of key volume at blocks)) key volume at blocks

-- what happens to the log of one key
abbrev pub log_events_at : Key → Event → List log.Event
log_events_at key (Creation other identity) = if same_key key other then log.Issued identity ∷ [] else []
log_events_at key (OfDatabase other identity e) = if same_key key other then e ∷ [] else []
log_events_at key (OfVolume other volume e) = []
log_events_at key (Reads other volume at blocks) = []
log_events_at key (Acknowledges place other volume at blocks) = []
log_events_at key (Shows place other volume at blocks) = []
log_events_at key (Deletes place other) = []
log_events_at key (Boots other up) = []
log_events_at key (Unsettles other drive) = []
log_events_at key Stops = []
log_events_at key Crashes = []

abbrev pub log_events_of : Key → List Event → List log.Event
log_events_of key = all_of (log_events_at key)

-- which of these deeds are of the key's database
abbrev pub database_deeds : Key → List Deed → List (Option Change)
database_deeds key [] = []
database_deeds key (Created other ∷ deeds) = if same_key key other then None ∷ database_deeds key deeds else database_deeds key deeds
database_deeds key (Changed other change ∷ deeds) = if same_key key other then Some change ∷ database_deeds key deeds else database_deeds key deeds
database_deeds key (Deleted other ∷ deeds) = database_deeds key deeds
database_deeds key (Wrote other volume at blocks ∷ deeds) = database_deeds key deeds
database_deeds key (Saw other volume at blocks ∷ deeds) = database_deeds key deeds

-- a history says of a key's log what happened to it, so the laws of logs are its laws
pub record DatabasesLive : Type 0 where
  pub is : (key : Key) (g : Geometry) (h : History) (es : List Event) → IsCourse g h es → log_of (history_after_all h es).databases key ≡ log.log_after_all (log_of h.databases key) (log_events_of key es)
  pub may : (key : Key) (g : Geometry) (h : History) (es : List Event) → IsCourse g h es → log.IsCourse g (log_of h.databases key) (log_events_of key es)
  pub tells : (key : Key) (es : List Event) → log.told_by (log_events_of key es) ≡ database_deeds key (told_by es)
  pub begins : (key : Key) (es : List Event) → log.begun_by (log_events_of key es) ≡ database_deeds key (issued_by es)

-- of each key the family of tables is one, and what was told is firm
abbrev pub HasLogs : Geometry → History → Type 0
HasLogs g h = (key : Key) → log.IsLog g (log_of h.databases key)

-- each list of places is one of these
abbrev pub AllLists : List (List Place) → Lists → Type 0
AllLists may (One places) = Contains may places
AllLists may (Two old new) = Contains may old × Contains may new

-- a write of a table of the key was answered, and its database isn't about to be deleted
abbrev pub HasFirm : Key → History → Type 0
HasFirm key h = ((log_of h.databases key).fate ≡ log.Lives) × (is_firm (log_of h.databases key) ≡ true)

-- so it is, and the lists of each table that a boot may find are some of these
abbrev pub HasLists : Key → List (List Place) → History → Type 0
HasLists key may h = HasFirm key h × ((v : Version) → MayBeFound (log_of h.databases key).family v → AllLists may v.table.plan.lists)

-- and each of these tables lists these places, in one list
abbrev pub ListsAlone : Key → List Place → History → Type 0
ListsAlone key places h = HasFirm key h × ((v : Version) → MayBeFound (log_of h.databases key).family v → v.table.plan.lists ≡ One places)

-- those lists, and the ones that these changes may make of them, each of the changes or none
abbrev pub lists_by : List (Option Change) → List (List Place) → List (List Place)
lists_by [] may = may
lists_by (None ∷ asks) may = lists_by asks may
lists_by (Some change ∷ asks) may = lists_by asks (may ++ map (list_after change) may)

-- each of these changes tells which list comes
abbrev pub TellLists : List (Option Change) → Type 0
TellLists [] = Unit {0}
TellLists (None ∷ asks) = TellLists asks
TellLists (Some change ∷ asks) = TellsList change × TellLists asks

-- none of the changes of the key's table that these events begin moves a place
abbrev pub KeepPlaces : Key → List Event → Type 0
KeepPlaces key es = (change : Change) → Contains (issued_by es) (Changed key change) → KeepsPlaces change

-- no end of the key's database begins: so no creation of the key does, once a table of it was answered
abbrev pub KeepDatabase : Key → List Event → Type 0
KeepDatabase key es = Contains (issued_by es) (Deleted key) → ⊥

-- none of the changes of the key's table that these events begin takes the volume away
abbrev pub KeepVolume : Key → VolId → List Event → Type 0
KeepVolume key volume es = (change : PlanChange) → Contains (issued_by es) (Changed key (OfPlan change)) → Clears change volume → ⊥

-- Which places the tables list that a boot may find, as long as no end of the key's database begins.
pub record ListsStay : Type 0 where
  -- they stay, whatever happens, if no change moves a place
  pub still : (g : Geometry) (key : Key) (may : List (List Place)) (h : History) (es : List Event) → IsCourse g h es → KeepDatabase key es → KeepPlaces key es → HasLists key may h → HasLists key may (history_after_all h es)
  pub alone : (g : Geometry) (key : Key) (places : List Place) (h : History) (es : List Event) → IsCourse g h es → KeepDatabase key es → KeepPlaces key es → ListsAlone key places h → ListsAlone key places (history_after_all h es)
  -- or they are made of them by the changes that are asked, each of which tells its list, and of which none, some or all begin
  pub by : (g : Geometry) (key : Key) (may : List (List Place)) (h : History) (es : List Event) (asks : List (Option Change)) → IsCourse g h es → KeepDatabase key es → IsPart (database_deeds key (issued_by es)) asks
      → TellLists asks → HasLists key may h → HasLists key (lists_by asks may) (history_after_all h es)
  -- where the newest table was written, and has one list, a boot finds that one alone
  pub one : (g : Geometry) (key : Key) (h : History) (newest : Version) (older : List Version) (places : List Place) → HasLogs g h → (log_of h.databases key).family ≡ newest ∷ older → newest.is_written ≡ true → newest.table.plan.lists ≡ One places → (log_of h.databases key).fate ≡ log.Lives
      → ListsAlone key places h
  pub are : (key : Key) (places : List Place) (h : History) → ListsAlone key places h → HasLists key (places ∷ []) h

-- one of so many blocks, from that one on, has a copy on the drive
pub record HasCopyOn (v : Map) (at count : ℕ) (drive : DriveNo) : Type 0 where
  pub number : ℕ
  pub within : number < count
  pub block : ℕ
  pub lies : HasDriveBlock (v.copies (at + number)) drive.0 block

-- blocks of a volume are written
pub record WritesGo : Type 0 where
  -- at each moment they were issued
  pub issued : (g : Geometry) (h : History) (key : Key) (volume : VolId) (at : ℕ) (blocks : List (List ℕ)) (t m : Tale) (range : HasRange g h.databases key volume at (length blocks)) → Stands g h t
      → Rewriting range.map at blocks t m → Happens g h (OfVolume key volume (Issues at blocks) ∷ []) (Wrote key volume at blocks ∷ []) [] m
  -- where the write fails, drives on each of which one of them has a copy may become unsteady
  pub torn : (g : Geometry) (h : History) (key : Key) (volume : VolId) (at : ℕ) (blocks : List (List ℕ)) (t m : Tale) (range : HasRange g h.databases key volume at (length blocks)) (drives : List DriveNo) → Stands g h t
      → Rewriting range.map at blocks t m → All (HasCopyOn range.map at (length blocks)) drives → Happens g h (OfVolume key volume (Issues at blocks) ∷ map (Unsettles key) drives) (Wrote key volume at blocks ∷ []) [] m
  -- in the end, on the disk, they were answered too, and can be told
  pub done : (g : Geometry) (h : History) (key : Key) (volume : VolId) (at : ℕ) (blocks : List (List ℕ)) (t u : Tale) (range : HasRange g h.databases key volume at (length blocks)) → Stands g h t
      → Rewriting range.map at blocks t u → AllRead range.map at blocks u → AllOnDisk range.map at (length blocks) u → IsWritten g h key volume at blocks u

-- they were read, and their values can be told
pub record IsSeen (g : Geometry) (h : History) (key : Key) (volume : VolId) (at : ℕ) (blocks : List (List ℕ)) (t : Tale) : Type 0 where
  pub happens : Happens g h (Reads key volume at blocks ∷ []) [] [] t
  pub untold : Contains (history_after_all h (Reads key volume at blocks ∷ [])).untold (Saw key volume at blocks)

-- they are read, each from a copy of it
abbrev pub ReadsGo : Type 0
ReadsGo = (g : Geometry) (h : History) (key : Key) (volume : VolId) (at : ℕ) (blocks : List (List ℕ)) (t : Tale) (range : HasRange g h.databases key volume at (length blocks)) → Stands g h t
    → HaveCopies range.map at (length blocks) → AllRead range.map at blocks t → IsSeen g h key volume at blocks t

-- nothing happened yet
abbrev pub new_history : History
new_history = record { databases = []; volumes = λ key volume b. only []; answered = []; untold = []; up = λ key. []; woken = λ key volume. 0 }

-- no slice on which a boot looks has a block of the area, nor has a volume of a table that a boot may find
pub record IsElsewhere (g : Geometry) (databases : List Database) (area : Area) : Type 0 where
  pub slices : IsBeside g area
  pub volumes : (key : Key) (volume : VolId) (v : Map) → IsNamed g databases key volume v → AreApart area (area_of_map v)

-- drives begin anew, or go on as they were
pub record RestartsGo : Type 0 where
  pub crashed : (g : Geometry) (h : History) (t u : Tale) → LeavesNoMore t u → Stands g h t → Happens g h (Stops ∷ Crashes ∷ []) [] [] u
  pub ended : (g : Geometry) (h : History) (t : Tale) → Stands g h t → Happens g h (Stops ∷ []) [] [] t
  -- what is done to no block of theirs, as where nothing is done, leaves all as it stood
  pub elsewhere : (g : Geometry) (h : History) (area : Area) (t m : Tale) → IsElsewhere g h.databases area → KeptOutside area t m → Stands g h t → Stands g h m
  -- new drives, on which no boot finds a replica, whatever else they hold
  pub new_drives : (g : Geometry) (image : Image) (told : List ℕ) → HasNoReplica (Spells g) g image → Stands g new_history (restarted image told)

-- events of a key's log as a history's; a creation is none of them
abbrev pub lifted : Key → Identity → List log.Event → List Event
lifted key identity [] = []
lifted key identity (log.Issued other ∷ es) = lifted key identity es
lifted key identity (log.Writing mark asked before table ∷ es) = OfDatabase key identity (log.Writing mark asked before table) ∷ lifted key identity es
lifted key identity (log.Written ∷ es) = OfDatabase key identity log.Written ∷ lifted key identity es
lifted key identity (log.Told which before ∷ es) = OfDatabase key identity (log.Told which before) ∷ lifted key identity es
lifted key identity (log.Placing places ∷ es) = OfDatabase key identity (log.Placing places) ∷ lifted key identity es
lifted key identity (log.Clearing ∷ es) = OfDatabase key identity log.Clearing ∷ lifted key identity es
lifted key identity (log.Gone ∷ es) = OfDatabase key identity log.Gone ∷ lifted key identity es

abbrev pub identity_in : Option Database → Identity
identity_in None = record { fresh = 0; number = 0 }
identity_in (Some d) = d.identity

-- A table may become one that a boot may find: its volumes lie apart from each other, from databases and from those of other keys, and the drives
-- follow the log of each.
pub record IsReady (g : Geometry) (h : History) (key : Key) (t : Tale) (table : Table) : Type 0 where
  pub laid : AreLaid g table
  pub apart : (other : Key) (volume beside : VolId) (v w : Map) → (key ≡ other → ⊥) → IsMapOf g table volume v → IsNamed g h.databases other beside w → AreDisjoint v w
  pub follows : (volume : VolId) (v : Map) → IsMapOf g table volume v → Follows v (h.volumes key volume) t

-- the events of a key's log happened to the history; what was told of other keys and of volumes stays, and what a boot has found of them
pub record IsLifted (g : Geometry) (h : History) (key : Key) (es : List log.Event) (m : Tale) : Type 0 where
  pub happens : Happens g h (lifted key (identity_in (current_of h.databases key)) es) (all_of (begun_at key) es) (map (deed_of key) (log.told_by es)) m
  pub own : log_of (history_after_all h (lifted key (identity_in (current_of h.databases key)) es)).databases key ≡ log.log_after_all (log_of h.databases key) es
  pub others : (other : Key) → (key ≡ other → ⊥) → log_of (history_after_all h (lifted key (identity_in (current_of h.databases key)) es)).databases other ≡ log_of h.databases other
  pub volumes : (history_after_all h (lifted key (identity_in (current_of h.databases key)) es)).volumes ≡ h.volumes
  pub woken : (history_after_all h (lifted key (identity_in (current_of h.databases key)) es)).woken ≡ h.woken
  pub up : (history_after_all h (lifted key (identity_in (current_of h.databases key)) es)).up ≡ h.up

-- none of these is a creation
abbrev pub AreLater : List log.Event → Type 0
AreLater = AreAll IsLater

-- A key's log goes on by events of its current database, so that all stand, with nothing done outside the slices on which its boots look: so does the history, if
-- each table that is made by a change is ready.
abbrev pub DatabasesGo : Type 0
DatabasesGo = (g : Geometry) (h : History) (key : Key) (identity : Identity) (es : List log.Event) (t m : Tale) → Stands g h t → IsCurrentOf h.databases key identity → AreLater es
    → log.IsCourse g (log_of h.databases key) es → Stand g (with_events key es h.databases) m → KeptOutside (site_area (site_of g key)) t m
    → ((table : Table) → IsAsked es table → IsReady g h key t table) → IsLifted g h key es m

-- a database of the key was begun, and its earlier one is over
pub record IsNewlyBegun (g : Geometry) (h : History) (key : Key) (identity : Identity) (t : Tale) : Type 0 where
  pub happens : Happens g h (Creation key identity ∷ []) (Created key ∷ []) [] t
  pub its : IsCurrentOf (history_after h (Creation key identity)).databases key identity

-- A creation begins, where no table of its key was written, or its database was deleted, so that all stand.
abbrev pub CreationsGo : Type 0
CreationsGo = (g : Geometry) (h : History) (key : Key) (identity : Identity) (t : Tale) → Stands g h t → MayBegin h.databases key identity → Stand g (with_creation key identity h.databases) t → IsNewlyBegun g h key identity t

-- the creation of a key's database, or a change of it, came to the newest table, and wasn't told
pub record IsTellable (g : Geometry) (h : History) (key : Key) (asked : Option Change) : Type 0 where
  pub may : log.IsNewestTellable (log_of h.databases key) asked

-- What an `ok` may tell of a history: an end, a write or a read only where it is done.
abbrev pub CanTell : Geometry → Deed → History → Type 0
CanTell g (Created key) h = IsTellable g h key None
CanTell g (Changed key change) h = IsTellable g h key (Some change)
CanTell g (Deleted key) h = Contains h.untold (Deleted key) × IsOver h.databases key
CanTell g (Wrote key volume at blocks) h = CanAcknowledge g h key volume at blocks
CanTell g (Saw key volume at blocks) h = Contains h.untold (Saw key volume at blocks)

-- it was told, and nothing else happened
pub record IsTold (g : Geometry) (h : History) (deed : Deed) (t : Tale) : Type 0 where
  pub es : List Event
  pub happens : Happens g h es [] (deed ∷ []) t
  pub families : (key : Key) → (log_of (history_after_all h es).databases key).family ≡ (log_of h.databases key).family
  pub volumes : (history_after_all h es).volumes ≡ h.volumes

abbrev pub TellsGo : Type 0
TellsGo = (g : Geometry) (h : History) (deed : Deed) (t : Tale) → CanTell g deed h → Stands g h t → IsTold g h deed t

-- a boot finds one value of each block of a volume: of so many blocks, this one
pub record Waking : Type 0 where
  pub volume : VolId
  pub count : ℕ
  pub content : ℕ → List ℕ

abbrev pub wakings : Key → List Waking → List Event
wakings key [] = []
wakings key (w ∷ ws) = OfVolume key w.volume (Woke w.count w.content) ∷ wakings key ws

-- the volume is there, so long, and has that one value in each block, on the disk
pub record IsFoundBy (g : Geometry) (databases : List Database) (key : Key) (t : Tale) (w : Waking) : Type 0 where
  pub map : Map
  pub there : IsThere g databases key w.volume map
  pub long : w.count ≡ map.blocks
  pub one : HaveOneValue map w.content t

pub record AreAwake (g : Geometry) (h : History) (key : Key) (ws : List Waking) (t : Tale) : Type 0 where
  pub happens : Happens g h (wakings key ws) [] [] t
  pub woken : (w : Waking) → Contains ws w → (history_after_all h (wakings key ws)).woken key w.volume ≡ w.count
  pub databases : (history_after_all h (wakings key ws)).databases ≡ h.databases
  pub up : (history_after_all h (wakings key ws)).up ≡ h.up

-- each drive on which a block of it has a copy passes the test
abbrev pub IsUpon : (ℕ → Bool) → Map → Type 0
IsUpon up v = (b drive block : ℕ) → b < v.blocks → HasDriveBlock (v.copies b) drive block → up drive ≡ true

-- one value was found of each block of each volume of the table on drives that are up, since the last boot
abbrev pub AreWoken : Geometry → Table → (ℕ → Bool) → History → Key → Type 0
AreWoken g table up h key = (volume : VolId) (v : Map) → IsMapOf g table volume v → IsUpon up v → h.woken key volume ≡ v.blocks

-- a key's database isn't about to be deleted, its newest table was written and is one of the geometry, and a crash leaves of each block of its volumes on drives that are up what a read gives
pub record IsBooted (g : Geometry) (h : History) (key : Key) (newest : Version) (up : ℕ → Bool) (t : Tale) : Type 0 where
  pub lives : (log_of h.databases key).fate ≡ log.Lives
  pub older : List Version
  pub family : (log_of h.databases key).family ≡ newest ∷ older
  pub written : newest.is_written ≡ true
  pub of_geometry : IsOfGeometry g newest.table
  pub still : (volume : VolId) (v : Map) (drive block : ℕ) → IsMapOf g newest.table volume v → area_of_map v drive block ≡ true → up drive ≡ true → (x : List ℕ) → MayLeave t drive block x → x ≡ last t drive block

-- boots wake volumes
pub record BootsGo : Type 0 where
  pub awake : (g : Geometry) (h : History) (key : Key) (ws : List Waking) (t : Tale) → All (IsFoundBy g h.databases key t) ws → Stands g h t → AreAwake g h key ws t
  -- all of the table that a boot adopted, where it has read their drives
  pub all : (g : Geometry) (h : History) (key : Key) (newest : Version) (up : ℕ → Bool) (t : Tale) → IsBooted g h key newest up t → Stands g h t
      → (ws : List Waking) × AreAwake g h key ws t × AreWoken g newest.table up (history_after_all h (wakings key ws)) key

pub record IsBegun (g : Geometry) (h : History) (key : Key) (volume : VolId) (from : ℕ) (v : Map) (t : Tale) : Type 0 where
  pub happens : Happens g h (OfVolume key volume (Begins from (opening v t)) ∷ []) [] [] t
  pub follows : Follows v ((history_after h (OfVolume key volume (Begins from (opening v t)))).volumes key volume) t

-- A volume is made: its log begins before a table has it. So it is with blocks behind those that it has.
abbrev pub BeginningsGo : Type 0
BeginningsGo = (g : Geometry) (h : History) (key : Key) (volume : VolId) (from : ℕ) (v : Map) (t : Tale) → ((w : Map) → IsNamed g h.databases key volume w → w.blocks ≤ from) → Follows (record v { blocks = from }) (h.volumes key volume) t
    → Stands g h t → IsBegun g h key volume from v t

-- A write of blocks was told behind these events, and later ones came: whatever happened, a read gives of each of its blocks, and a crash leaves, what was
-- written, or what was issued since it was told.
pub record Lasts (h : History) (es later : List Event) (place : ℕ) (key : Key) (volume : VolId) (at : ℕ) (blocks : List (List ℕ)) : Type 0 where
  pub lasts : (k : ℕ) (x : List ℕ) → k < length blocks → MayBe ((history_after_all h (es ++ Acknowledges place key volume at blocks ∷ later)).volumes key volume) (at + k) x
      → (x ≡ slice_index_or blocks k []) ⊎ Among (lives.issued_to (at + k) (events_of key volume later)) x

-- so it is of every write that is told, until an end of its database begins, or a change that takes its volume away
abbrev pub ToldWritesLast : Type 0
ToldWritesLast = (g : Geometry) (h : History) (es later : List Event) (place : ℕ) (key : Key) (volume : VolId) (at : ℕ) (blocks : List (List ℕ)) → HasLogs g h
    → IsCourse g h (es ++ Acknowledges place key volume at blocks ∷ later) → KeepDatabase key later → KeepVolume key volume later → Lasts h es later place key volume at blocks
