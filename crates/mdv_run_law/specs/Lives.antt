-- Lives: any number of runs on the same drives, each but the first begun on what the one before left, or a crash in it.
use Rattle.std.specs.Prelude.{◌≡◌, ◌≢◌, ◌⊎◌, ◌<◌, ℕ, List, [], ◌∷◌, ◌++◌, reverse, None, Some, Contains, true}
use Rattle.mdv_run_law.specs.Below.{Acknowledges, Among, AreMade, BootedTo, Change, Changed, Crashes, Created, Deed, Drives, Event, Geometry, Happening, HasNoReplica, HasNoTableOn, Host, Identity, Image, IsKnown, IsNamed, IsSound, Key, Lasts, Local, Map, Memory, Opened, Script, ShowsNoTable, SliceLine, SliceName, Spells, StandsAt, Stops, Table, Tale, Version, VolId, history_after, history_after_all, last, left_in, log_of, new_history, own_view, readings, replies_in, restarted, site_of, told}
use Rattle.mdv_store_law.specs.Machine as machine
use Rattle.mdv_shelf.specs.Moments.{IsSince}
use Rattle.mdv_store_law.specs.Changes.{OfPlan}
use Rattle.mdv_store_law.specs.Changes as changes
use Rattle.mdv_store_law.specs.Log.{changes_of}
use Rattle.mdv_survey.specs.Choice.{IsChoice}
use Rattle.mdv_survey.specs.Survey.{IsSurvey, IsSurveyOf, answers_in}
use Rattle.mdv_survey.specs.declared.choosing.Choice.TheVariants as chosen
use Rattle.mdv_survey.specs.declared.replica.Survey.{Survey}
use Rattle.mdv_change.specs.declared.change.Change.{Change as PlanChange}
use Rattle.mdv_volumes.specs.HistoryLaws.{database_deeds}
use Rattle.mdv_volumes.specs.Standing.{LeavesNoMore}
use Rattle.mdv_run_law.specs.Run.{IsOfTable}
use Rattle.mdv_store_law.specs.Part.{IsPart}
use Rattle.mdv_engine_law.specs.Standing.{MeetsStaleAt}
use Rattle.mdv_volumes.specs.Happening.{issued_by, told_by}
use Rattle.mdv_volumes.specs.History.{Creation, Deleted, Deletes}
use Rattle.mdv_volumes.specs.HistoryLaws.{KeepDatabase, KeepVolume}
use Rattle.mdv_run_law.specs.Standing.{RunMoment, AreBegun, AreIdle, AreOfRun, AreTold, HasMetInRun, IsTold}

-- a host's run, told by the word that its databases' identities have: it sees what is its own of the table of drives
abbrev pub host_of : Geometry → List ℕ → ℕ → Host
host_of table name fresh = record { drives = own_view table name; site = site_of (own_view table name) (Local name); fresh = fresh }

-- a run that was stopped: its host by the name, the word of its identities, its script, and what it had told
pub record Ran : Type 0 where
  pub host : List ℕ
  pub fresh : ℕ
  pub script : Script
  pub bytes : List ℕ

-- What may be found of a moment as the next run starts: what the drives held, where nothing crashed; or drives of which a crash leaves no more than it might have left
-- then: each began anew with what a crash left of it, or went on beside one that did.
pub data MayBeFound (m : Tale) : Tale → Type 0 where
  as_it_was : MayBeFound m m
  crashed : (next : Tale) → LeavesNoMore m next → MayBeFound m next

-- Drives at the start of a run, behind these runs, the newest first, of new drives that held this.
pub data Life (drives : Geometry) (made : Image) : List Ran → Tale → Type 0 where
  -- new drives, whatever they hold, on which no host finds a replica
  new_drives : (told : List ℕ) → ((name : List ℕ) → Contains drives.hosts name → HasNoReplica (Spells (own_view drives name)) (own_view drives name) made) → Life drives made [] (restarted made told)
  -- a run of any host and whatever script, with whatever failures, up to one of its moments, the last one too, and what may be found of it
  run_on : (ran : List Ran) (name : List ℕ) (fresh : ℕ) (t m next : Tale) (script : Script) → Life drives made ran t → Contains drives.hosts name → (moment : RunMoment (host_of drives name fresh) script t m) → MayBeFound m next
      → Life drives made (record { host = name; fresh = fresh; script = script; bytes = moment.bytes } ∷ ran) next

-- no run of the host among these has the word
abbrev pub IsNewWord : List ℕ → ℕ → List Ran → Type 0
IsNewWord name fresh ran = (other : Ran) → Contains ran other → other.host ≡ name → other.fresh ≡ fresh → ⊥

-- the word is that of a run of the host's among these
pub record HasWord (name : List ℕ) (ran : List Ran) (fresh : ℕ) : Type 0 where
  pub run : Ran
  pub one_of : Contains ran run
  pub of_host : run.host ≡ name
  pub word : run.fresh ≡ fresh

-- no two runs of one host have one word
abbrev pub IsFair : List Ran → Type 0
IsFair [] = Unit {0}
IsFair (ran ∷ before) = IsNewWord ran.host ran.fresh before × IsFair before

-- what happens between two runs: the one ends, and where there was a crash drives begin anew
abbrev pub IsBetween : List Event → Type 0
IsBetween es = (es ≡ Stops ∷ []) ⊎ (es ≡ Stops ∷ Crashes ∷ [])

-- the one of a run of this host, and the other of another host's run
abbrev pub OfHost : List ℕ → Ran → Type 0 → Type 0 → Type 0
OfHost name ran This That = ((ran.host ≡ name) × This) ⊎ ((ran.host ≢ name) × That)

-- the events of these runs for this host, one run behind the other: another host's run has none for it
abbrev pub AreOfRuns : Geometry → List ℕ → List Ran → List Event → Type 0
AreOfRuns drives name [] es = es ≡ []
AreOfRuns drives name (ran ∷ before) es =
    (first : List Event) × (run : List Event) × (end : List Event) × (es ≡ first ++ (run ++ end)) × AreOfRuns drives name before first
    × OfHost name ran (AreOfRun (host_of drives name ran.fresh) ran.script ran.bytes run) (run ≡ []) × IsBetween end

-- one of the host's runs told the deed
abbrev pub HaveSaid : Geometry → List ℕ → List Ran → Deed → Type 0
HaveSaid drives name [] deed = ⊥
HaveSaid drives name (ran ∷ before) deed = ((ran.host ≡ name) × IsTold (host_of drives name ran.fresh) ran.script (replies_in ran.bytes) deed) ⊎ HaveSaid drives name before deed

-- all that they told, and what their lines may have begun, in order
abbrev pub AreSaid : Geometry → List ℕ → List Ran → List Deed → Type 0
AreSaid drives name [] said = said ≡ []
AreSaid drives name (ran ∷ before) said =
    (first : List Deed) × AreSaid drives name before first × (rest : List Deed)
    × OfHost name ran (AreTold (host_of drives name ran.fresh) ran.script (replies_in ran.bytes) (left_in ran.bytes) rest) (rest ≡ []) × (said ≡ first ++ rest)

abbrev pub AreAsked : Geometry → List ℕ → List Ran → List Deed → Type 0
AreAsked drives name [] asked = asked ≡ []
AreAsked drives name (ran ∷ before) asked =
    (first : List Deed) × AreAsked drives name before first × (rest : List Deed)
    × OfHost name ran (AreBegun (host_of drives name ran.fresh) ran.script (replies_in ran.bytes) (left_in ran.bytes) rest) (rest ≡ []) × (asked ≡ first ++ rest)

-- the changes of a key's table among these deeds, in order
abbrev pub changes_in : Key → List Deed → List Change
changes_in key deeds = changes_of (database_deeds key deeds)

-- a history of the host's databases and volumes behind these runs, with which the drives stand
pub record IsHistoryOf (drives : Geometry) (name : List ℕ) (made : Image) (ran : List Ran) (t : Tale) : Type 0 where
  pub es : List Event
  pub course : machine.IsCourse history_after (Happening (host_of drives name 0)) new_history es
  pub come : AreOfRuns drives name ran es
  pub stands : StandsAt (host_of drives name 0) (history_after_all new_history es) t

-- None of the boots of a run up to that moment met a stale vote, however the history of the runs before it is told.
abbrev pub HasMetNone : Geometry → List ℕ → List Ran → ℕ → Script → Tale → Tale → Type 0
HasMetNone drives name ran fresh script t m =
    (made : Image) (history : IsHistoryOf drives name made ran t) → HasMetInRun (host_of drives name fresh) script t m (history_after_all new_history history.es) → ⊥

-- nor does one that begins there
abbrev pub BootMeetsNone : Geometry → List ℕ → List Ran → ℕ → Tale → Type 0
BootMeetsNone drives name ran fresh t = (made : Image) (history : IsHistoryOf drives name made ran t) → MeetsStaleAt (host_of drives name fresh) (history_after_all new_history history.es) t → ⊥

-- so it is of each run of a life
abbrev pub HaveMetNone : {drives : Geometry} {made : Image} {ran : List Ran} {t : Tale} → Life drives made ran t → Type 0
HaveMetNone (new_drives told none) = Unit {0}
HaveMetNone {drives} (run_on ran name fresh t m next script life one_of moment found) = HaveMetNone life × HasMetNone drives name ran fresh script t m

-- a life of sound drives, in which each run of a host had a word of its own, and no boot met a stale vote
pub record IsLife (drives : Geometry) (made : Image) (ran : List Ran) (t : Tale) : Type 0 where
  pub sound : IsSound drives
  pub life : Life drives made ran t
  pub fair : IsFair ran
  pub clean : HaveMetNone life

-- a line of one of the host's runs may have begun an end of its database
abbrev pub MayHaveEnded : Geometry → List ℕ → List Ran → Type 0
MayHaveEnded drives name ran = (asked : List Deed) × AreAsked drives name ran asked × Contains asked (Deleted (Local name))

-- over every life there is one
abbrev pub LivesStand : Type 0
LivesStand = (drives : Geometry) (name : List ℕ) (made : Image) (ran : List Ran) (t : Tale) → Contains drives.hosts name → IsLife drives made ran t → IsHistoryOf drives name made ran t

-- the host sees what is its own, whatever was run
abbrev pub HostsSee : Type 0
HostsSee = (drives : Geometry) (name : List ℕ) (made : Image) (ran : List Ran) (t : Tale) (fresh : ℕ) → Contains drives.hosts name → IsLife drives made ran t → IsOfTable (host_of drives name fresh)

-- The events since a creation of the key's database last began, or all, where none did. What was told of it before that is struck: nothing was, where no end of it began.
pub record IsSinceCreation (key : Key) (es : List Event) : Type 0 where
  pub first : List Event
  pub since : List Event
  pub parts : es ≡ first ++ since
  pub created : (first ≡ []) ⊎ ((before : List Event) × (identity : Identity) × (first ≡ before ++ Creation key identity ∷ []))
  pub none : Contains (issued_by since) (Created key) → ⊥
  pub struck : KeepDatabase key first → database_deeds key (told_by first) ≡ []

-- A deletion of the key's database was told, and no creation of another was begun since.
pub record IsGone (key : Key) (es : List Event) : Type 0 where
  pub before : List Event
  pub later : List Event
  pub place : ℕ
  pub parts : es ≡ before ++ Deletes place key ∷ later
  pub none : Contains (issued_by later) (Created key) → ⊥

-- What a boot of the host that began there has adopted, as one that was answered leaves it in memory: the table is one of a history of these runs and this boot, made by the changes that the
-- history has for it, the newest first. Lines of these runs asked them, in their order and each once, and what was told of each of these lines is `ok`, or that a call failed, or a
-- front of one of these, as nothing told is; and all that were told ok since the database was last created are among them, in the order in which they were told: all that ever were, where no line may have begun an end of it.
pub record HasToldChanges (drives : Geometry) (name : List ℕ) (made : Image) (ran : List Ran) (t : Tale) (fresh : ℕ) (memory : Memory) (u : Tale) (table : Table) : Type 0 where
  pub history : IsHistoryOf drives name made ran t
  pub boot : List Event
  pub idle : AreIdle (host_of drives name fresh) boot
  pub known : IsKnown (host_of drives name fresh) memory (history_after_all new_history (history.es ++ boot)) u
  pub version : Version
  pub one_of : Contains (log_of (history_after_all new_history (history.es ++ boot)).databases (Local name)).family version
  pub is_table : version.table ≡ table
  pub by : AreMade (own_view drives name) version.changes table
  pub since : IsSinceCreation (Local name) (history.es ++ boot)
  pub told_since : IsPart (changes_in (Local name) (told_by since.since)) (reverse version.changes)
  pub told : (MayHaveEnded drives name ran → ⊥) → (change : PlanChange) → HaveSaid drives name ran (Changed (Local name) (OfPlan change)) → Contains version.changes (OfPlan change)
  pub said : List Deed
  pub are_said : AreSaid drives name ran said
  pub all_said : (MayHaveEnded drives name ran → ⊥) → IsPart (changes_in (Local name) said) (reverse version.changes)
  pub asked : List Deed
  pub are_asked : AreAsked drives name ran asked
  pub all_asked : IsPart (reverse version.changes) (changes_in (Local name) asked)

-- A replica shows a table of a database of the host's that one of these runs made.
pub record ShowsOwn (drives : Geometry) (name : List ℕ) (ran : List Ran) (content : Image) : Type 0 where
  pub identity : Identity
  pub of_run : HasWord name ran identity.fresh
  pub shown : ShowsNoTable (Spells (own_view drives name)) (site_of (own_view drives name) (Local name)) identity content → ⊥

-- what a boot of the host's finds there, whatever it could read of the drives that were up
pub record BootFinds (drives : Geometry) (name : List ℕ) (up : Drives) (content : Image) (survey : Survey) : Type 0 where
  pub survey_is : IsSurvey (site_of (own_view drives name) (Local name)) up survey
  pub of : IsSurveyOf (own_view drives name) (site_of (own_view drives name) (Local name)) up content survey

-- it read each drive with a slice on which replicas of the host's may lie
abbrev pub HasReadAll : Geometry → List ℕ → Drives → Survey → Type 0
HasReadAll drives name up survey = (line : SliceLine) → Contains (site_of (own_view drives name) (Local name)).lines line → answers_in up survey.failed line.at.drive ≡ true

-- As long as no line may have begun an end of the host's database: once a creation was told ok, some replica shows a table of it, one that a run of the host made, whatever was run and crashed since, so a boot that reads all drives
-- finds a table; and no boot finds two databases, whatever it reads. The table that a boot adopts has every change that was told ok since the last creation behind such an end. Behind a deletion of the last places that was told ok no boot
-- adopts a database, till another may have been created, if it meets no stale vote.
pub record DatabaseIsFound : Type 0 where
  pub found : (drives : Geometry) (name : List ℕ) (made : Image) (ran : List Ran) (t : Tale) → Contains drives.hosts name → IsLife drives made ran t → HaveSaid drives name ran (Created (Local name)) → (MayHaveEnded drives name ran → ⊥) → HasNoTableOn (own_view drives name) (Local name) (last t) → ⊥
  pub made : (drives : Geometry) (name : List ℕ) (made : Image) (ran : List Ran) (t : Tale) → Contains drives.hosts name → IsLife drives made ran t → HaveSaid drives name ran (Created (Local name)) → (MayHaveEnded drives name ran → ⊥) → ShowsOwn drives name ran (last t)
  pub not_empty : (drives : Geometry) (name : List ℕ) (made : Image) (ran : List Ran) (t : Tale) (up : Drives) (survey : Survey) → Contains drives.hosts name → IsLife drives made ran t
      → HaveSaid drives name ran (Created (Local name)) → (MayHaveEnded drives name ran → ⊥) → BootFinds drives name up (last t) survey → HasReadAll drives name up survey → survey.newest ≡ None → ⊥
  pub one : (drives : Geometry) (name : List ℕ) (made : Image) (ran : List Ran) (t : Tale) (up : Drives) (survey : Survey) (a b : Identity) → Contains drives.hosts name → IsLife drives made ran t → (MayHaveEnded drives name ran → ⊥)
      → BootFinds drives name up (last t) survey → IsChoice survey (chosen.TwoDatabases a b) → ⊥
  pub table : (drives : Geometry) (name : List ℕ) (made : Image) (ran : List Ran) (t u : Tale) (fresh : ℕ) (memory : Memory) (o : Opened) → Contains drives.hosts name → IsLife drives made ran t → IsNewWord name fresh ran
      → BootMeetsNone drives name ran fresh t → BootedTo (host_of drives name fresh) memory t u → memory.begun ≡ 0 → memory.opened ≡ Some o → HasToldChanges drives name made ran t fresh memory u o.table
  pub gone : (drives : Geometry) (name : List ℕ) (made : Image) (ran : List Ran) (t u : Tale) (fresh : ℕ) (memory : Memory) → Contains drives.hosts name → (history : IsHistoryOf drives name made ran t) → IsGone (Local name) history.es
      → IsNewWord name fresh ran → BootMeetsNone drives name ran fresh t → BootedTo (host_of drives name fresh) memory t u → memory.begun ≡ 0 → memory.opened ≡ None

-- Each block of a volume that a boot may find reads as one of the values that a history of these runs has for it. Of a write that was told that is its value,
-- whatever happened since, or one that was issued since it was answered, until an end of the database begins, or a change that takes the volume away.
pub record BlocksAre (drives : Geometry) (name : List ℕ) (made : Image) (ran : List Ran) (t : Tale) : Type 0 where
  pub history : IsHistoryOf drives name made ran t
  pub reads : (volume : VolId) (v : Map) → IsNamed (own_view drives name) (history_after_all new_history history.es).databases (Local name) volume v
      → (b : ℕ) (x : List ℕ) → b < v.blocks → Among (readings v (last t) b) x → Among ((history_after_all new_history history.es).volumes (Local name) volume b).reads x
  pub lasts : (es later : List Event) (place : ℕ) (key : Key) (volume : VolId) (at : ℕ) (blocks : List (List ℕ)) → history.es ≡ es ++ Acknowledges place key volume at blocks ∷ later → KeepDatabase key later → KeepVolume key volume later → Lasts new_history es later place key volume at blocks

abbrev pub BlocksHold : Type 0
BlocksHold = (drives : Geometry) (name : List ℕ) (made : Image) (ran : List Ran) (t : Tale) → Contains drives.hosts name → IsLife drives made ran t → BlocksAre drives name made ran t

-- A change drops places of the slice: the first place alone may be left on any.
abbrev pub DropsFrom : Change → SliceName → Type 0
DropsFrom (OfPlan change) slice = ⊥
DropsFrom (changes.AddPlaces slices count blocks) slice = ⊥
DropsFrom (changes.AddListed number) slice = ⊥
DropsFrom (changes.DropPlaces slices) slice = Contains slices slice
DropsFrom changes.FirstPlace slice = Unit {0}

-- it adds some there: what an entry says may be on any
abbrev pub AddsTo : Change → SliceName → Type 0
AddsTo (OfPlan change) slice = ⊥
AddsTo (changes.AddPlaces slices count blocks) slice = Contains slices slice
AddsTo (changes.AddListed number) slice = Unit {0}
AddsTo (changes.DropPlaces slices) slice = ⊥
AddsTo changes.FirstPlace slice = ⊥

-- one of these deeds drops places of the slice
abbrev pub MayHaveDropped : Key → List Deed → SliceName → Type 0
MayHaveDropped key deeds slice = (change : Change) × Contains deeds (Changed key change) × DropsFrom change slice

-- no change among these adds places on a slice from which an earlier one drops some
abbrev pub AddsNoneAgain : Key → List Deed → Type 0
AddsNoneAgain key asked = (before behind : List Deed) (change : Change) (slice : SliceName) → asked ≡ before ++ Changed key change ∷ behind → AddsTo change slice → MayHaveDropped key before slice → ⊥

-- So it is of what the lines of these runs may have begun, in order, with those of one more run that began there and came so far, at each moment of it.
abbrev pub LinesAddNoneAgain : Geometry → List ℕ → List Ran → ℕ → Script → Tale → Tale → Type 0
LinesAddNoneAgain drives name ran fresh script t m =
    (earlier : List Deed) → AreAsked drives name ran earlier
    → AddsNoneAgain (Local name) earlier
    × ((began : Tale) (bytes : List ℕ) (now : List Deed) → IsSince t began → IsSince began m → told began ≡ told t ++ bytes → AreBegun (host_of drives name fresh) script (replies_in bytes) (left_in bytes) now → AddsNoneAgain (Local name) (earlier ++ now))

-- then no boot of that run meets a stale vote
abbrev pub FairLinesMeetNone : Type 0
FairLinesMeetNone = (drives : Geometry) (name : List ℕ) (ran : List Ran) (fresh : ℕ) (script : Script) (t m : Tale) → LinesAddNoneAgain drives name ran fresh script t m → HasMetNone drives name ran fresh script t m
