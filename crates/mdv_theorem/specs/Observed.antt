-- The theorem in a user's words: of scripts, replies and drives that answer, with no word of replicas, numbers or histories.
use Rattle.std.specs.Prelude.{◌≡◌, ◌≢◌, ◌⊎◌, ◌↔◌, ◌+◌, ◌-◌, ◌*◌, ◌^◌, ◌≤◌, ◌<◌, ℕ, Bool, None, List, [], ◌∷◌, ◌++◌, length, map, Option, Contains, true, count_by, Some}
use Rattle.mdv_base.specs.Causes.{Rose}
use Rattle.mdv_base.specs.declared.drive.DriveNo.{DriveNo}
use Rattle.mdv_base.specs.declared.drive.SliceName.{SliceName}
use Rattle.mdv_base.specs.declared.mark.Identity.{Identity}
use Rattle.mdv_base.specs.declared.name.Key.TheVariants.{Local}
use Rattle.mdv_base.specs.declared.name.Named.{Named}
use Rattle.mdv_base.specs.declared.name.Named.TheVariants as named
use Rattle.mdv_base.specs.declared.name.VolId.{VolId}
use Rattle.mdv_base.specs.declared.refusal.Refusal.{Refusal}
use Rattle.mdv_base.specs.declared.refusal.Refusal.TheVariants.{NeedForce, NoDatabase, NoSuchVolume, OutOfMemory, WrongState}
use Rattle.mdv_base.specs.declared.state_word.StateWord.{StateWord}
use Rattle.mdv_components.specs.Bases.{volume_of}
use Rattle.mdv_engine_law.specs.Replies.{IsRefusal, ok_line, refusal_line}
use Rattle.mdv_engine_law.specs.declared.host.Host.{Host}
use Rattle.mdv_home.specs.View.{own_view}
use Rattle.mdv_listing.specs.Listing.{listing_of}
use Rattle.mdv_map.specs.Maps.{HasDriveBlock, Map}
use Rattle.mdv_name.specs.SliceIndex.{HasSlice}
use Rattle.mdv_name.specs.declared.geometry.Geometry.{Geometry}
use Rattle.mdv_name.specs.declared.slice_lines.SliceAt.{SliceAt}
use Rattle.mdv_name.specs.declared.slice_lines.SliceLine.{SliceLine}
use Rattle.mdv_plan.specs.declared.table.Table.{Table}
use Rattle.mdv_port.specs.Script.{Script}
use Rattle.mdv_run_law.specs.Lives.{HasMetNone, IsNewWord, Ran, host_of}
use Rattle.mdv_run_law.specs.Run.{Counts, IsOfTable, IsWholeRun, Stretch, replies_failed, site_failed, source_failed}
use Rattle.mdv_run_law.specs.declared.status.RunStatus.{RunStatus}
use Rattle.mdv_run_law.specs.declared.status.RunStatus.TheVariants.{Done, NoMemory, NoQuorum, NumbersSpent, Panic, ReadFault, ScriptTooLong, SomeRefused, TwoDatabases, Usage, WriteFault}
use Rattle.mdv_run_law.specs.Standing.{RunMoment}
use Rattle.mdv_shelf.specs.Everywhere.{Image}
use Rattle.mdv_shelf.specs.Story.{AtEach, OfTales, Story, tale_of}
use Rattle.mdv_shelf.specs.Tale.{Tale}
use Rattle.mdv_shown.specs.Sites.{site_of}
use Rattle.mdv_status.specs.Telling.{replies_in}
use Rattle.mdv_status.specs.Values.{printed_reply, values_reply}
use Rattle.mdv_words.specs.Line.{blocks_of}
use Rattle.mdv_words.specs.declared.command.Command.{Command}
use Rattle.mdv_words.specs.declared.command.Command.TheVariants.{Print, Read, Write}
use Rattle.mdv_words.specs.declared.written.Written.{Written}
use Rattle.mdv_theorem.specs.Exchanges.{Asks, Exchange, IsAbout, IsAcknowledged, IsSameBlock, IsTold, TellsBlock, exchanges_by, exchanges_of}
use Rattle.mdv_theorem.specs.Running.{AllAnswered, HasAnswered, HaveMetNone, Lived, LivesOn, Running, Runs, WentOn, exchanges_now, ran_on}
use Rattle.mdv_theorem.specs.Words.{HasBegun, HasDatabase, HeldOrWasPut, IsMadeOn, IsOrWasWritten, IsThere, KeepsDatabase, MakesDatabase, MayCome, MayHave, MayLie, MayLieAt, MayLieOn}

-- How a run may end whose script could be read and whose replies could be told: with NoQuorum where fewer places were readable than are needed; with Panic only where fewer than half are active and a
-- call failed on a drive on which replicas may lie.
abbrev pub MayEnd : Type 0 → RunStatus → Type 0
MayEnd failed Done = Unit {0}
MayEnd failed SomeRefused = Unit {0}
MayEnd failed Usage = ⊥
MayEnd failed (NoQuorum readable needed) = readable < needed
MayEnd failed (Panic active listed) = failed × (2 * active < listed)
MayEnd failed ReadFault = ⊥
MayEnd failed WriteFault = ⊥
MayEnd failed NoMemory = Unit {0}
MayEnd failed (TwoDatabases a b) = a ≢ b
MayEnd failed (ScriptTooLong lines bytes) = Unit {0}
MayEnd failed NumbersSpent = Unit {0}

abbrev pub RunsEnd : Type 0
RunsEnd =
    (host : Host) (stretch : Stretch) (start end : Counts) (t : Tale) (tale : Option Tale) (script : Script) (status : RunStatus) → IsOfTable host → IsWholeRun host stretch start end t script tale status
    → (source_failed start end → ⊥) → (replies_failed start end → ⊥) → MayEnd (site_failed host start end) status

-- No run that begins on what earlier ones led to ends because two databases are there, where no line of them or of its own may have taken the database away, and if at each of its moments what its contract says of the drives holds (`stands`).
abbrev pub RunsFindOne : Type 0
RunsFindOne =
    (drives : Geometry) (name : List ℕ) (made : Image) (before : List Ran) (fresh : ℕ) (script : Script) (stretch : Stretch) (start end : Counts) (s : Story) → Contains drives.hosts name → IsNewWord name fresh before
    → stretch.old ≡ Some s → Lived drives made before (tale_of s) → AtEach (OfTales (RunMoment (host_of drives name fresh) script)) stretch.old stretch.before stretch.new stretch.after
    → AtEach (OfTales (HasMetNone drives name before fresh script)) stretch.old stretch.before stretch.new stretch.after
    → (tale : Option Tale) (status : RunStatus) → (whole : IsWholeRun (host_of drives name fresh) stretch start end (tale_of s) script tale status) → KeepsDatabase (exchanges_by name before ++ exchanges_of script whole.more)
    → (a b : Identity) → status ≡ TwoDatabases a b → ⊥

-- more than half of these slices lie on such drives
pub record MostLieOn (drives : Geometry) (name : List ℕ) (Is : DriveNo → Type 0) (slices : List SliceName) : Type 0 where
  pub chosen : SliceName → Bool
  pub most : length slices < 2 * count_by chosen slices
  pub each : (slice : SliceName) (at : SliceAt) → chosen slice ≡ true → HasSlice (own_view drives name).slices slice at → Is at.drive

-- no call failed on the drive between these counts
abbrev pub IsCalmOn : Counts → Counts → DriveNo → Type 0
IsCalmOn start end drive = Rose (start.drives drive.0) (end.drives drive.0) → ⊥

-- A run that is one of a life at each of its moments ends because too few places are readable only where a call failed on a drive on which replicas may lie, if no line of it, or of earlier runs, may have taken the database away;
-- and where such lines made the database, not where no call failed on the drives of more than half of the slices on which its replicas may lie by them, whichever these are.
abbrev pub RunsFindEnough : Type 0
RunsFindEnough =
    (drives : Geometry) (name : List ℕ) (made : Image) (before : List Ran) (fresh : ℕ) (script : Script) (stretch : Stretch) (start end : Counts) (s : Story) → Contains drives.hosts name → stretch.old ≡ Some s
    → AtEach (LivesOn drives name made before fresh script stretch start) stretch.old stretch.before stretch.new stretch.after
    → (tale : Option Tale) (status : RunStatus) → (whole : IsWholeRun (host_of drives name fresh) stretch start end (tale_of s) script tale status) → (readable needed : ℕ) → status ≡ NoQuorum readable needed
    → (KeepsDatabase (exchanges_by name before ++ exchanges_of script whole.more) → site_failed (host_of drives name fresh) start end)
    × ((made : IsMadeOn (exchanges_by name before ++ exchanges_of script whole.more)) → ((slices : List SliceName) → MayLieOn drives name made slices → MostLieOn drives name (IsCalmOn start end) slices) → ⊥)

-- half of these slices, or more, lie on such drives
pub record HalfLieOn (drives : Geometry) (name : List ℕ) (Is : DriveNo → Type 0) (slices : List SliceName) : Type 0 where
  pub chosen : SliceName → Bool
  pub half : length slices ≤ 2 * count_by chosen slices
  pub each : (slice : SliceName) (at : SliceAt) → chosen slice ≡ true → HasSlice (own_view drives name).slices slice at → Is at.drive

-- no drive on which replicas may lie has failed so often that its count stands at its type's end, where a failed call leaves it as one that is answered does
abbrev pub CanAllRise : Geometry → List ℕ → Counts → Type 0
CanAllRise drives name end = (line : SliceLine) → Contains (site_of (own_view drives name) (Local name)).lines line → end.drives line.at.drive.0 < 2 ^ 64 - 1

-- Drives enough for these slices' places to stay: no call failed on those of more than half of the slices, or of half of them, as long as the counts tell each failed call.
abbrev pub EnoughStay : Geometry → List ℕ → Counts → Counts → List SliceName → Type 0
EnoughStay drives name start end slices = MostLieOn drives name (IsCalmOn start end) slices ⊎ (HalfLieOn drives name (IsCalmOn start end) slices × CanAllRise drives name end)

-- Nor does it end because fewer than half of the places are active, where lines of it, or of earlier runs, made the database, and no call failed on the drives of half of the slices or more on which its replicas may lie by them.
abbrev pub RunsKeepEnough : Type 0
RunsKeepEnough =
    (drives : Geometry) (name : List ℕ) (made : Image) (before : List Ran) (fresh : ℕ) (script : Script) (stretch : Stretch) (start end : Counts) (s : Story) → Contains drives.hosts name → stretch.old ≡ Some s
    → AtEach (LivesOn drives name made before fresh script stretch start) stretch.old stretch.before stretch.new stretch.after
    → (tale : Option Tale) (status : RunStatus) (whole : IsWholeRun (host_of drives name fresh) stretch start end (tale_of s) script tale status)
    → (made : IsMadeOn (exchanges_by name before ++ exchanges_of script whole.more)) → ((slices : List SliceName) → MayLieOn drives name made slices → EnoughStay drives name start end slices) → (active listed : ℕ) → status ≡ Panic active listed → ⊥

-- A line of a run under way that was answered, behind other lines of it and those of earlier runs.
pub record Answered {drives : Geometry} {name : List ℕ} {before : List Ran} {script : Script} (run : Running drives name before script) (one : Exchange) (earlier : List Exchange) : Type 0 where
  pub here : List Exchange
  pub later : List Exchange
  pub is : exchanges_now run ≡ here ++ one ∷ later
  pub behind : earlier ≡ exchanges_by name before ++ here

-- A run that came to the end of its script has answered each line, and tells by its status whether one was refused.
abbrev pub RunsAnswer : Type 0
RunsAnswer =
    (host : Host) (stretch : Stretch) (start end : Counts) (t : Tale) (tale : Option Tale) (script : Script) (status : RunStatus) → (whole : IsWholeRun host stretch start end t script tale status)
    → (status ≡ Done) ⊎ (status ≡ SomeRefused)
    → ((one : Exchange) → Contains (exchanges_of script whole.more) one → one.reply ≡ None → ⊥) × ((status ≡ SomeRefused) ↔ ((reply : List ℕ) × Contains (replies_in whole.more) reply × IsRefusal reply))

-- more than half of these slices lie on drives that answered in the run
abbrev pub MostAnswered : {drives : Geometry} {name : List ℕ} {before : List Ran} {script : Script} → Running drives name before script → List SliceName → Type 0
MostAnswered {drives} {name} run slices = MostLieOn drives name (HasAnswered run) slices

-- Enough drives answered in the run for the host's database: each on which its replicas may lie; or, where these lines made it, those of more than half of the slices on which they may lie by them, whichever these are.
abbrev pub HaveAnswered : {drives : Geometry} {name : List ℕ} {before : List Ran} {script : Script} → Running drives name before script → List Exchange → Type 0
HaveAnswered {drives} {name} run lines = AllAnswered run ⊎ ((made : IsMadeOn lines) × ((slices : List SliceName) → MayLieOn drives name made slices → MostAnswered run slices))

-- Where lines show that there is a database, none behind them is told that there is none, nor one that adds replicas that it needs force to make one, or that none may be made in such a state, as long as enough drives answer for it.
abbrev pub DatabasesStay : Type 0
DatabasesStay =
    (drives : Geometry) (name : List ℕ) (before : List Ran) (script : Script) → Contains drives.hosts name → (run : Running drives name before script)
    → (one : Exchange) (earlier : List Exchange) (command : Command) → Answered run one earlier → HaveAnswered run earlier → HasDatabase earlier → Asks one command
    → (IsTold one (refusal_line NoDatabase) → ⊥) × (MakesDatabase command → IsTold one (refusal_line NeedForce) → ⊥) × (MakesDatabase command → (word : StateWord) → IsTold one (refusal_line (WrongState word)) → ⊥)

-- where lines show a volume to be there, none behind them on it, or that prints it alone, is told that it isn't, or that there is no database, as long as enough drives answer for the database
abbrev pub VolumesStay : Type 0
VolumesStay =
    (drives : Geometry) (name : List ℕ) (before : List Ran) (script : Script) → Contains drives.hosts name → (run : Running drives name before script)
    → (one : Exchange) (earlier : List Exchange) (volume : VolId) (command : Command)
    → Answered run one earlier → HaveAnswered run earlier → IsThere volume earlier → Asks one command → IsAbout volume command
    → (refusal : Refusal) → IsTold one (refusal_line refusal) → (refusal ≡ NoDatabase → ⊥) × (refusal ≡ NoSuchVolume → ⊥)

-- The volume keeps its copies of its first so many blocks in this run: wherever it may lie by these lines it has so many, each on a drive that answers.
pub record KeepsCopies {drives : Geometry} {name : List ℕ} {before : List Ran} {script : Script} (run : Running drives name before script) (volume : VolId) (lines : List Exchange) (end : ℕ) : Type 0 where
  pub within : (v : Map) → MayLie drives name volume v lines → end ≤ v.blocks
  pub answered : (v : Map) → MayLie drives name volume v lines → (b drive block : ℕ) → b < end → HasDriveBlock (v.copies b) drive block → HasAnswered run (record { 0 = drive })

-- The volume bears the losses of drives in this run, so that none takes the value of one of its first so many blocks back: wherever it may lie by these lines, and
-- has so many, each of them is on a drive that answered.
pub record Bears {drives : Geometry} {name : List ℕ} {before : List Ran} {script : Script} (run : Running drives name before script) (volume : VolId) (lines : List Exchange) (end : ℕ) : Type 0 where
  pub answered : (v : Map) → MayLie drives name volume v lines → end ≤ v.blocks → (b drive block : ℕ) → b < end → HasDriveBlock (v.copies b) drive block → HasAnswered run (record { 0 = drive })

-- values of so many blocks, from that one on
pub record AreValuesOf (at count : ℕ) (reply : List ℕ) : Type 0 where
  pub blocks : List (List ℕ)
  pub counted : length blocks ≡ count
  pub told : reply ≡ values_reply at blocks

-- A read of blocks of which the volume keeps its copies is told, with a value of each, or refused for want of memory.
abbrev pub ReadsAreTold : Type 0
ReadsAreTold =
    (drives : Geometry) (name : List ℕ) (before : List Ran) (script : Script) → Contains drives.hosts name → (run : Running drives name before script)
    → (one : Exchange) (earlier : List Exchange) (volume : VolId) (at count : ℕ)
    → Answered run one earlier → HaveAnswered run earlier → HasBegun volume earlier → Asks one (Read volume at count) → count ≤ 1024 → KeepsCopies run volume earlier (at + count)
    → (reply : List ℕ) → IsTold one reply → (reply ≡ refusal_line OutOfMemory) ⊎ AreValuesOf at count reply

-- A write of blocks of which the volume keeps its copies, of one or of many alike, is told `ok`, or refused for want of memory.
abbrev pub WritesAreTold : Type 0
WritesAreTold =
    (drives : Geometry) (name : List ℕ) (before : List Ran) (script : Script) → Contains drives.hosts name → (run : Running drives name before script)
    → (one : Exchange) (earlier : List Exchange) (volume : VolId) (at : ℕ) (what : Written)
    → Answered run one earlier → HaveAnswered run earlier → HasBegun volume earlier → Asks one (Write volume at what) → length (blocks_of what) ≤ 1024 → KeepsCopies run volume earlier (at + length (blocks_of what))
    → (reply : List ℕ) → IsTold one reply → (reply ≡ refusal_line OutOfMemory) ⊎ (reply ≡ ok_line)

-- the one and the other
pub record TransfersAreTold : Type 0 where
  pub reads : ReadsAreTold
  pub writes : WritesAreTold

-- The reply tells volumes as an md.tab does, a line for each, and `ok` behind them: those of these names, or all, of a table that the database may have by these lines, and has each that they show to be there.
pub record Lists (drives : Geometry) (name : List ℕ) (lines : List Exchange) (names : List Named) (reply : List ℕ) : Type 0 where
  pub table : Table
  pub may : MayHave drives name lines table
  pub there : (volume : VolId) → IsThere volume lines → volume_of table.plan volume ≡ None → ⊥
  pub told : reply ≡ printed_reply (listing_of table.plan names)

-- A print of volumes each of which lines show to be there tells just these, or is refused for want of memory, as long as enough drives answer for the database.
abbrev pub PrintsOfNames : Type 0
PrintsOfNames =
    (drives : Geometry) (name : List ℕ) (before : List Ran) (script : Script) → Contains drives.hosts name → (run : Running drives name before script)
    → (one : Exchange) (earlier : List Exchange) (first : VolId) (volumes : List VolId)
    → Answered run one earlier → HaveAnswered run earlier → ((volume : VolId) → Contains (first ∷ volumes) volume → IsThere volume earlier) → Asks one (Print (map named.Volume (first ∷ volumes)))
    → (reply : List ℕ) → IsTold one reply → (reply ≡ refusal_line OutOfMemory) ⊎ Lists drives name earlier (map named.Volume (first ∷ volumes)) reply

-- A print of no names, where lines show that there is a database, tells all its volumes, or is refused for want of memory, as long as enough drives answer for it.
abbrev pub PrintsOfAll : Type 0
PrintsOfAll =
    (drives : Geometry) (name : List ℕ) (before : List Ran) (script : Script) → Contains drives.hosts name → (run : Running drives name before script)
    → (one : Exchange) (earlier : List Exchange) → Answered run one earlier → HaveAnswered run earlier → HasDatabase earlier → Asks one (Print [])
    → (reply : List ℕ) → IsTold one reply → (reply ≡ refusal_line OutOfMemory) ⊎ Lists drives name earlier [] reply

-- What two prints tell: the first volumes of a table that the database may have by these lines before it, the other of one that the lines in between may have made of that. Where none of these may have
-- changed volumes, or taken the database away, the two are one.
pub record ListInTurn (drives : Geometry) (name : List ℕ) (earlier between : List Exchange) (names others : List Named) (reply other : List ℕ) : Type 0 where
  pub table : Table
  pub next : Table
  pub may : MayHave drives name earlier table
  pub since : MayCome (own_view drives name) between table next
  pub told : reply ≡ printed_reply (listing_of table.plan names)
  pub again : other ≡ printed_reply (listing_of next.plan others)

-- Two prints of one run that aren't refused tell volumes of one table, but for what the lines in between may have made of it.
abbrev pub PrintsAgree : Type 0
PrintsAgree =
    (drives : Geometry) (name : List ℕ) (before : List Ran) (script : Script) → Contains drives.hosts name → (run : Running drives name before script)
    → (print again : Exchange) (first between later : List Exchange) (names others : List Named) → exchanges_now run ≡ first ++ print ∷ between ++ again ∷ later
    → Asks print (Print names) → Asks again (Print others) → (reply other : List ℕ) → IsTold print reply → IsTold again other
    → ((refusal : Refusal) → reply ≡ refusal_line refusal → ⊥) → ((refusal : Refusal) → other ≡ refusal_line refusal → ⊥)
    → ListInTurn drives name (exchanges_by name before ++ first) between names others reply other

-- What a read tells of a block that was written, and the write acknowledged, is that write's, or one's that was issued later, unless a line in between may have taken the volume away.
abbrev pub WritesLast : Type 0
WritesLast =
    (drives : Geometry) (name : List ℕ) (before : List Ran) (script : Script) → Contains drives.hosts name → (run : Running drives name before script)
    → (read write : Exchange) (earlier first between : List Exchange) (volume : VolId) (number : ℕ) (old block : List ℕ) → Answered run read earlier → earlier ≡ first ++ write ∷ between
    → IsAcknowledged volume number old write → TellsBlock volume number block read → IsOrWasWritten volume number old between block

-- What a read tells of a block is what an earlier read of the run told of it, or was written in between, unless a line in between may have taken the volume away.
abbrev pub ReadsAgree : Type 0
ReadsAgree =
    (drives : Geometry) (name : List ℕ) (before : List Ran) (script : Script) → Contains drives.hosts name → (run : Running drives name before script)
    → (read again : Exchange) (first between later : List Exchange) (volume : VolId) (number : ℕ) (old block : List ℕ) → exchanges_now run ≡ first ++ read ∷ between ++ again ∷ later
    → TellsBlock volume number old read → TellsBlock volume number block again → IsOrWasWritten volume number old between block

-- What a read tells of a block is what the new drives held there, where the volume may lie, or was written there since, through it or through another volume that had the block then.
abbrev pub BlocksBegin : Type 0
BlocksBegin =
    (drives : Geometry) (name : List ℕ) (before : List Ran) (script : Script) → Contains drives.hosts name → (run : Running drives name before script)
    → (read : Exchange) (earlier : List Exchange) (volume : VolId) (number : ℕ) (block : List ℕ) → Answered run read earlier → TellsBlock volume number block read
    → (drive at : ℕ) × (bytes : List ℕ) × MayLieAt drives name earlier volume number drive at × HeldOrWasPut drives name run.made earlier drive at bytes × IsSameBlock block bytes

-- What a read tells of a block is what a read of an earlier run told of it, or was written in between, where the volume bore the losses of drives in that run, up to a moment at which that was told, and no line in between may have taken it away.
abbrev pub RunsAgree : Type 0
RunsAgree =
    (drives : Geometry) (name : List ℕ) (before more : List Ran) (script other : Script) (next t : Tale) → Contains drives.hosts name
    → (run : Running drives name before script) (went : WentOn run next) (runs : Runs drives (ran_on run next went ∷ before) next more t) → HaveMetNone runs → (later : Running drives name more other) → later.t.tale ≡ t
    → (read again : Exchange) (here rest behind first earlier : List Exchange) (volume : VolId) (number : ℕ) (old block : List ℕ)
    → exchanges_now run ≡ here ++ read ∷ rest → exchanges_of script went.stands.bytes ≡ here ++ read ∷ behind → first ≡ exchanges_by name before ++ here → Answered later again earlier
    → Bears run volume earlier (number + 1)
    → TellsBlock volume number old read → TellsBlock volume number block again → (since : List Exchange) → earlier ≡ first ++ read ∷ since → IsOrWasWritten volume number old since block
