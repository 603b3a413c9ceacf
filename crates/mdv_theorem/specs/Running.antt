-- Runs of the hosts of one table of drives, as the contract of `run` has them, one behind the other, and one more that is under way.
use Rattle.std.specs.Prelude.{◌≡◌, ◌⊎◌, ℕ, List, [], ◌∷◌, Some, Contains, replicate}
use Rattle.mdv_base.specs.Causes.{Rose}
use Rattle.mdv_base.specs.declared.drive.DriveNo.{DriveNo}
use Rattle.mdv_base.specs.declared.name.Key.TheVariants.{Local}
use Rattle.mdv_home.specs.View.{own_view}
use Rattle.mdv_name.specs.declared.slice_lines.SliceLine.{SliceLine}
use Rattle.mdv_shown.specs.Sites.{site_of}
use Rattle.mdv_standing.specs.Holding.{HasNoReplica}
use Rattle.mdv_store.specs.Records.{Spells}
use Rattle.mdv_name.specs.declared.geometry.Geometry.{Geometry}
use Rattle.mdv_port.specs.Script.{Script}
use Rattle.mdv_run_law.specs.Lives.{HasMetNone, IsNewWord, MayBeFound, Ran, host_of}
use Rattle.mdv_run_law.specs.Run.{AreShown, At, Counts, IsShown, Stretch}
use Rattle.mdv_run_law.specs.Standing.{RunMoment}
use Rattle.mdv_run_law.specs.Told.{IsToldBy}
use Rattle.mdv_shelf.specs.Calls.{OnDrive}
use Rattle.mdv_shelf.specs.Everywhere.{Image}
use Rattle.mdv_shelf.specs.Story.{AtEach, Moment, OfTales, Story, tale_of}
use Rattle.mdv_shelf.specs.Tale.{Tale}
use Rattle.mdv_store_law.specs.Laws.{restarted}
use Rattle.mdv_config.specs.Slices.{IsSound}
use Rattle.mdv_theorem.specs.Exchanges.{Exchange, exchanges_of}

-- m is a moment of the run that began at t: the run's story began there, and what its moments show of the places between two lines holds of it
pub record IsMomentOf (stretch : Stretch) (t m : Moment) : Type 0 where
  pub begins : (s : Story) × (stretch.old ≡ Some s) × (tale_of s ≡ t.tale)
  pub shows : (bytes piece : ℕ) (at : At) → IsShown stretch bytes piece at → AreShown bytes piece at t m

-- Runs of any hosts of the table, one behind the other, which led from one start to another: each as its contract promises it, up to one of its moments, and with a word that no run of its
-- host had before.
pub data Runs (drives : Geometry) (first : List Ran) (from : Tale) : List Ran → Tale → Type 0 where
  no_run : Runs drives first from first from
  run_on : (ran : List Ran) (name : List ℕ) (fresh : ℕ) (stretch : Stretch) (start : Counts) (t m : Moment) (next : Tale) (script : Script) → Runs drives first from ran t.tale → Contains drives.hosts name → IsNewWord name fresh ran
      → (stands : RunMoment (host_of drives name fresh) script t.tale m.tale) → IsToldBy (host_of drives name fresh) stretch start script t m → IsMomentOf stretch t m → MayBeFound m.tale next
      → Runs drives first from (record { host = name; fresh = fresh; script = script; bytes = stands.bytes } ∷ ran) next

-- none of their boots met a stale vote
abbrev pub HaveMetNone : {drives : Geometry} {first : List Ran} {from : Tale} {ran : List Ran} {t : Tale} → Runs drives first from ran t → Type 0
HaveMetNone no_run = Unit {0}
HaveMetNone {drives} (run_on ran name fresh stretch start t m next script runs one_of new stands tells moment found) = HaveMetNone runs × HasMetNone drives name ran fresh script t.tale m.tale

-- new drives that hold this, whatever it is, as long as no host finds a replica there; and such runs since
pub record Lived (drives : Geometry) (made : Image) (ran : List Ran) (t : Tale) : Type 0 where
  -- the premises that a life has to meet, beside that no run has a word of an earlier one of its host: that the table of drives is sound, and that no boot met a stale vote
  pub fair : IsSound drives
  pub told : List ℕ
  pub new : (name : List ℕ) → Contains drives.hosts name → HasNoReplica (Spells (own_view drives name)) (own_view drives name) made
  pub runs : Runs drives [] (restarted made told) ran t
  pub clean : HaveMetNone runs

-- A run of a host from that start, which these runs led to, up to one of its moments: what was told by then is what the script asks for, and what the run's moments
-- show holds of it.
pub record Running (drives : Geometry) (name : List ℕ) (before : List Ran) (script : Script) : Type 0 where
  pub made : Image
  pub fresh : ℕ
  pub stretch : Stretch
  pub start : Counts
  pub t : Moment
  pub m : Moment
  pub life : Lived drives made before t.tale
  pub new_word : IsNewWord name fresh before
  pub clean : HasMetNone drives name before fresh script t.tale m.tale
  pub tells : IsToldBy (host_of drives name fresh) stretch start script t m
  pub moment : IsMomentOf stretch t m

module _ {drives : Geometry} {name : List ℕ} {before : List Ran} {script : Script} (run : Running drives name before script) where
  -- the lines that it has answered, with their replies, and the one in work
  abbrev pub exchanges_now : List Exchange
  exchanges_now = exchanges_of script run.tells.bytes

  -- no call on the drive failed in the run by then
  abbrev pub HasAnswered : DriveNo → Type 0
  HasAnswered drive = Rose (run.start.drives drive.0) (run.m.faults (OnDrive drive.0)) → ⊥

  -- none on any drive on which replicas of the host's may lie
  abbrev pub AllAnswered : Type 0
  AllAnswered = (line : SliceLine) → Contains (site_of (own_view drives name) (Local name)).lines line → HasAnswered line.at.drive

  -- it, if it is stopped there
  abbrev pub ran_now : Ran
  ran_now = record { host = name; fresh = run.fresh; script = script; bytes = run.tells.bytes }

-- At a moment of a run that began at t, by this stretch, these counts and this word of its identities, on what these runs led to: it is one of such a run under way, by the same; what the
-- contract of `run` says there holds; and whatever may be found of it those runs led to, and this one: from the new drives on (`lived`), and from any later start on as well (`adds`).
pub record LivesOn (drives : Geometry) (name : List ℕ) (made : Image) (before : List Ran) (fresh : ℕ) (script : Script) (stretch : Stretch) (start : Counts) (t m : Moment) : Type 0 where
  pub run : Running drives name before script
  pub held : run.made ≡ made
  pub numbered : run.fresh ≡ fresh
  pub stretched : run.stretch ≡ stretch
  pub counted : run.start ≡ start
  pub started : run.t ≡ t
  pub now : run.m ≡ m
  pub stands : RunMoment (host_of drives name fresh) script t.tale m.tale
  pub said : stands.bytes ≡ run.tells.bytes
  pub lived : (next : Tale) → MayBeFound m.tale next → Lived drives made (ran_now run ∷ before) next
  pub adds : (first : List Ran) (from : Tale) (runs : Runs drives first from before t.tale) (next : Tale) → MayBeFound m.tale next → (all : Runs drives first from (ran_now run ∷ before) next) × (HaveMetNone runs → HaveMetNone all)

-- What the contract of `run` says at each of its moments (its clauses `stands` and `tells`) makes it a run under way there, and one more run of a life wherever it is stopped, if no boot of it met a stale vote.
abbrev pub RunsLiveOn : Type 0
RunsLiveOn =
    (drives : Geometry) (name : List ℕ) (made : Image) (before : List Ran) (fresh : ℕ) (script : Script) (stretch : Stretch) (start : Counts) → Contains drives.hosts name → IsNewWord name fresh before
    → ((s : Story) → stretch.old ≡ Some s → Lived drives made before (tale_of s))
    → AtEach (OfTales (RunMoment (host_of drives name fresh) script)) stretch.old stretch.before stretch.new stretch.after
    → AtEach (OfTales (HasMetNone drives name before fresh script)) stretch.old stretch.before stretch.new stretch.after
    → AtEach (IsToldBy (host_of drives name fresh) stretch start script) stretch.old stretch.before stretch.new stretch.after
    → AtEach (LivesOn drives name made before fresh script stretch start) stretch.old stretch.before stretch.new stretch.after

-- A run under way is, at that moment or another of its own, what its contract says there, and the next run starts from what may be found of that. Which of the two is earlier it doesn't say.
pub record WentOn {drives : Geometry} {name : List ℕ} {before : List Ran} {script : Script} (run : Running drives name before script) (next : Tale) : Type 0 where
  pub m : Moment
  pub stands : RunMoment (host_of drives name run.fresh) script run.t.tale m.tale
  pub tells : IsToldBy (host_of drives name run.fresh) run.stretch run.start script run.t m
  pub moment : IsMomentOf run.stretch run.t m
  pub clean : HasMetNone drives name before run.fresh script run.t.tale m.tale
  pub found : MayBeFound m.tale next

-- as one of the runs of a life
abbrev pub ran_on : {drives : Geometry} {name : List ℕ} {before : List Ran} {script : Script} (run : Running drives name before script) (next : Tale) → WentOn run next → Ran
ran_on {name = name} {script = script} run next went = record { host = name; fresh = run.fresh; script = script; bytes = went.stands.bytes }

-- A run under way is so at each moment that lives on from the same start, earlier or later, and goes into whatever may be found of it: as a run of a life it is the one that is stopped there.
abbrev pub RunsGoOn : Type 0
RunsGoOn =
    (drives : Geometry) (name : List ℕ) (made : Image) (before : List Ran) (fresh : ℕ) (script : Script) (stretch : Stretch) (start : Counts) (t m : Moment) (next : Tale)
    → (run : Running drives name before script) → run.fresh ≡ fresh → run.stretch ≡ stretch → run.start ≡ start → run.t ≡ t
    → (later : LivesOn drives name made before fresh script stretch start t m) → MayBeFound m.tale next
    → (went : WentOn run next) × (went.m ≡ m) × (ran_on run next went ≡ ran_now later.run)

-- On new drives of zeros, with nothing past their ends, a life begins: no host finds a replica there.
abbrev pub LivesBegin : Type 0
LivesBegin = (drives : Geometry) (made : Image) (told : List ℕ) → IsSound drives → ((drive block : ℕ) → (made drive block ≡ replicate 512 0) ⊎ (made drive block ≡ [])) → Lived drives made [] (restarted made told)
