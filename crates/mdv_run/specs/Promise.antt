-- What a run promises, of the whole bench and the whole source.
use Rattle.std.specs.Prelude.{◌≡◌, ◌≢◌, ◌⊎◌, ◌↔◌, ◌≤◌, ◌<◌, ◌+◌, ℕ, Bool, false, List, Option, Some}
use Rattle.mdv_run.specs.Below.{Reader, Script, line, asked_before, asked_of, Tale, Reply, IsReplied, Host, Memory, Engine, Knows, IsLostOnSite, IsWell, Site, StaysHome, own_view, site_of, TellsFront, IsAnswered, IsToldBy, kept_at, RunStatus, NoMemory, Usage, Counts, Stretch, counts, HasStatusCause, IsWholeRun, RunMoment, LinesMoment, RanTo}
use Rattle.mdv_shelf.specs.Calls.{RoseByAtMost}
use Rattle.mdv_shelf.specs.Shelves.{AtEachMoment, AtEachTale, AtEnd, DriveFailures, EndsTold, GivingFailed, GivingFailures, KeptInTime, RestsOnceTold}
use Rattle.mdv_shelf.specs.Made.{Made, effort_of, made_of, tally_of}
use Rattle.mdv_shelf.specs.Story.{OfTales}
use Rattle.mdv_shelf.specs.declared.shelf.Shelf.{Ghosts as Shelf}
use Rattle.mdv_port.specs.declared.source.Source.{Ghosts as Source}
use Rattle.mdv_run_law.specs.Told.{WorkWrites}
use Rattle.mdv_run_law.specs.Usage.{IsUsed}
use Rattle.mdv_base.specs.declared.name.Key.TheVariants.{Local}
use Rattle.mdv_shelf.specs.Failing.{Outcomes}
use Rattle.mdv_name.specs.declared.geometry.Geometry.{Geometry}
use Rattle.mdv_run.specs.declared.session.Turn.{Turn}
use Rattle.mdv_engine_law.specs.Replies.{IsLost, HasReplyCause}
use Rattle.mdv_engine_law.specs.declared.answer.Reply.TheVariants as reply
use Rattle.mdv_run.specs.Calls.{ScriptCalls, TurnTook, boot_calls}
use Rattle.mdv_run.specs.Turns.{LineAnswered, LinesFront, LinesRun, Point, TurnFront, Turns, at, HasTurnCause, IsOn, IsLostTurn}

-- how often each part had failed by then
abbrev pub by : {B I : Type 0} → Shelf B → Source I → B → I → Counts
by shelf source bench script = counts (shelf.faults bench) (source.faults script)

-- and where they are, with so many failures of the source
abbrev pub point_of : {B : Type 0} → Shelf B → ℕ → B → Point
point_of shelf source bench = record { counts = counts (shelf.faults bench) source; story = shelf.story bench; effort = effort_of shelf bench }

abbrev pub point_at : {B I : Type 0} → Shelf B → Source I → B → I → Point
point_at shelf source bench script = point_of shelf (source.faults script) bench

-- what the bench told and counted, from one point to another
abbrev pub between : {B : Type 0} → Shelf B → B → B → Stretch
between shelf old new = record { old = shelf.story old; before = tally_of shelf old; new = shelf.story new; after = tally_of shelf new }

-- bench and source are as they were: nothing was done, told or taken
abbrev pub IsUntouched : {B I : Type 0} → B → I → B → I → Type 0
IsUntouched old from new to = (new ≡ old) × (to ≡ from)

-- what holds of each host whose words and table of drives these are, with a shelf of such drives
abbrev pub OfEachUse : List (List ℕ) → List ℕ → List ℕ → (Geometry → List ℕ → Type 0) → Type 0
OfEachUse words text sizes P = (drives : Geometry) (name : List ℕ) → IsUsed words text sizes drives name → P drives name

-- what the host sees of a table of drives, and where its replicas may lie
pub record IsSeen (table : Geometry) (name : List ℕ) (view : Geometry) (site : Site) : Type 0 where
  pub view_is : view ≡ own_view table name
  pub site_is : site ≡ site_of view (Local name)

-- a use, and what of its table of drives a run begins with
pub record IsStart (words : List (List ℕ)) (text sizes : List ℕ) (view : Geometry) (site : Site) : Type 0 where
  pub table : Geometry
  pub name : List ℕ
  pub used : IsUsed words text sizes table name
  pub seen : IsSeen table name view site

-- A faulty use is told exactly where there is none of a host, but for want of memory; and where there is none, nothing was done.
pub record IsUsageOf (None Untouched : Type 0) (status : RunStatus) : Type 0 where
  pub exactly : status ≢ NoMemory → (status ≡ Usage) ↔ None
  pub untouched : None → Untouched

-- a run that wanted memory for the table of drives: nothing was done
pub record IsUnbegun {B I : Type 0} (old : B) (from : I) (new : B) (to : I) (status : RunStatus) : Type 0 where
  pub wanting : status ≡ NoMemory
  pub untouched : IsUntouched old from new to

-- The run of a host. Where bench and source tell what they hold, memory was wanting for the table of drives and nothing was done, or the
-- bytes told, the status and what is left are those that the script asks for; and at each moment the drives stand with their history so
-- far, and what was told by then is what the script asks for; nothing happens outside the host's area. Whatever they tell, a status has its cause.
-- A boot and the lines of the script take no more calls than these do one by one.
pub record HasRun {B I : Type 0} (shelf : Shelf B) (source : Source I) (host : Host) (old : B) (from : I) (new : B) (to : I) (status : RunStatus) : Type 0 where
  pub runs : (t : Tale) → shelf.tale old ≡ Some t → (input : List ℕ) → source.left from ≡ Some input
      → IsUnbegun old from new to status ⊎ IsWholeRun host (between shelf old new) (by shelf source old from) (by shelf source new to) t (asked_of input) (shelf.tale new) status
  pub stands : (input : List ℕ) → source.left from ≡ Some input → AtEachMoment shelf (OfTales (RunMoment host (asked_of input))) old new
  pub tells : (input : List ℕ) → source.left from ≡ Some input → AtEachMoment shelf (IsToldBy host (between shelf old new) (by shelf source old from) (asked_of input)) old new
  pub home : AtEachTale shelf (StaysHome host) old new
  pub causes : (status ≡ NoMemory) ⊎ HasStatusCause host (by shelf source old from) (by shelf source new to) status
  pub counted : (input : List ℕ) → source.left from ≡ Some input → (n : ℕ) → ScriptCalls host (asked_of input) n → RoseByAtMost (boot_calls host + n) (shelf.calls old) (shelf.calls new)

-- the lines of a run behind its boot, which left this memory
pub record HaveRun {B I : Type 0} (shelf : Shelf B) (source : Source I) (host : Host) (memory : Memory) (old : B) (from : I) (new : B) (to : I) (status : RunStatus) : Type 0 where
  pub runs : (input : List ℕ) → source.left from ≡ Some input
      → AtEnd shelf (λ t u. Knows host memory t → LinesRun host (between shelf old new) (point_at shelf source old from) (by shelf source new to) memory false (asked_of input) status t u) old new
  pub moments : (input : List ℕ) → source.left from ≡ Some input → AtEachTale shelf (LinesMoment host (asked_of input) memory) old new
  pub tells : (input : List ℕ) → source.left from ≡ Some input
      → AtEachMoment shelf (λ t m. Knows host memory t.tale → LinesFront host (between shelf old new) (at (point_at shelf source old from) (kept_at memory t.tale) false (asked_of input)) t m) old new
  pub home : AtEachTale shelf (StaysHome host) old new
  pub causes : HasStatusCause host (by shelf source old from) (by shelf source new to) status
  pub counted : (input : List ℕ) → source.left from ≡ Some input → (n : ℕ) → ScriptCalls host (asked_of input) n → RoseByAtMost n (shelf.calls old) (shelf.calls new)

-- one turn, in the end: what it told and led to, by the script before it, and what is known of the drive then
pub record TurnEnd (host : Host) (now later : Point) (old new : Memory) (refused : Bool) (script : Script) (before : Option Script) (turn : Turn) (t u : Tale) : Type 0 where
  pub turns : Knows host old t → Turns host now later old new refused script before turn t u
  pub ran : IsOn turn → (left : Script) → before ≡ Some left → RanTo host script old new left t u
  pub knows : (IsLostTurn turn → ⊥) → Knows host old t → Knows host new u

-- each script before the turn leads so to the one behind it
abbrev pub TurnEnds : {B I : Type 0} → Shelf B → Source I → Engine → Engine → B → B → I → I → Reader → Reader → Bool → Turn → Type 0
TurnEnds shelf source engine then bench on from to before after refused turn =
    (script : Script) → asked_before before (source.left from) ≡ Some script
    → AtEnd shelf (TurnEnd engine.host (point_at shelf source bench from) (point_at shelf source on to) engine.state then.state refused script (asked_before after (source.left to)) turn) bench on

-- what a turn says whatever bench and source tell: its cause, and what the engine and the reader are then
pub record TurnAnswer (now later : Counts) (host : Host) (engine : Engine) (before after : Reader) (left rest : Option (List ℕ)) (calls made : Option ℕ) (turn : Turn) : Type 0 where
  pub cause : HasTurnCause host now later turn
  pub source : now.source ≤ later.source
  pub same : engine.host ≡ host
  pub well : IsOn turn → IsWell host engine.state
  pub begun : engine.state.begun ≤ after.lines
  pub on : IsOn turn → (before.lines < after.lines) × (after.lines ≤ 1048576)
  pub counted : (script : Script) → asked_before before left ≡ Some script → (n : ℕ) → ScriptCalls host script n → TurnTook host turn (asked_before after rest) calls made n
  pub goes_on : IsOn turn → (script : Script) → asked_before before left ≡ Some script → (more : Script) × (asked_before after rest ≡ Some more)

abbrev pub TurnAnswers : {B I : Type 0} → Shelf B → Source I → Host → Engine → B → B → I → I → Reader → Reader → Turn → Type 0
TurnAnswers shelf source host engine bench on from to before after turn = TurnAnswer (by shelf source bench from) (by shelf source on to) host engine before after (source.left from) (source.left to) (shelf.calls bench) (shelf.calls on) turn

-- each script before the turn gives the line of which a front is told
abbrev pub TurnTells : {B I : Type 0} → Shelf B → Source I → Engine → B → B → I → Reader → Bool → Type 0
TurnTells shelf source engine bench on from before refused =
    (script : Script) → asked_before before (source.left from) ≡ Some script
    → AtEachMoment shelf (λ t m. Knows engine.host engine.state t.tale → TurnFront engine.host (at (point_at shelf source bench from) (kept_at engine.state t.tale) refused script) t m) bench on

-- a front of a line's reply; and where it was told whole, what the line led to
abbrev pub LineTells : {B : Type 0} → Shelf B → Engine → List ℕ → B → B → Type 0
LineTells shelf engine text bench on =
    AtEachMoment shelf (λ t m. Knows engine.host engine.state t.tale → TellsFront (λ failures kept answer next. IsAnswered failures engine.host kept text answer next) (λ new x y. (more : Script) → RanTo engine.host (line text more) engine.state new more x y) engine.state t m) bench on

-- the giving of a reply didn't fail, or there was none
abbrev pub IsUncut : Reply → Type 0
IsUncut given = given ≢ reply.Told

-- no block was written but those that a line with this text may write
abbrev pub IsWorkOf : Engine → List ℕ → Tale → Tale → Type 0
IsWorkOf engine text s m = (more : Script) → WorkWrites engine.host engine.state (line text more) s m

-- A line, or a turn: outside the host's area nothing happens, and of that no block is written but those that it may write; from the first byte of its reply on the drives are at rest, and where it was
-- told whole no call failed; unless it was cut short no giving failed at all; and a front of it is told by each moment.
pub record LineStays {B : Type 0} (shelf : Shelf B) (host : Host) (replied uncut Tells : Type 0) (Writes : Tale → Tale → Type 0) (old new : B) : Type 0 where
  pub home : AtEachTale shelf (StaysHome host) old new
  pub told : replied → EndsTold shelf old new
  pub given : uncut → (GivingFailures shelf old new).none
  pub rests : RestsOnceTold shelf old new
  pub writes : AtEachTale shelf Writes old new
  pub tells : Tells

-- of a line with this text
abbrev pub LineStaysAs : {B : Type 0} → Shelf B → Engine → List ℕ → B → B → Reply → Type 0
LineStaysAs shelf engine text bench on given = LineStays shelf engine.host (IsReplied given) (IsUncut given) (LineTells shelf engine text bench on) (IsWorkOf engine text) bench on

-- the same of a line that is given as something, by which it has one of these texts: a front of its reply is told, and its blocks are written, as of each of them
abbrev pub LinesStay : {B : Type 0} → Shelf B → Engine → (List ℕ → List ℕ) → (List ℕ → Type 0) → B → B → Reply → Type 0
LinesStay shelf engine text_of Is bench on given =
    LineStays shelf engine.host (IsReplied given) (IsUncut given) ((x : List ℕ) → Is x → LineTells shelf engine (text_of x) bench on)
    (λ s m. (x : List ℕ) → Is x → IsWorkOf engine (text_of x) s m) bench on

-- and of a turn, by each script before it
abbrev pub TurnWrites : {I : Type 0} → Source I → Engine → I → Reader → Tale → Tale → Type 0
TurnWrites source engine from before s m = (script : Script) → asked_before before (source.left from) ≡ Some script → WorkWrites engine.host engine.state script s m

abbrev pub TurnStays : {B I : Type 0} → Shelf B → Source I → Engine → B → B → I → Reader → Bool → Turn → Type 0
TurnStays shelf source engine bench on from before refused turn =
    LineStays shelf engine.host (IsOn turn) (IsOn turn) (TurnTells shelf source engine bench on from before refused) (TurnWrites source engine from before) bench on

-- one line, in the end: its answer and its reply, what is left of the script, and what is known of the drive then
pub record LineEnd (outcomes : Outcomes) (replies : Type 0) (made : Made) (host : Host) (text : List ℕ) (old new : Memory) (reply : Reply) (t u : Tale) : Type 0 where
  pub answered : Knows host old t → LineAnswered outcomes replies made host text old new reply t u
  pub ran : IsReplied reply → (more : Script) → RanTo host (line text more) old new more t u
  pub knows : (IsLost reply → ⊥) → Knows host old t → Knows host new u

abbrev pub LineEnds : {B : Type 0} → Shelf B → B → B → Host → List ℕ → Memory → Memory → Reply → Type 0
LineEnds shelf bench on host text old new reply = AtEnd shelf (LineEnd (DriveFailures shelf bench on) (GivingFailed shelf bench on) (made_of shelf bench on) host text old new reply) bench on

-- what a reply says whatever the bench tells: its cause, by whether a call failed on the drive of a slice where the host's replicas may lie, what the engine is then, and how many calls were made
pub record LineReply (calls : Outcomes) (replies : Type 0) (host : Host) (old : Memory) (Took : ℕ → Type 0) (before behind : Option ℕ) (engine : Engine) (reply : Reply) : Type 0 where
  pub counted : (n : ℕ) → Took n → RoseByAtMost n before behind
  pub cause : HasReplyCause (IsLostOnSite calls host) replies reply
  pub same : engine.host ≡ host
  pub well : IsReplied reply → IsWell host engine.state
  pub begun : engine.state.begun ≤ old.begun + 1

abbrev pub LineReplies : {B : Type 0} → Shelf B → Engine → B → B → (ℕ → Type 0) → Engine → Reply → Type 0
LineReplies shelf old bench on Took new reply = LineReply (DriveFailures shelf bench on) (GivingFailed shelf bench on) old.host old.state Took (shelf.calls bench) (shelf.calls on) new reply

-- the reply to a line that boots, which takes no more calls than a boot, and one; and no call was made behind one on the same part that failed
pub record BootReplies {B : Type 0} (shelf : Shelf B) (old : Engine) (bench on : B) (new : Engine) (reply : Reply) : Type 0 where
  pub line : LineReplies shelf old bench on (λ n. n ≡ boot_calls old.host + 1) new reply
  pub kept : KeptInTime shelf bench on
