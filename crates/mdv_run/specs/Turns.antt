-- How the lines of a run follow one another.
use Rattle.mdv_shelf.specs.Failing.{Outcomes}
use Rattle.std.specs.Prelude.{◌≡◌, ℕ, Bool, true, List, ◌++◌, Option, Some}
use Rattle.mdv_run.specs.Below.{Boot, IsLine, Script, Tale, told, Answer, Reply, Host, Kept, Memory, kept_at, Replied, RunStatus, NoQuorum, Panic, TwoDatabases, WriteFault, NoMemory, NumbersSpent, At, Counts, IsNextFront, LinesToldBy, LineTold, Runs, Stretch, IsAnswered, IsLeft, HasStatusCause}
use Rattle.mdv_base.specs.declared.refusal.Refusal.TheVariants.{IoFault}
use Rattle.mdv_engine_law.specs.Answers.{EndsUnwritten, accepted, refusing}
use Rattle.mdv_engine_law.specs.Replies.{IsReplied}
use Rattle.mdv_run_law.specs.Run.{IsUnwritten}
use Rattle.mdv_shelf.specs.Area.{KeptOutside, nowhere}
use Rattle.mdv_shelf.specs.Story.{Moment, Story}
use Rattle.mdv_shelf.specs.Made.{Made}
use Rattle.mdv_shelf.specs.Story.{Effort}
use Rattle.mdv_engine_law.specs.Efforts.{replied_to}
use Rattle.mdv_run_law.specs.Run.{EndsAt, IsLastShown, IsLostStatus, TextCalls, TextLeaves, TextTorn, TextWrites, Over as IsOver}
use Rattle.mdv_engine_law.specs.declared.answer.Reply.TheVariants as reply
use Rattle.mdv_run.specs.declared.session.Turn.{Turn}
use Rattle.mdv_run.specs.declared.session.Turn.TheVariants.{On, Over}

-- a line that was carried out and replied to, with so many calls, of which those on drives came out so and the giving of its reply may have failed, and the blocks
-- that it may write; none, where it is refused for another cause than a failed call and told so, nor by a boot that found nothing, nor where the run is over with it and no places were lost; and what it leaves that was told `ok`, or that a failed call ended
pub record LineAnswered (outcomes : Outcomes) (replies : Type 0) (made : Made) (host : Host) (text : List ℕ) (old new : Memory) (reply : Reply) (t u : Tale) : Type 0 where
  pub answer : Answer
  pub done : IsAnswered outcomes host (kept_at old t) text answer (kept_at new u)
  pub calls : TextCalls outcomes (replied_to answer made) host (kept_at old t) text answer (kept_at new u)
  pub writes : TextWrites host old text t u
  pub unwritten : IsReplied reply → IsUnwritten (IsLine text Boot) answer new → KeptOutside nowhere t u
  pub still : EndsUnwritten answer → KeptOutside nowhere t u
  pub leaves : IsReplied reply → answer ≡ accepted → TextLeaves outcomes host old text u
  pub torn : IsReplied reply → answer ≡ refusing IoFault → TextTorn outcomes host old text u
  pub replied : Replied replies answer reply t u

-- how a run goes on with a reply
abbrev pub turn_of : Reply → Bool → Turn
turn_of reply.Ok any = On any
turn_of (reply.Refused refusal) any = On true
turn_of (reply.Panic active listed) any = Over (Panic active listed)
turn_of reply.Spent any = Over NumbersSpent
turn_of reply.NoMemory any = Over NoMemory
turn_of reply.Told any = Over WriteFault
turn_of (reply.NoQuorum readable needed) any = Over (NoQuorum readable needed)
turn_of (reply.TwoDatabases a b) any = Over (TwoDatabases a b)

-- the run is over so with this turn
abbrev pub IsLostTurn : Turn → Type 0
IsLostTurn (On r) = ⊥
IsLostTurn (Over status) = IsLostStatus status

-- where bench and source are: how often each part had failed, the bench's story, and how many calls it made
pub record Point : Type 0 where
  pub counts : Counts
  pub story : Option Story
  pub effort : Effort

-- where a run is before a turn
abbrev pub at : Point → Kept → Bool → Script → At
at now kept refused script = record { counts = now.counts; story = now.story; effort = now.effort; kept = kept; refused = refused; script = script }

-- One turn told this piece: a line's reply, and the run goes on; or the run is over with it, by each stretch that ends there, and shows how often each drive
-- failed, and what it has.
abbrev pub Leads : Host → At → List ℕ → Point → Kept → Option Script → Turn → Type 0
Leads host from piece then kept before (On r) = (more : Script) × (before ≡ Some more) × LineTold host from piece (at then kept r more)
Leads host from piece then kept before (Over status) = (stretch : Stretch) (bytes : ℕ) → EndsAt stretch then.story then.effort → IsLastShown stretch bytes then.counts.drives kept.content → IsOver host stretch bytes then.counts from piece status kept

-- a turn, from one point to another, told by the script before it
pub record Turns (host : Host) (now then : Point) (old new : Memory) (refused : Bool) (script : Script) (before : Option Script) (turn : Turn) (t u : Tale) : Type 0 where
  pub piece : List ℕ
  pub is_told : told u ≡ told t ++ piece
  pub leads : Leads host (at now (kept_at old t) refused script) piece then (kept_at new u) before turn

abbrev pub HasTurnCause : Host → Counts → Counts → Turn → Type 0
HasTurnCause host now then (On r) = Unit {0}
HasTurnCause host now then (Over status) = HasStatusCause host now then status

abbrev pub IsOn : Turn → Type 0
IsOn (On r) = Unit {0}
IsOn (Over status) = ⊥

-- the lines of a run from that state on
pub record LinesRun (host : Host) (stretch : Stretch) (now : Point) (then : Counts) (old : Memory) (refused : Bool) (script : Script) (status : RunStatus) (t u : Tale) : Type 0 where
  pub more : List ℕ
  pub is_told : told u ≡ told t ++ more
  pub last : Kept
  pub left : IsLeft host status u last
  pub runs : Runs host stretch then (at now (kept_at old t) refused script) more status last

-- what was told of a turn by one of its moments, from that place in the run on: of the line's reply a front
pub record TurnFront (host : Host) (from : At) (t m : Moment) : Type 0 where
  pub bytes : List ℕ
  pub is_told : told m.tale ≡ told t.tale ++ bytes
  pub front : IsNextFront host from bytes m

-- and of the lines so far
pub record LinesFront (host : Host) (stretch : Stretch) (first : At) (t m : Moment) : Type 0 where
  pub bytes : List ℕ
  pub is_told : told m.tale ≡ told t.tale ++ bytes
  pub lines : LinesToldBy host stretch first bytes m
