-- The end of a command and of a boot, put together, and what the answer says of a command that ended before anything was done.
use Rattle.std.specs.Prelude.{MatchOption}
use Rattle.mdv_places.specs.Asked.{Adds}
use Rattle.mdv_engine_law.specs.Moves.{drop_of}
use Rattle.std.proofs.Common.{◌≡◌, None, Some, ◌⊎◌, ◌≤◌, ◌+◌, ℕ, zero, suc, [], ◌∷◌, Option, Contains, refl, sym, subst, arith}
use Rattle.mdv_shelf.proofs.Moments.{ends_both}
use Rattle.mdv_words.specs.declared.command.Command.{Command}
use Rattle.mdv_words.specs.declared.command.Command.TheVariants.{AddListed, AddPlaces, Alter, DropPlaces, Print, Read, Write}
use Rattle.mdv_engine_law.proofs.Widening.{AreWithin, beside_more, left_more, lost_records_more}
use Rattle.mdv_shelf.specs.Made.{Made}
use Rattle.mdv_engine.specs.Below.{Outcomes, Key, Refusal, Ends, IoFault, Tale, Deed, Created, Answer, Host, Memory, Opened, lines_asked, kept_at, unbooted, CameTo, IsRebooted, IsPlain, CarriedTo, CarryEnd, Knows}
use Rattle.mdv_engine_law.specs.Answers.{IsMereRefusal, refusing}
use Rattle.mdv_engine_law.specs.Line.{Ask}
use Rattle.mdv_engine_law.specs.Commands.{MaySpend, blame_of}
use Rattle.mdv_engine_law.specs.Replies.{HasAnswerCause, IsAccepted}
use Rattle.mdv_engine_law.specs.Standing.{LeavesDone, LeavesTorn}
use Rattle.mdv_engine_law.specs.declared.answer.Answer.TheVariants.{Said, Over}
use Rattle.mdv_engine_law.specs.declared.answer.Ended.TheVariants as ended
use Rattle.mdv_engine_law.specs.declared.answer.Outcome.{Outcome}
use Rattle.mdv_engine.specs.declared.engine.Engine.{Engine}
use Rattle.mdv_engine.specs.Ends.{CarriedOut, HasAnswered, IsBootEnd, IsFew, LeavesBoth, LeavesMade, LeavesReplicas}
use Rattle.mdv_engine.specs.Engine.{IsWell}

module _ (calls : Outcomes) (old : Engine) (ask : Ask) (command : Command) (answer : Answer) (new : Engine) (a b : Option Tale)
    (came : Ends (λ t u. Knows old.host old.state t → CameTo calls old.host (kept_at old.state t) command answer (kept_at new.state u)) a b) (carried : Ends (CarriedTo old.host ask old.state answer new.state) a b) where
  abbrev Carry : Tale → Tale → Type 0
  Carry t u = CarryEnd (λ kept x next. CameTo calls old.host kept command x next) old.host ask old.state answer new.state t u

  abbrev Out : Tale → Tale → Type 0
  Out = CarriedOut calls old.host ask command old.state answer new.state

  abbrev pub Torn : Type 0
  Torn = answer ≡ refusing IoFault → (u : Tale) → LeavesTorn calls old.host old.state command u

  carry_ends : Ends Carry a b
  carry_ends = ends_both (λ t u. Knows old.host old.state t → CameTo calls old.host (kept_at old.state t) command answer (kept_at new.state u)) (CarriedTo old.host ask old.state answer new.state) Carry a b
      (λ t u one two. record { answered = one; carried = two }) came carried

  -- with what is left where it was done
  pub done_ends : ((active listed : ℕ) → answer ≡ Over (ended.Lost active listed) → ⊥) → Ends (λ t u. Knows old.host old.state t → LeavesDone calls old.host old.state command u) a b → Torn → Ends Out a b
  done_ends never left torn =
      ends_both Carry (λ t u. Knows old.host old.state t → LeavesDone calls old.host old.state command u) Out a b (λ t u carry done. record { carry = carry; done = λ known on. done known; lost = λ known active listed is. absurd (never active listed is); torn = λ known is. torn is u }) carry_ends left

  -- and where the run is over
  abbrev pub LeavesLost : Tale → Tale → Type 0
  LeavesLost t u = Knows old.host old.state t → (active listed : ℕ) → answer ≡ Over (ended.Lost active listed) → LeavesMade calls old.host old.state command active listed u

  pub lost_ends : (IsAccepted answer → ⊥) → Ends LeavesLost a b → Torn → Ends Out a b
  lost_ends never left torn = ends_both Carry LeavesLost Out a b (λ t u carry made. record { carry = carry; done = λ known on. absurd (never on); lost = made; torn = λ known is. torn is u }) carry_ends left

  -- where it is neither, or with another command than a write and one by which places come or go
  pub other_ends : (IsAccepted answer → (u : Tale) → LeavesDone calls old.host old.state command u) → ((active listed : ℕ) → answer ≡ Over (ended.Lost active listed) → (u : Tale) → LeavesMade calls old.host old.state command active listed u) → Torn → Ends Out a b
  other_ends done over torn t start = (let end = carry_ends t start in (end.0, end.1, record { carry = end.2; done = λ known on. done on end.0; lost = λ known active listed is. over active listed is end.0; torn = λ known is. torn is end.0 }))

-- where something is told
pub command_ends : (calls : Outcomes) (old : Engine) (ask : Ask) (command : Command) (this : Outcome) (new : Engine) (a b : Option Tale)
    → Ends (λ t u. Knows old.host old.state t → CameTo calls old.host (kept_at old.state t) command (Said this) (kept_at new.state u)) a b
    → Ends (CarriedTo old.host ask old.state (Said this) new.state) a b → (IsAccepted (Said this) → (u : Tale) → LeavesDone calls old.host old.state command u) → (Said this ≡ refusing IoFault → (u : Tale) → LeavesTorn calls old.host old.state command u) → Ends (CarriedOut calls old.host ask command old.state (Said this) new.state) a b
command_ends calls old ask command this new a b came carried done torn = other_ends calls old ask command (Said this) new a b came carried done (λ active listed is u. absurd (cc (is))) torn

-- and where a line is refused, whatever it asks
pub refused_ends : (calls : Outcomes) (old : Engine) (asked : Ask) (command : Command) (r : Refusal) (a b : Option Tale) → Ends (λ t u. Knows old.host old.state t → CameTo calls old.host (kept_at old.state t) command (refusing r) (kept_at old.state u)) a b
    → Ends (CarriedTo old.host asked old.state (refusing r) old.state) a b → (r ≡ IoFault → ⊥) → Ends (CarriedOut calls old.host asked command old.state (refusing r) old.state) a b
refused_ends calls old asked command r a b came carried never =
    ends_both (λ t u. Knows old.host old.state t → CameTo calls old.host (kept_at old.state t) command (refusing r) (kept_at old.state u)) (CarriedTo old.host asked old.state (refusing r) old.state) (CarriedOut calls old.host asked command old.state (refusing r) old.state) a b
    (λ t u one two. record { carry = record { answered = one; carried = two }; done = λ known on. absurd on; lost = λ known active listed is. absurd (cc (is)); torn = λ known is. absurd (never (cc (is))) }) came carried

-- what is left at the places, told of a longer stretch by which no further call failed
pub leaves_more : (failed more : Outcomes) → AreWithin failed more → (host : Host) (memory : Memory) (command : Command) (active listed : ℕ) (u : Tale) → LeavesMade failed host memory command active listed u → LeavesMade more host memory command active listed u
leaves_more failed more within host memory (AddPlaces slices force count blocks) active listed u leaves = by memory.opened leaves where
  by : (opened : Option Opened) → MatchOption opened (LeavesReplicas failed host memory.begun (lines_asked host slices) count blocks active listed u) (λ o. LeavesBoth failed host o (Adds (lines_asked host slices) count blocks) active listed u)
      → MatchOption opened (LeavesReplicas more host memory.begun (lines_asked host slices) count blocks active listed u) (λ o. LeavesBoth more host o (Adds (lines_asked host slices) count blocks) active listed u)
  by None made = record { lost = record { now = made.lost.now; tried = left_more failed more within _ _ _ made.lost.tried; few = made.lost.few }; formed = made.formed; left = made.left }
  by (Some o) both = record { lost = record { new = both.lost.new; calm = beside_more failed more within _ both.lost.calm; lost = lost_records_more failed more within host.drives o both.lost.new (Adds (lines_asked host slices) count blocks) _ both.lost.lost }; left = both.left; formed = both.formed }
leaves_more failed more within host memory (AddListed number force) active listed u leaves = tt
leaves_more failed more within host memory (DropPlaces slices force) active listed u (o, is, both) = (o, is, record { lost = record { new = both.lost.new; calm = beside_more failed more within _ both.lost.calm; lost = lost_records_more failed more within host.drives o both.lost.new (drop_of o slices) _ both.lost.lost }; left = both.left; formed = both.formed })
leaves_more failed more within host memory (Alter alteration) active listed u leaves = tt
leaves_more failed more within host memory (Read volume at count) active listed u leaves = tt
leaves_more failed more within host memory (Write volume at what) active listed u leaves = tt
leaves_more failed more within host memory (Print names) active listed u leaves = tt

-- a refusal before anything was done
pub refused_answer : (calls : Outcomes) (command : Command) (old : Engine) → IsWell old.host old.state → (r : Refusal) → HasAnswerCause (blame_of calls old.host old.state command) (MaySpend old.state command) (refusing r) → IsPlain r
    → IsMereRefusal (refusing r) ⊎ IsFew command → HasAnswered calls command old (refusing r) old
refused_answer calls command old well r cause plain few = record { plain = plain; cause = cause; lost = λ active listed is. absurd (cc (is)); free = λ on has none. absurd on; few = few; host = refl; well = λ on. well; begun = at_most old.state.begun }
  where
    at_most : (n : ℕ) → n ≤ n + 1
    at_most n = omega arith

-- a deed that is no creation
pub no_creation : (key : Key) (deed : Deed) → (deed ≡ Created key → ⊥) → Contains (deed ∷ []) (Created key) → ⊥
no_creation key deed other (zero, less, is) = other is
no_creation key deed other (suc n, less, is) = absurd (omega (arith, less))

-- what is in memory before a boot is forgotten, but for how many creations were begun
pub from_state : (calls : Outcomes) (made : Made) (host : Host) (old next new : Memory) (answer : Answer) (t u : Tale) → next ≡ new → IsBootEnd calls made host (unbooted old.begun) answer new t u → IsBootEnd calls made host old answer next t u
from_state calls made host old next new answer t u same end =
    subst (λ (m : Memory). IsBootEnd calls made host old answer m t u) (sym same) (record { rebooted = from end.rebooted; booted = end.booted; synced = end.synced; still = end.still; unwritten = end.unwritten; effort = end.effort })
  where
    from : IsRebooted calls host (kept_at (unbooted old.begun) t) answer (kept_at new u) → IsRebooted calls host (kept_at old t) answer (kept_at new u)
    from is = record { end = is.end; up = is.up; clean = is.clean; up_by = is.up_by; by = is.by; answer_is = is.answer_is; memory = is.memory; content = is.content; beside = is.beside }

-- what is open is one
pub one_open : (memory : Memory) (o p : Opened) → memory.opened ≡ Some o → memory.opened ≡ Some p → o ≡ p
one_open memory o p is same = cc (is, same)
