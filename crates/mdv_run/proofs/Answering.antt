-- One line, answered.
use Rattle.mdv_shelf.specs.Moments.{IsSince}
use Rattle.mdv_shelf.specs.Failing.{AreCalm, Outcomes}
use Rattle.mdv_engine_law.specs.Replies.{Blame, HasCommandCause, HasEndCause, HasReplyCause, IsReplyTo, reply_at, reply_to}
use Rattle.mdv_engine_law.specs.declared.answer.Ended.{Ended}
use Rattle.mdv_engine_law.specs.declared.answer.Ended.TheVariants as ended
use Rattle.mdv_engine_law.specs.declared.answer.Outcome.{Outcome}
use Rattle.mdv_engine_law.specs.declared.answer.Outcome.TheVariants as outcome
use Rattle.mdv_engine_law.specs.declared.answer.Reply.TheVariants as reply
use Rattle.mdv_engine_law.specs.Line.{Nothing, Ask, asked_by}
use Rattle.std.proofs.Common.{◌≡◌, Option, Some, None, inl, inr, ℕ, ◌<◌, List, length, take, refl, sym, ◌∙◌, subst, arith}
use Rattle.mdv_run.specs.Below.{OutOfMemory, TooMany, Answer, IsAnswered, Kept, LinesMoment, meant, Script, line, tab_text, told, Tale, Spelled, Boot, IsLine, Reply, IsReplied, IsTold, IsTurnedDown, FailedOnSite, Host, IsLostOnSite, Memory, Engine, Executed, Knows, StaysHome, Turned, RanTo, kept_at}
use Rattle.mdv_run.specs.Promise.{IsUncut, IsWorkOf, LineStays, LineStaysAs, LinesStay}
use Rattle.mdv_run.specs.Turns.{LineAnswered}
use Rattle.mdv_words.specs.Line as words
use Rattle.mdv_words.proofs.Lines.{one_line}
use Rattle.mdv_engine_law.specs.Answers.{EndsUnwritten, accepted, refusing}
use Rattle.mdv_engine_law.proofs.Turning.{accepted_none, refused_none, turned}
use Rattle.mdv_engine_law.proofs.Knowing.{knows_kept}
use Rattle.mdv_engine_law.specs.Replies.{IsPlain}
use Rattle.mdv_engine_law.specs.Standing.{OnlyReplied}
use Rattle.mdv_base.specs.declared.refusal.Refusal.{Refusal}
use Rattle.mdv_base.specs.declared.refusal.Refusal.TheVariants.{IoFault}
use Rattle.mdv_shelf.specs.Made.{Made}
use Rattle.mdv_shelf.proofs.Made.{IsToo}
use Rattle.mdv_engine_law.proofs.Efforts.{line_too, none_too, replied_too}
use Rattle.mdv_engine_law.proofs.Staying.{stays_still}
use Rattle.mdv_engine_law.proofs.Widening.{AreWithin}
use Rattle.mdv_run_law.specs.Run.{AreSynced, IsMereRefusal, IsUnwritten, TextCalls}
use Rattle.mdv_engine.specs.Counts.{IsQuietRefusal}
use Rattle.mdv_engine_law.specs.Standing.{LeavesDone, LeavesTorn, LineWrites, TurnMoment, WritesOnly}
use Rattle.mdv_engine_law.specs.declared.answer.Answer.TheVariants.{Said, Over as Ends}
use Rattle.mdv_shelf.specs.Area.{KeptOutside, nowhere}
use Rattle.mdv_shelf.specs.declared.shelf.Shelf.{Ghosts as Shelf}
use Rattle.mdv_words.specs.declared.command.Command.{Command}
use Rattle.mdv_shelf.specs.Moments.{Moments}
use Rattle.mdv_shelf.proofs.Moments.{moments_end, moments_weaker, some_is}
use Rattle.mdv_run_law.proofs.Turning.{line_moment, line_ran, nothing_met}
use Rattle.mdv_run_law.proofs.Entries.{refused_entries, told_text}
use Rattle.mdv_run_law.specs.Standing.{HasEntries, IsWanting}
use Rattle.mdv_engine_law.proofs.Plain.{memory_plain, taken_front}
use Rattle.mdv_engine_law.proofs.Turning.{refusal_told}
use Rattle.mdv_engine_law.specs.Commands as came
use Rattle.mdv_engine_law.specs.Replies.{ok_line, refusal_line}
use Rattle.mdv_engine_law.specs.Standing.{TellMoment}
use Rattle.std.proofs.lemmas.List.{append_cancel_left, take_all}

-- its line is no `boot`
pub no_boot : (text : List ℕ) (spelled : Spelled) → IsLine text spelled → (Boot ≡ spelled → ⊥) → IsLine text Boot → ⊥
no_boot text spelled is other boot = other (one_line text Boot spelled boot is)

-- a refusal for another cause than a failed call, and an `ok`, that was told whole
pub quiet_reply : (failed : Type 0) (answer : Answer) (given : Reply) (piece : List ℕ) → IsTold failed answer given piece → IsReplied given → IsMereRefusal answer → IsQuietRefusal given
quiet_reply failed (Said outcome.Ok) given piece told on quiet = absurd quiet
quiet_reply failed (Said (outcome.Values text)) given piece told on quiet = absurd quiet
quiet_reply failed (Said (outcome.Refused refusal)) given piece (inl whole) on quiet = subst IsQuietRefusal (sym whole.0) (by refusal quiet) where
  by : (r : Refusal) → IsMereRefusal (refusing r) → IsQuietRefusal (reply.Refused r)
  by IoFault quiet = quiet
  by other quiet = quiet
quiet_reply failed (Said (outcome.Refused refusal)) given piece (inr cut) on quiet = absurd (subst IsReplied cut.given_is on)
quiet_reply failed (Ends end) given piece told on quiet = absurd quiet

pub accepted_reply : (failed : Type 0) (answer : Answer) (given : Reply) (piece : List ℕ) → IsTold failed answer given piece → IsReplied given → answer ≡ accepted → given ≡ reply.Ok
accepted_reply failed answer given piece told on is = by (subst (λ (a : Answer). IsTold failed a given piece) is told) where
  by : IsTold failed accepted given piece → given ≡ reply.Ok
  by (inl whole) = whole.0
  by (inr cut) = absurd (subst IsReplied cut.given_is on)

-- so where a call failed
pub fault_reply : (failed : Type 0) (answer : Answer) (given : Reply) (piece : List ℕ) → IsTold failed answer given piece → IsReplied given → answer ≡ refusing IoFault → given ≡ reply.Refused IoFault
fault_reply failed answer given piece told on is = by (subst (λ (a : Answer). IsTold failed a given piece) is told) where
  by : IsTold failed (refusing IoFault) given piece → given ≡ reply.Refused IoFault
  by (inl whole) = whole.0
  by (inr cut) = absurd (subst IsReplied cut.given_is on)

-- what was only told to be done is no refusal
pub loud_ok : (failed : Type 0) (given : Reply) → IsReplyTo failed outcome.Ok given → IsQuietRefusal given → ⊥
loud_ok failed given (inl whole) quiet = subst IsQuietRefusal whole quiet
loud_ok failed given (inr cut) quiet = subst IsQuietRefusal cut.0 quiet

-- the run is over with it, and no places were lost
abbrev pub IsStillEnd : Reply → Type 0
IsStillEnd reply.Ok = ⊥
IsStillEnd (reply.Refused refusal) = ⊥
IsStillEnd (reply.Panic active listed) = ⊥
IsStillEnd reply.Spent = Unit {0}
IsStillEnd reply.NoMemory = Unit {0}
IsStillEnd reply.Told = ⊥
IsStillEnd (reply.NoQuorum readable needed) = Unit {0}
IsStillEnd (reply.TwoDatabases a b) = Unit {0}

still_reply : (failed : Type 0) (answer : Answer) (given : Reply) (piece : List ℕ) → IsTold failed answer given piece → EndsUnwritten answer → IsStillEnd given
still_reply failed (Said this) given piece told still = absurd still
still_reply failed (Ends (ended.NoQuorum readable needed)) given piece told still = subst IsStillEnd (sym told.0) tt
still_reply failed (Ends (ended.TwoDatabases a b)) given piece told still = subst IsStillEnd (sym told.0) tt
still_reply failed (Ends (ended.Lost active listed)) given piece told still = absurd still
still_reply failed (Ends ended.Spent) given piece told still = subst IsStillEnd (sym told.0) tt
still_reply failed (Ends ended.Memory) given piece told still = subst IsStillEnd (sym told.0) tt

-- so of commands a change alone whose number is spent, and nothing that is only told
pub command_still : (blame : Blame) (spends replies : Type 0) (given : Reply) → HasCommandCause blame spends replies given → IsStillEnd given → given ≡ reply.Spent
command_still blame spends replies reply.Ok cause still = absurd still
command_still blame spends replies (reply.Refused refusal) cause still = absurd still
command_still blame spends replies (reply.Panic active listed) cause still = absurd still
command_still blame spends replies reply.Spent cause still = refl
command_still blame spends replies reply.NoMemory cause still = absurd cause
command_still blame spends replies reply.Told cause still = absurd still
command_still blame spends replies (reply.NoQuorum readable needed) cause still = absurd cause
command_still blame spends replies (reply.TwoDatabases a b) cause still = absurd cause

pub said_still : (failed : Type 0) (said : Outcome) (given : Reply) → IsReplyTo failed said given → IsStillEnd given → ⊥
said_still failed said given (inl whole) still = by said (subst IsStillEnd whole still) where
  by : (said : Outcome) → IsStillEnd (reply_to said) → ⊥
  by outcome.Ok still = still
  by (outcome.Values text) still = still
  by (outcome.Refused refusal) still = still
said_still failed said given (inr cut) still = subst IsStillEnd cut.0 still

-- a line that was carried out is answered
pub line_executed : (text : List ℕ) (spelled : Spelled) → IsLine text spelled → (outcomes : Outcomes) (replies : Type 0) (made : Made) (host : Host) (old new : Memory) (given : Reply) (t u : Tale) → Executed outcomes replies made host spelled old new given t u → LineWrites host spelled old t u
    → (IsQuietRefusal given → KeptOutside nowhere t u) → (IsStillEnd given → KeptOutside nowhere t u) → (spelled ≡ Boot → new.opened ≡ None → KeptOutside nowhere t u) → (given ≡ reply.Ok → (command : Command) → spelled ≡ words.Exec command → LeavesDone outcomes host old (meant old.entries command) u) → (given ≡ reply.Ok → spelled ≡ Boot → AreSynced host outcomes u)
    → (given ≡ reply.Refused IoFault → (command : Command) → spelled ≡ words.Exec command → LeavesTorn outcomes host old (meant old.entries command) u) → LineAnswered outcomes replies made host text old new given t u
line_executed text spelled is outcomes replies made host old new given t u done writes unwritten still empty leaves synced torn = record {
  answer = done.answer;
  done = inr (inl (spelled, is, done.carried));
  calls = inr (inl (spelled, is, done.effort));
  writes = inr (spelled, is, writes);
  unwritten = none;
  still = λ ends. still (still_reply replies done.answer given done.replied.piece done.replied.as_told ends);
  leaves = λ on ok.
      let told = accepted_reply replies done.answer given done.replied.piece done.replied.as_told on ok in
      record { done = λ command here. leaves told command (one_line text spelled (words.Exec command) is here); synced = λ here. synced told (one_line text spelled Boot is here) };
  torn = λ on ended command here. torn (fault_reply replies done.answer given done.replied.piece done.replied.as_told on ended) command (one_line text spelled (words.Exec command) is here);
  replied = done.replied;
} where
  none : IsReplied given → IsUnwritten (IsLine text Boot) done.answer new → KeptOutside nowhere t u
  none on (inl quiet) = unwritten (quiet_reply replies done.answer given done.replied.piece done.replied.as_told on quiet)
  none on (inr (boots, told, closed)) = empty (one_line text spelled Boot is boots) closed

-- what came of the calls of a stretch, told of itself
pub same_within : (outcomes : Outcomes) → AreWithin outcomes outcomes
same_within outcomes drive = record { some = λ is. is; none = λ is. is }

-- the calls of a line, told of another stretch
text_too : (outcomes : Outcomes) (one other : Made) → IsToo one other → (host : Host) (kept next : Kept) (text : List ℕ) (answer : Answer) → TextCalls outcomes one host kept text answer next → TextCalls outcomes other host kept text answer next
text_too outcomes one other too host kept next text answer (inl (never, none)) = inl (never, none_too outcomes outcomes (same_within outcomes) one other too none)
text_too outcomes one other too host kept next text answer (inr (inl (spelled, is, calls))) = inr (inl (spelled, is, line_too outcomes outcomes (same_within outcomes) one other too host kept spelled answer next calls))
text_too outcomes one other too host kept next text answer (inr (inr (want, none))) = inr (inr (want, none_too outcomes outcomes (same_within outcomes) one other too none))

pub answered_too : {outcomes : Outcomes} {replies : Type 0} {one : Made} {host : Host} {text : List ℕ} {old new : Memory} {reply : Reply} {t u : Tale} (other : Made) → IsToo one other → LineAnswered outcomes replies one host text old new reply t u → LineAnswered outcomes replies other host text old new reply t u
answered_too {outcomes} {replies} {one} {host} {text} {old} {new} {reply} {t} {u} other too done = record {
  answer = done.answer;
  done = done.done;
  calls = text_too outcomes _ _ (replied_too one other too done.answer) host (kept_at old t) (kept_at new u) text done.answer done.calls;
  writes = done.writes;
  unwritten = done.unwritten;
  still = done.still;
  leaves = done.leaves;
  torn = done.torn;
  replied = done.replied;
}

-- the blocks that it wrote in the end
pub turn_writes : (host : Host) (ask : Ask) (old : Memory) (a b : Option Tale) → Moments (TurnMoment host ask old) a b → (t u : Tale) → a ≡ Some t → b ≡ Some u → WritesOnly host ask old t u
turn_writes host ask old a b moments t u is_t is_u =
    let end = moments_end (TurnMoment host ask old) a b moments t is_t in
    subst (WritesOnly host ask old t) (some_is b end.0 u end.1 is_u) end.2.within

-- and where it stayed
pub turn_home : (host : Host) (ask : Ask) (old : Memory) (a b : Option Tale) → Moments (TurnMoment host ask old) a b → (t u : Tale) → a ≡ Some t → b ≡ Some u → StaysHome host t u
turn_home host ask old a b moments t u is_t is_u =
    let end = moments_end (TurnMoment host ask old) a b moments t is_t in
    subst (StaysHome host t) (some_is b end.0 u end.1 is_u) end.2.home

-- a line that asks nothing writes nothing by each of its moments
pub asks_none : (host : Host) (old : Memory) (Writes : Tale → Tale → Type 0) → ((s m : Tale) → KeptOutside nowhere s m → Writes s m) → (a b : Option Tale) → Moments (TurnMoment host Nothing old) a b → Moments Writes a b
asks_none host old Writes within a b moments = moments_weaker (TurnMoment host Nothing old) Writes a b (λ s m turn. within s m turn.within) moments

-- and one that is a command: its own
pub command_works : (engine : Engine) (text : List ℕ) (command : Command) → IsLine text (words.Exec command) → (a b : Option Tale) → Moments (TurnMoment engine.host (asked_by engine.host command) engine.state) a b → Moments (IsWorkOf engine text) a b
command_works engine text command is a b moments =
    moments_weaker (TurnMoment engine.host (asked_by engine.host command) engine.state) (IsWorkOf engine text) a b (λ s m turn more. inr (text, more, refl, words.Exec command, is, turn.within)) moments

-- the same of a line, told and written otherwise
module _ {B : Type 0} (shelf : Shelf B) (host : Host) (replied uncut Tells More : Type 0) (Writes Works : Tale → Tale → Type 0) (old new : B) where
  pub stays_else : (Tells → More) → ((s m : Tale) → Writes s m → Works s m) → LineStays shelf host replied uncut Tells Writes old new → LineStays shelf host replied uncut More Works old new
  stays_else tells works stays = record {
    home = stays.home;
    told = stays.told;
    given = stays.given;
    rests = stays.rests;
    writes = moments_weaker Writes Works _ _ works stays.writes;
    tells = tells stays.tells;
  }

-- as of one of its texts
pub stays_as : {B : Type 0} (shelf : Shelf B) (engine : Engine) (Is : List ℕ → Type 0) (bench on : B) (given : Reply) (text : List ℕ) → Is text → LinesStay shelf engine (λ x. x) Is bench on given → LineStaysAs shelf engine text bench on given
stays_as shelf engine Is bench on given text is = stays_else shelf engine.host (IsReplied given) (IsUncut given) _ _ (λ s m. (x : List ℕ) → Is x → IsWorkOf engine x s m) (IsWorkOf engine text) bench on (λ tells. tells text is) (λ s m works. works text is)

-- a refusal that was told, and nothing else happened
module _ (host : Host) (memory : Memory) (r : Refusal) (plain : IsPlain r) (replies : Type 0) (reply : Reply) (t u : Tale) (given : OnlyReplied replies (refusing r) reply t u) where
  pub refused_turned : (ask : Ask) → IsReplied reply → Turned host ask memory memory t u
  refused_turned ask on = turned host ask memory memory replies t t u refl (refusing r) plain (refused_none host ask memory r t) reply on given

  -- whose bytes are the refusal's
  pub refused_is : (ask : Ask) (on : IsReplied reply) → (refused_turned ask on).bytes ≡ refusal_line r
  refused_is ask on = told_text replies (outcome.Refused r) reply given.replied.piece (refused_turned ask on).bytes t u given.replied.as_told on given.replied.is_told (refused_turned ask on).is_told

  -- it leaves the entries as they were
  pub refused_keeps : (text : List ℕ) (ask : Ask) (on : IsReplied reply) → HasEntries text (refused_turned ask on).bytes (Some memory.entries) memory.entries
  refused_keeps text ask on = refused_entries text (refused_turned ask on).bytes r memory (refused_is ask on)

  pub refused_down : IsTurnedDown r (kept_at memory t) (refusing r) (kept_at memory u)
  refused_down = (refl, record { memory = refl; content = λ drive block. (given.kept drive block refl).last })

  pub refused_knows : Knows host memory t → Knows host memory u
  refused_knows = knows_kept host t u given.kept memory

-- an `ok` of a boot that was told
pub accepted_turned : (host : Host) (memory : Memory) (replies : Type 0) (reply : Reply) (t u : Tale) → OnlyReplied replies accepted reply t u → IsReplied reply → Turned host Nothing memory memory t u
accepted_turned host memory replies reply t u given on =
    turned host Nothing memory memory replies t t u refl accepted tt (accepted_none host memory t) reply on given

pub accepted_ok : (host : Host) (memory : Memory) (replies : Type 0) (reply : Reply) (t u : Tale) (given : OnlyReplied replies accepted reply t u) (on : IsReplied reply) → (accepted_turned host memory replies reply t u given on).bytes ≡ ok_line
accepted_ok host memory replies reply t u given on =
    told_text replies outcome.Ok reply given.replied.piece (accepted_turned host memory replies reply t u given on).bytes t u given.replied.as_told on given.replied.is_told (accepted_turned host memory replies reply t u given on).is_told

wanting_front : (count : ℕ) → IsWanting (take count (refusal_line OutOfMemory))
wanting_front count = taken_front (refusal_line OutOfMemory) count

pub wanting_whole : IsWanting (refusal_line OutOfMemory)
wanting_whole = subst IsWanting (take_all (length (refusal_line OutOfMemory)) (refusal_line OutOfMemory) (omega arith)) (wanting_front (length (refusal_line OutOfMemory)))

-- what a line is refused with where memory was wanting to read it, and what it leaves
module _ (host : Host) (text : List ℕ) (old : Memory) where
  pub unread_moment : (more : Script) (t m : Tale) → IsSince t m → TellMoment (refusal_line OutOfMemory) t m → LinesMoment host (line text more) old t m
  unread_moment more t m since tell =
      let turn = refusal_told host old Nothing OutOfMemory memory_plain t m tell in
      let front : turn.bytes ≡ take tell.count (refusal_line OutOfMemory) = append_cancel_left (told t) turn.bytes (take tell.count (refusal_line OutOfMemory)) (sym turn.is_told ∙ tell.is_told) in
      let wanting : IsWanting turn.bytes = subst IsWanting (sym front) (wanting_front tell.count) in
      line_moment host text Nothing more old t m (nothing_met host t) since turn (inr (refl, wanting)) (inr wanting)

  pub unread_ran : (replies : Type 0) (reply : Reply) (t u : Tale) → IsSince t u → OnlyReplied replies (refusing OutOfMemory) reply t u → IsReplied reply → (more : Script) → RanTo host (line text more) old old more t u
  unread_ran replies reply t u since given on more =
      let is = refused_is host old OutOfMemory memory_plain replies reply t u given Nothing on in
      let wanting : IsWanting (refused_turned host old OutOfMemory memory_plain replies reply t u given Nothing on).bytes = subst IsWanting (sym is) wanting_whole in
      line_ran host text Nothing more old old t u (nothing_met host t) since (refused_turned host old OutOfMemory memory_plain replies reply t u given Nothing on) (stays_still host t u given.kept) (inr (refl, wanting)) (inr wanting) (λ knows. refused_keeps host old OutOfMemory memory_plain replies reply t u given text Nothing on)

-- a `tab` block with too many bytes
pub many_comes : (lines : List ℕ) (outcomes : Outcomes) (host : Host) (kept next : Kept) (answer : Answer) → 65536 < length lines → AreCalm outcomes → IsTurnedDown TooMany kept answer next → IsAnswered outcomes host kept (tab_text lines) answer next
many_comes lines outcomes host kept next answer many calm down = inr (inl (words.Tab lines, refl, came.unfit calm TooMany (inl many) down))

-- why a line is replied to so: by what its command came to, by what was only told, or by the end of its boot
pub command_reply : (blame : Blame) (Lost : ℕ → ℕ → Type 0) (spends replies : Type 0) (given : Reply) → ((active listed : ℕ) → given ≡ reply.Panic active listed → Lost active listed) → HasCommandCause blame spends replies given → HasReplyCause Lost replies given
command_reply blame Lost spends replies reply.Ok lose cause = tt
command_reply blame Lost spends replies (reply.Refused refusal) lose cause = tt
command_reply blame Lost spends replies (reply.Panic active listed) lose cause = lose active listed refl
command_reply blame Lost spends replies reply.Spent lose cause = tt
command_reply blame Lost spends replies reply.NoMemory lose cause = tt
command_reply blame Lost spends replies reply.Told lose cause = cause
command_reply blame Lost spends replies (reply.NoQuorum readable needed) lose cause = absurd cause
command_reply blame Lost spends replies (reply.TwoDatabases a b) lose cause = absurd cause

said_reply : (Lost : ℕ → ℕ → Type 0) (replies : Type 0) (said : Outcome) → HasReplyCause Lost replies (reply_to said)
said_reply Lost replies outcome.Ok = tt
said_reply Lost replies (outcome.Values text) = tt
said_reply Lost replies (outcome.Refused refusal) = tt

pub told_reply : (Lost : ℕ → ℕ → Type 0) (replies : Type 0) (said : Outcome) (given : Reply) → IsReplyTo replies said given → HasReplyCause Lost replies given
told_reply Lost replies said given (inl whole) = subst (HasReplyCause Lost replies) (sym whole) (said_reply Lost replies said)
told_reply Lost replies said given (inr cut) = subst (HasReplyCause Lost replies) (sym cut.0) cut.1

-- a reply to what is only said was told whole, unless it was cut short
pub uncut_replied : (replies : Type 0) (said : Outcome) (given : Reply) → IsReplyTo replies said given → IsUncut given → IsReplied given
uncut_replied replies said given (inl whole) uncut = subst IsReplied (sym whole) (by said) where
  by : (said : Outcome) → IsReplied (reply_to said)
  by outcome.Ok = tt
  by (outcome.Values text) = tt
  by (outcome.Refused refusal) = tt
uncut_replied replies said given (inr cut) uncut = absurd (uncut cut.0)

-- a giving that failed in a stretch failed in the longer one
pub reply_more : (replies more : Type 0) → (replies → more) → (said : Outcome) (given : Reply) → IsReplyTo replies said given → IsReplyTo more said given
reply_more replies more cause said given (inl whole) = inl whole
reply_more replies more cause said given (inr cut) = inr (cut.0, cause cut.1)

pub ended_reply : (host : Host) (outcomes : Outcomes) (replies : Type 0) (end : Ended) → HasEndCause (FailedOnSite outcomes host) end → HasReplyCause (IsLostOnSite outcomes host) replies (reply_at end)
ended_reply host outcomes replies (ended.NoQuorum readable needed) cause = cause
ended_reply host outcomes replies (ended.TwoDatabases a b) cause = cause
ended_reply host outcomes replies (ended.Lost active listed) cause = cause
ended_reply host outcomes replies ended.Spent cause = tt
ended_reply host outcomes replies ended.Memory cause = tt
