-- What a command came to, told of the longer stretch that its reply ends.
use Rattle.std.proofs.Common.{◌≡◌, ◌⊎◌, inl, inr, ℕ, Bool, true, false, Option, None, Some, List, [], ◌∷◌, ◌++◌, length, sym, refl, ◌∙◌, ap, subst, rules}
use Rattle.mdv_base.specs.declared.refusal.Refusal.TheVariants as refusal
use Rattle.mdv_engine_law.specs.Below.{BootEnd, Drives, Image, Opened, Refusal, SliceLine, KeptOutside, Table, nowhere, Tale, told, Command, AddListed, AddPlaces, DropPlaces, Print, Read, Write, Line, blocks_of, meant}
use Rattle.mdv_words.specs.declared.command.Command.TheVariants.{Alter}
use Rattle.mdv_words.specs.Line as words
use Rattle.mdv_engine_law.specs.declared.answer.Answer.{Answer}
use Rattle.mdv_engine_law.specs.declared.answer.Answer.TheVariants.{Said, Over}
use Rattle.mdv_engine_law.specs.declared.answer.Outcome.TheVariants as outcome
use Rattle.mdv_engine_law.specs.declared.answer.Ended.{Ended}
use Rattle.mdv_engine_law.specs.declared.answer.Ended.TheVariants as ended
use Rattle.mdv_engine_law.specs.declared.answer.Outcome.{Outcome}
use Rattle.mdv_engine_law.specs.declared.answer.Reply.{Reply}
use Rattle.mdv_engine_law.specs.declared.answer.Reply.TheVariants as reply
use Rattle.mdv_engine_law.specs.declared.host.Host.{Host}
use Rattle.mdv_engine_law.specs.Commands as came
use Rattle.mdv_engine_law.specs.Commands.{CameTo, ComesTo, Effect, Fault, GivesUp, KeepsTab, LeavesPlaces, LeavesTable}
use Rattle.mdv_engine_law.specs.Moves.{IsDeletedOn, IsMovedOn, IsSpentChange, IsUndeletedOn, IsUnmovedOn, LeavesLists}
use Rattle.mdv_engine_law.specs.Places.{are_all}
use Rattle.mdv_places.specs.Asked.{Asks, KeepsFirst}
use Rattle.std.specs.Prelude.{MatchOption}
use Rattle.mdv_shelf.specs.Failing.{Outcomes}
use Rattle.mdv_store.specs.Boot.{IsEndBy, is_memory}
use Rattle.mdv_survey.specs.declared.replica.Survey.{Survey}
use Rattle.mdv_engine_law.specs.Line.{Memory, Kept, kept_at, contents, IsCreated, IsReadOf, IsRebooted, IsUncreated, WritesBy}
use Rattle.mdv_engine_law.specs.Replies.{Blame, IsTold, HasAnswerCause, HasCommandCause, IsReplyTo, reply_at, reply_to}
use Rattle.mdv_engine_law.specs.Efforts.{LineCalls, replied_to}
use Rattle.mdv_shelf.specs.Made.{Made}
use Rattle.mdv_engine_law.specs.Standing.{OnlyReplied, Executed}
use Rattle.mdv_engine_law.proofs.Efforts.{line_too, too_itself}
use Rattle.mdv_engine_law.proofs.Widening.{AreWithin, IsBlamed, beside_more, calm_more, committed_more, end_more, left_more, lost_records_more, made_more, match_more, moved_more, unmoved_more, now_more, blocks_more, read_more, writes_more, unmade_more, up_more}

-- a read of the drive gives what it gave
pub content_kept : (u v : Tale) → KeptOutside nowhere u v → contents u ≡ contents v
content_kept u v kept = sym same where
  same : contents v ≡ contents u
  same = λ i drive block. (kept drive block refl).last i

-- what came of the calls of a stretch came of those of the longer one
module _ (failed more : Outcomes) (cause : AreWithin failed more) (host : Host) (kept next : Kept) (answer : Answer) where
  by_more : (e : BootEnd) (up : Drives) → (is_memory e ≡ true) ⊎ ((survey : Survey) × IsReadOf failed host kept.content up e survey × IsEndBy failed (λ hand table progress. WritesBy host.drives host.site.key kept.content next.content hand.identity hand.number hand.seats table progress) host.site survey e)
      → (is_memory e ≡ true) ⊎ ((survey : Survey) × IsReadOf more host kept.content up e survey × IsEndBy more (λ hand table progress. WritesBy host.drives host.site.key kept.content next.content hand.identity hand.number hand.seats table progress) host.site survey e)
  by_more e up (inl memory) = inl memory
  by_more e up (inr by) = inr (by.0, read_more failed more cause host kept.content up e by.0 by.1, end_more failed more cause (λ hand table progress. WritesBy host.drives host.site.key kept.content next.content hand.identity hand.number hand.seats table progress) (λ hand table progress. WritesBy host.drives host.site.key kept.content next.content hand.identity hand.number hand.seats table progress) (λ hand table progress wrote. wrote) host.site by.0 e by.2)

  pub rebooted_more : IsRebooted failed host kept answer next → IsRebooted more host kept answer next
  rebooted_more is = record {
    end = is.end;
    up = is.up;
    clean = is.clean;
    up_by = up_more failed more cause host is.end is.up is.clean is.up_by;
    by = by_more is.end is.up is.by;
    answer_is = is.answer_is;
    memory = is.memory;
    content = is.content;
    beside = is.beside;
  }

  table_more : (o : Opened) (table : Table) (active listed : ℕ) → LeavesTable failed host o table active listed kept next → LeavesTable more host o table active listed kept next
  table_more o table active listed is = (let lost = is.lost in record {
    lost = record { new = lost.new; calm = beside_more failed more cause _ lost.calm; lost = now_more failed more cause o lost.new table lost.lost; few = lost.few };
    left = is.left;
    beside = is.beside;
  })

  -- of a change of places
  lists_more : (o : Opened) (asked : Asks) (active listed : ℕ) → LeavesLists failed host o asked active listed kept next → LeavesLists more host o asked active listed kept next
  lists_more o asked active listed is = (let lost = is.lost in record {
    lost = record { new = lost.new; calm = beside_more failed more cause _ lost.calm; lost = lost_records_more failed more cause host.drives o lost.new asked (record { active = active; listed = listed }) lost.lost };
    left = is.left;
    formed = is.formed;
    beside = is.beside;
  })

  spent_more : (o : Opened) → IsSpentChange failed o kept next → IsSpentChange more o kept next
  spent_more o is = record { calm = calm_more failed more cause is.calm; spent = is.spent; stays = is.stays }

  moved_on_more : (o : Opened) (asked : Asks) (clean : Bool) → IsMovedOn failed host o asked clean kept next → IsMovedOn more host o asked clean kept next
  moved_on_more o asked clean is = record {
    opened = is.opened;
    moved = moved_more failed more cause host.drives o is.opened asked clean is.moved;
    calm = beside_more failed more cause _ is.calm;
    memory = is.memory;
    content = is.content;
    formed = is.formed;
    wiped = record { all = is.wiped.all; each = λ a has none. is.wiped.each a has (λ some. none ((cause a.drive.0).some some)) };
    beside = is.beside;
  }

  unmoved_on_more : (o : Opened) (lines : List SliceLine) (count blocks : ℕ) → IsUnmovedOn failed host o lines count blocks kept next → IsUnmovedOn more host o lines count blocks kept next
  unmoved_on_more o lines count blocks is = record { unmoved = unmoved_more failed more cause host.drives o _ is.unmoved; memory = is.memory; content = is.content; beside = is.beside }

  deleted_more : (o : Opened) → IsDeletedOn failed host o kept next → IsDeletedOn more host o kept next
  deleted_more o is = record { calm = calm_more failed more cause is.calm; memory = is.memory; left = (is.left.0, moved_more failed more cause host.drives o is.left.0 KeepsFirst true is.left.1); wiped = is.wiped; beside = is.beside }

  undeleted_more : (o : Opened) → IsUndeletedOn failed host o kept next → IsUndeletedOn more host o kept next
  undeleted_more o (inl moved) = inl (moved_on_more o KeepsFirst false moved)
  undeleted_more o (inr is) = inr (record { first = is.first; is = is.is; failed = (cause is.first.drive.0).some is.failed; calm = beside_more failed more cause (is.first.drive ∷ []) is.calm; memory = is.memory; wiped = is.wiped; beside = is.beside })

  -- where no database is open, and where one is
  opened_more : (opened : Option Opened) {P Q : Type 0} {R S : Opened → Type 0} → (P → Q) → ((o : Opened) → R o → S o) → MatchOption opened P R → MatchOption opened Q S
  opened_more None none some is = none is
  opened_more (Some o) none some is = some o is

  places_left : (lines : List SliceLine) (count blocks active listed : ℕ) → LeavesPlaces failed host lines count blocks active listed kept next → LeavesPlaces more host lines count blocks active listed kept next
  places_left lines count blocks active listed is = (let lost = is.lost in record {
    lost = record { now = lost.now; tried = left_more failed more cause _ _ _ lost.tried; few = lost.few };
    calm = beside_more failed more cause _ is.calm;
    formed = is.formed;
    left = is.left;
    beside = is.beside;
  })

  created_more : (lines : List SliceLine) (count blocks : ℕ) → IsCreated failed host lines count blocks kept next → IsCreated more host lines count blocks kept next
  created_more lines count blocks is = record { opened = is.opened; made = made_more failed more cause _ _ _ _ _ is.opened is.made; calm = beside_more failed more cause _ is.calm; memory = is.memory; formed = is.formed; content = is.content; beside = is.beside }

  uncreated_more : (lines : List SliceLine) (count blocks : ℕ) → IsUncreated failed host lines count blocks kept next → IsUncreated more host lines count blocks kept next
  uncreated_more lines count blocks is = record { failed = unmade_more failed more cause _ _ _ _ _ is.failed; memory = is.memory; beside = is.beside }

  gives_up_more : (command : Command) (end : Ended) → GivesUp failed host kept command end next → GivesUp more host kept command end next
  gives_up_more (AddPlaces slices force count blocks) (ended.Lost active listed) is = opened_more kept.memory.opened (places_left _ count blocks active listed) (λ o. lists_more o _ active listed) is
  gives_up_more (AddPlaces slices force count blocks) ended.Spent is = opened_more kept.memory.opened (λ none. none) spent_more is
  gives_up_more (AddPlaces slices force count blocks) ended.Memory is = absurd is
  gives_up_more (AddPlaces slices force count blocks) (ended.NoQuorum readable needed) is = absurd is
  gives_up_more (AddPlaces slices force count blocks) (ended.TwoDatabases a b) is = absurd is
  gives_up_more (AddListed number force) end is = absurd is
  gives_up_more (DropPlaces slices force) (ended.Lost active listed) is = (is.0, is.1, lists_more is.0 _ active listed is.2)
  gives_up_more (DropPlaces slices force) ended.Spent is = (is.0, is.1, spent_more is.0 is.2)
  gives_up_more (DropPlaces slices force) ended.Memory is = absurd is
  gives_up_more (DropPlaces slices force) (ended.NoQuorum readable needed) is = absurd is
  gives_up_more (DropPlaces slices force) (ended.TwoDatabases a b) is = absurd is
  gives_up_more (Alter alteration) (ended.Lost active listed) is = (is.0, is.1, table_more is.0 _ active listed is.2)
  gives_up_more (Alter alteration) ended.Spent is = (calm_more failed more cause is.0, is.1, is.2, is.3, is.4)
  gives_up_more (Alter alteration) ended.Memory is = absurd is
  gives_up_more (Alter alteration) (ended.NoQuorum readable needed) is = absurd is
  gives_up_more (Alter alteration) (ended.TwoDatabases a b) is = absurd is
  gives_up_more (Read volume at count) end is = absurd is
  gives_up_more (Write volume at what) end is = absurd is
  gives_up_more (Print names) end is = absurd is

  fault_more : (command : Command) → Fault failed host kept command next → Fault more host kept command next
  fault_more (AddPlaces slices force count blocks) is = opened_more kept.memory.opened (uncreated_more _ count blocks) (λ o. unmoved_on_more o _ count blocks) is
  fault_more (AddListed number force) is = absurd is
  fault_more (DropPlaces slices force) is = (is.0, is.1, is.2, undeleted_more is.0 is.3)
  fault_more (Alter alteration) is = absurd is
  fault_more (Read volume at count) is = (blocks_more failed more cause host kept.memory volume at count is.0, is.1)
  fault_more (Write volume at what) is = (writes_more failed more cause host kept.memory volume at (length (blocks_of what)) is.0, is.1, is.2)
  fault_more (Print names) is = absurd is

  effect_more : (command : Command) → Effect failed host kept command answer next → Effect more host kept command answer next
  effect_more (AddPlaces slices force count blocks) is = (is.0, opened_more kept.memory.opened (created_more _ count blocks) (λ o moved. (moved.0, moved_on_more o _ moved.0 moved.1)) is.1)
  effect_more (AddListed number force) is = absurd is
  effect_more (DropPlaces slices force) is = (is.0, is.1, is.2, match_more (are_all is.1 slices) _ _ _ _ (deleted_more is.1) (λ moved. (moved.0, moved_on_more is.1 _ moved.0 moved.1)) is.3)
  effect_more (Alter alteration) is =
      (is.0, is.1, is.2, record { opened = is.3.opened; committed = committed_more failed more cause is.1 is.3.opened _ is.3.committed; calm = beside_more failed more cause _ is.3.calm; memory = is.3.memory; content = is.3.content; beside = is.3.beside })
  effect_more (Read volume at count) is = (calm_more failed more cause is.0, is.1, is.2, is.3, is.4, is.5, is.6, is.7)
  effect_more (Write volume at what) is = (calm_more failed more cause is.0, is.1, is.2, is.3, is.4, is.5)
  effect_more (Print names) is = (calm_more failed more cause is.0, is.1, is.2, is.3, is.4)

  pub came_more : (command : Command) → CameTo failed host kept command answer next → CameTo more host kept command answer next
  came_more command (came.refused calm refusal is left) = came.refused (calm_more failed more cause calm) refusal is left
  came_more command (came.wanting calm is left) = came.wanting (calm_more failed more cause calm) is left
  came_more command (came.done free effect) = came.done free (effect_more command effect)
  came_more command (came.faulted free is fault) = came.faulted free is (fault_more command fault)
  came_more command (came.over end free is gives) = came.over end free is (gives_up_more command end gives)

  keeps_more : (lines : List ℕ) → KeepsTab failed kept lines answer next → KeepsTab more kept lines answer next
  keeps_more lines (came.entered calm entries are is memory same) = came.entered (calm_more failed more cause calm) entries are is memory same
  keeps_more lines (came.unfit calm refusal why left) = came.unfit (calm_more failed more cause calm) refusal why left
  keeps_more lines (came.unread calm is left) = came.unread (calm_more failed more cause calm) is left

  pub comes_more : (line : Line) → ComesTo failed host kept line answer next → ComesTo more host kept line answer next
  comes_more words.Boot is = rebooted_more is
  comes_more (words.Tab lines) is = keeps_more lines is
  comes_more (words.Exec command) is = came_more (meant kept.memory.entries command) is

module _ (failed more : Type 0) (piece : List ℕ) (cause : failed → more) where
  pub told_more : (answer : Answer) (r : Reply) → IsTold failed answer r piece → IsTold more answer r piece
  told_more (Said this) r (inl whole) = inl whole
  told_more (Said this) r (inr cut) = inr (record { cause = cause cut.cause; given_is = cut.given_is; count = cut.count; front = cut.front })
  told_more (Over end) r is = is

-- why a reply came to a command
module _ (one all : Blame) (within : IsBlamed one all) (spends : Type 0) (replies more : Type 0) (piece : List ℕ) (other : replies → more) where
  refused_cause : (r : Refusal) → HasAnswerCause one spends (Said (outcome.Refused r)) → HasCommandCause all spends more (reply.Refused r)
  refused_cause refusal.BadLine cause = within.none cause
  refused_cause refusal.IoFault cause = within.some cause
  refused_cause other cause = search rules

  said_cause : (this : Outcome) → HasAnswerCause one spends (Said this) → HasCommandCause all spends more (reply_to this)
  said_cause outcome.Ok cause = within.done cause
  said_cause (outcome.Values text) cause = within.done cause
  said_cause (outcome.Refused refusal) cause = refused_cause refusal cause

  ended_cause : (end : Ended) → HasAnswerCause one spends (Over end) → HasCommandCause all spends more (reply_at end)
  ended_cause (ended.Lost active listed) cause = within.lost active listed cause
  ended_cause ended.Spent cause = (within.none cause.0, cause.1)
  ended_cause ended.Memory cause = absurd cause
  ended_cause (ended.NoQuorum readable needed) cause = absurd cause
  ended_cause (ended.TwoDatabases a b) cause = absurd cause

  pub command_cause : (answer : Answer) (r : Reply) → HasAnswerCause one spends answer → IsTold replies answer r piece → HasCommandCause all spends more r
  command_cause (Said this) r cause (inl whole) = subst (HasCommandCause all spends more) (sym whole.0) (said_cause this cause)
  command_cause (Said this) r cause (inr cut) = subst (HasCommandCause all spends more) (sym cut.given_is) (other cut.cause)
  command_cause (Over end) r cause is = subst (HasCommandCause all spends more) (sym is.0) (ended_cause end cause)

-- and to what is only said
pub reply_cause : (failed : Type 0) (piece : List ℕ) (this : Outcome) (r : Reply) → IsTold failed (Said this) r piece → IsReplyTo failed this r
reply_cause failed piece this r (inl whole) = inl whole.0
reply_cause failed piece this r (inr cut) = inr (cut.given_is, cut.cause)

-- a line that was carried out, and then replied to
pub executed : (calls failed : Outcomes) (replies more : Type 0) (made : Made) (host : Host) (line : Line) (old new : Memory) (answer : Answer) (r : Reply) (t u v : Tale) → AreWithin calls failed → (replies → more) → told u ≡ told t
    → ComesTo calls host (kept_at old t) line answer (kept_at new u) → OnlyReplied replies answer r u v → LineCalls calls (replied_to answer made) host (kept_at old t) line answer (kept_at new v)
    → Executed failed more made host line old new r t v
executed calls failed replies more made host line old new answer r t u v one other quiet carried given effort = record {
  answer = answer;
  carried = subst (λ (content : Image). ComesTo failed host (kept_at old t) line answer (record { memory = new; content = content })) (content_kept u v given.kept)
      (comes_more calls failed one host (kept_at old t) (kept_at new u) answer line carried);
  effort = line_too calls failed one (replied_to answer made) (replied_to answer made) (too_itself (replied_to answer made)) host (kept_at old t) line answer (kept_at new v) effort;
  replied = record {
    piece = given.replied.piece;
    is_told = given.replied.is_told ∙ ap (λ (l : List ℕ). l ++ given.replied.piece) quiet;
    as_told = told_more replies more given.replied.piece other answer r given.replied.as_told;
  };
}
