-- How one turn of a run goes on from the script that is before it.
use Rattle.mdv_base.specs.Causes.{failures_of}
use Rattle.mdv_shelf.specs.Failing.{AreCalm}
use Rattle.mdv_base.proofs.Causes.{rose_of_once}
use Rattle.mdv_shelf.specs.Made.{made_between}
use Rattle.mdv_shelf.specs.Story.{Effort}
use Rattle.mdv_engine_law.specs.Efforts.{NoCalls, replied_to}
use Rattle.mdv_shelf.specs.Area.{KeptOutside, nowhere}
use Rattle.mdv_run.specs.Promise.{point_of}
use Rattle.std.proofs.Common.{◌≡◌, ◌≤◌, inl, inr, ℕ, Bool, true, List, [], ◌++◌, Option, Some, refl, sym, ◌∙◌, ap, subst}
use Rattle.mdv_run.specs.Below.{LineTooLong, Items, Script, at_end, spent, too_long, line, asked_before, IsItem, IsItemTurn, Item, TooLong, End, Spent, Tale, told, Answer, Reply, Host, IsLostOnSite, Memory, IsTold, IsReplied, Kept, IsTurnedDown, kept_at, Replied, RunStatus, NoQuorum, Panic, ReadFault, TwoDatabases, WriteFault, NoMemory, NumbersSpent, At, Counts, NextLine, OnDrive, OnReplies, RanTo, Stretch, IsAnswered, IsSame, contents}
use Rattle.mdv_run_law.specs.Run.{AreInTime, EndsAt, FromTo, IsPassage, IsUnwritten, NextBoots, NextCalls, NextLeaves, NextTorn, NextWrites, giving_failed, OnlyReplying, OnlyUngiven, OnlyUnread, RoseCalmly, drive_failures, Over as IsOver, broken, ended as script_ended, unread, EndsAs, EndsWith, IsSaid, refused_by}
use Rattle.mdv_base.specs.declared.refusal.Refusal.TheVariants.{IoFault}
use Rattle.mdv_engine_law.specs.Answers.{EndsUnwritten, accepted, refusing}
use Rattle.mdv_engine_law.specs.Replies.{HasReplyCause, IsLost, outcome_text, reply_at, reply_to, text_of}
use Rattle.mdv_engine_law.specs.declared.answer.Answer.TheVariants.{Said, Over as Ends}
use Rattle.mdv_engine_law.specs.declared.answer.Ended.{Ended}
use Rattle.mdv_engine_law.specs.declared.answer.Ended.TheVariants as ended
use Rattle.mdv_engine_law.specs.declared.answer.Outcome.{Outcome}
use Rattle.mdv_engine_law.specs.declared.answer.Outcome.TheVariants as outcome
use Rattle.mdv_engine_law.specs.declared.answer.Reply.TheVariants as reply
use Rattle.mdv_run.specs.declared.session.Turn.{Turn}
use Rattle.mdv_run.specs.declared.session.Turn.TheVariants.{On, Over}
use Rattle.mdv_run.specs.Promise.{IsUncut}
use Rattle.mdv_run.specs.Turns.{LineAnswered, Leads, Point, Turns, at, turn_of, HasTurnCause, IsOn, IsLostTurn}
use Rattle.std.proofs.lemmas.List.{append-nil}
use Rattle.std.specs.Option.{option_map}
use Rattle.mdv_shelf.specs.Shelves.{KeptInTime}
use Rattle.mdv_shelf.specs.Story.{Story, tale_of}
use Rattle.mdv_shelf.specs.declared.shelf.Shelf.{Ghosts}
use Rattle.mdv_shelf.proofs.Moments.{some_is}

-- the script that each answer of the reader comes from
pub end_is : (s : Script) (new : Items) (left : Option (List ℕ)) → IsItemTurn s End new left → s ≡ at_end
end_is at_end new left is = refl
end_is (spent lines bytes) new left is = absurd (cc (is))
end_is (too_long more) new left is = absurd (cc (is.0))
end_is (line text more) new left is = absurd (cc (is.0))

pub spent_is : (s : Script) (lines bytes : ℕ) (new : Items) (left : Option (List ℕ)) → IsItemTurn s (Spent lines bytes) new left → s ≡ spent lines bytes
spent_is at_end lines bytes new left is = absurd (cc (is.0))
spent_is (spent l b) lines bytes new left is = cc (is)
spent_is (too_long more) lines bytes new left is = absurd (cc (is.0))
spent_is (line text more) lines bytes new left is = absurd (cc (is.0))

pub long_is : (s : Script) (new : Items) (left : Option (List ℕ)) → IsItemTurn s TooLong new left → (more : Script) × (s ≡ too_long more) × (asked_before new.reader left ≡ Some more)
long_is at_end new left is = absurd (cc (is.0))
long_is (spent lines bytes) new left is = absurd (cc (is))
long_is (too_long more) new left is = (more, refl, is.1)
long_is (line text more) new left is = absurd (cc (is.0))

pub item_is : (s : Script) (new : Items) (left : Option (List ℕ)) → IsItemTurn s Item new left → (more : Script) × (text : List ℕ) × (s ≡ line text more) × IsItem text new.item × (asked_before new.reader left ≡ Some more)
item_is at_end new left is = absurd (cc (is.0))
item_is (spent lines bytes) new left is = absurd (cc (is))
item_is (too_long more) new left is = absurd (cc (is.0))
item_is (line text more) new left is = (more, text, refl, is.1, is.2)

-- counts of which the drives' and the source's are those behind a line, and those of the giving still those before it
abbrev carried_by : Counts → Counts → Counts
carried_by now then = record { drives = then.drives; source = then.source; replies = now.replies }

-- the counts behind a line's turn: no taking failed, and no giving unless its reply was cut short
pub record RoseInTurn (now then : Counts) (r : Reply) : Type 0 where
  pub drives : (drive : ℕ) → now.drives drive ≤ then.drives drive
  pub source : then.source ≡ now.source
  pub replies : now.replies ≤ then.replies
  pub given : IsUncut r → then.replies ≡ now.replies

rose_carried : (now then : Counts) (r : Reply) → RoseInTurn now then r → RoseCalmly now (carried_by now then)
rose_carried now then r rose = record { drives = rose.drives; source = rose.source; replies = refl }

rose_told : (now then : Counts) (r : Reply) → RoseInTurn now then r → OnlyUngiven (carried_by now then) then
rose_told now then r rose = record { drives = λ drive. refl; source = refl; replies = rose.replies }

rose_whole : (now then : Counts) (r : Reply) → RoseInTurn now then r → IsReplied r → RoseCalmly now then
rose_whole now then r rose on = record { drives = rose.drives; source = rose.source; replies = rose.given (λ is. subst IsReplied is on) }

-- where no giving failed the counts are those with the giving left out
same_carried : (now then : Counts) → then.replies ≡ now.replies → then ≡ carried_by now then
same_carried now then same = ap (λ (n : ℕ). let counted : Counts = record { drives = then.drives; source = then.source; replies = n } in counted) same

-- what was told whole was replied to
replied_whole : (this : Outcome) (r : Reply) → r ≡ reply_to this → IsReplied r
replied_whole this r is = subst IsReplied (sym is) (by this) where
  by : (this : Outcome) → IsReplied (reply_to this)
  by outcome.Ok = tt
  by (outcome.Values text) = tt
  by (outcome.Refused refusal) = tt

-- a turn's calls, from a point with this tale to one with that
pub record Passes (now then : Point) (t u : Tale) : Type 0 where
  pub in_time : AreInTime now.counts now.story then.story
  pub first : (s : Story) → now.story ≡ Some s → tale_of s ≡ t
  pub last : (s : Story) → then.story ≡ Some s → tale_of s ≡ u

pub passes_in_time : {S : Type 0} (shelf : Ghosts S) (telling : (s : S) → shelf.tale s ≡ option_map tale_of (shelf.story s)) (a b : S) (from to : ℕ) (t u : Tale) → KeptInTime shelf a b → shelf.tale a ≡ Some t → shelf.tale b ≡ Some u
    → Passes (point_of shelf from a) (point_of shelf to b) t u
passes_in_time shelf telling a b from to t u kept is_t is_u = record {
  in_time = record { drives = λ drive. kept.in_time (OnDrive drive); replies = kept.in_time OnReplies };
  first = λ s is. some_is (shelf.tale a) (tale_of s) t (telling a ∙ ap (λ (o : Option Story). option_map tale_of o) is) is_t;
  last = λ s is. some_is (shelf.tale b) (tale_of s) u (telling b ∙ ap (λ (o : Option Story). option_map tale_of o) is) is_u;
}

-- what holds from the one tale to the other holds between the points
from_to : (now then : Point) (t u : Tale) → Passes now then t u → (P : Tale → Tale → Type 0) → P t u → FromTo P now.story then.story
from_to now then t u passes P is s v is_s is_v = subst (λ (x : Tale). P x (tale_of v)) (sym (passes.first s is_s)) (subst (P t) (sym (passes.last v is_v)) is)

passage_of : (now then : Point) (t u : Tale) → Passes now then t u → (old new : Memory) (any : Bool) (script more : Script) (piece : List ℕ) → told u ≡ told t ++ piece → IsPassage (at now (kept_at old t) any script) piece (at then (kept_at new u) any more)
passage_of now then t u passes old new any script more piece is_told = record {
  in_time = passes.in_time;
  told = λ s v is_s is_v. ap told (passes.last v is_v) ∙ is_told ∙ ap (λ (x : Tale). told x ++ piece) (sym (passes.first s is_s));
  reads = λ v is_v. subst (λ (x : Tale). IsSame (contents u) (contents x)) (sym (passes.last v is_v)) (λ drive block. refl);
}

-- a run that is over with an answer tells no reply that could be cut short
ended_uncut : (end : Ended) (r : Reply) → r ≡ reply_at end → IsUncut r
ended_uncut (ended.Lost active listed) r is told = absurd (cc (is, told))
ended_uncut ended.Spent r is told = absurd (cc (is, told))
ended_uncut ended.Memory r is told = absurd (cc (is, told))
ended_uncut (ended.NoQuorum readable needed) r is told = absurd (cc (is, told))
ended_uncut (ended.TwoDatabases a b) r is told = absurd (cc (is, told))

-- what its answer says of the drives, where it was told whole, and of each history
record Tells (host : Host) (from : At) (then : Point) (answer : Answer) (next : Kept) (more : Script) : Type 0 where
  pub unwritten : IsUnwritten (NextBoots from.script) answer next.memory → FromTo (KeptOutside nowhere) from.story then.story
  pub leaves : answer ≡ accepted → FromTo (λ t u. NextLeaves (drive_failures from.counts then.counts) host from.kept.memory from.script u) from.story then.story
  pub torn : answer ≡ refusing IoFault → FromTo (λ t u. NextTorn (drive_failures from.counts then.counts) host from.kept.memory from.script u) from.story then.story
  pub leads : FromTo (RanTo host from.script from.kept.memory next.memory more) from.story then.story

-- how one turn leads on: its answer is the next line's, by whatever counts each drive failed as often
module _ (host : Host) (from : At) (then : Point) (r : Reply) (rose : RoseInTurn from.counts then.counts r) (next : Kept) (more : Script) (before : Option Script) (before_is : before ≡ Some more) (answer : Answer)
    (comes : (c : Counts) → RoseCalmly from.counts c → c.drives ≡ then.counts.drives → NextLine host from.counts from.kept from.script answer c next more) (calls : NextCalls (drive_failures from.counts then.counts) (replied_to answer (made_between from.effort then.effort)) host from.kept from.script answer next) (writes : FromTo (NextWrites host from.kept.memory from.script) from.story then.story) (still_by : EndsUnwritten answer → FromTo (KeptOutside nowhere) from.story then.story) (piece : List ℕ)
    (passage : IsPassage from piece (at then next from.refused more))
  where
    line_on : IsReplied r → Tells host from then answer next more → (any : Bool) → IsSaid answer → piece ≡ text_of answer → any ≡ refused_by answer from.refused → Leads host from piece then next before (On any)
    line_on on tells any said text is = (
      more,
      before_is,
      record {
        answer = answer;
        comes = comes then.counts (rose_whole from.counts then.counts r rose on) refl;
        calls = calls;
        writes = writes;
        unwritten = tells.unwritten;
        leaves = tells.leaves;
        torn = tells.torn;
        leads = tells.leads;
        said = said;
        as_text = text;
        as_refused = is;
        passage = record { in_time = passage.in_time; told = passage.told; reads = passage.reads };
      },
    )

    over_by : OnlyReplying answer (carried_by from.counts then.counts) then.counts → (status : RunStatus) → EndsWith (giving_failed from.counts then.counts) answer next piece status next → Leads host from piece then next before (Over status)
    over_by only status with = λ stretch bytes ends shown.
        broken answer (carried_by from.counts then.counts) next more (comes (carried_by from.counts then.counts) (rose_carried from.counts then.counts r rose) refl) shown only
        (record {
          in_time = subst (λ (o : Option Story). AreInTime from.counts from.story o) (sym ends.quiet) passage.in_time;
          calls = subst (λ (e : Effort). NextCalls (drive_failures from.counts then.counts) (replied_to answer (made_between from.effort e)) host from.kept from.script answer next) (sym ends.uncalled) calls;
          writes = λ s u is_s is_u. writes s u is_s (sym ends.quiet ∙ is_u);
          unwritten = λ still s u is_s is_u. still_by still s u is_s (sym ends.quiet ∙ is_u);
        }) with

-- what a reply leads to, by its answer
leads : (host : Host) (from : At) (then : Point) (r : Reply) → RoseInTurn from.counts then.counts r → (next : Kept) (more : Script) (before : Option Script) → before ≡ Some more → (answer : Answer) (piece : List ℕ)
    → ((c : Counts) → RoseCalmly from.counts c → c.drives ≡ then.counts.drives → NextLine host from.counts from.kept from.script answer c next more) → NextCalls (drive_failures from.counts then.counts) (replied_to answer (made_between from.effort then.effort)) host from.kept from.script answer next → FromTo (NextWrites host from.kept.memory from.script) from.story then.story → (EndsUnwritten answer → FromTo (KeptOutside nowhere) from.story then.story)
    → IsPassage from piece (at then next from.refused more) → (IsReplied r → Tells host from then answer next more)
    → IsTold (giving_failed from.counts then.counts) answer r piece → Leads host from piece then next before (turn_of r from.refused)
leads host from then r rose next more before is (Said this) piece comes calls writes still_by passage tells (inl whole) = subst (λ (x : Reply). Leads host from piece then next before (turn_of x from.refused)) (sym whole.0) (by this comes calls (tells on) whole.1) where
  on : IsReplied r
  on = replied_whole this r whole.0

  by : (this : Outcome) → ((c : Counts) → RoseCalmly from.counts c → c.drives ≡ then.counts.drives → NextLine host from.counts from.kept from.script (Said this) c next more) → NextCalls (drive_failures from.counts then.counts) (replied_to (Said this) (made_between from.effort then.effort)) host from.kept from.script (Said this) next → Tells host from then (Said this) next more → piece ≡ outcome_text this → Leads host from piece then next before (turn_of (reply_to this) from.refused)
  by outcome.Ok comes calls tells is_text = line_on host from then r rose next more before is (Said outcome.Ok) comes calls writes still_by piece passage on tells from.refused tt is_text refl
  by (outcome.Values text) comes calls tells is_text = line_on host from then r rose next more before is (Said (outcome.Values text)) comes calls writes still_by piece passage on tells from.refused tt is_text refl
  by (outcome.Refused refusal) comes calls tells is_text = line_on host from then r rose next more before is (Said (outcome.Refused refusal)) comes calls writes still_by piece passage on tells true tt is_text refl
leads host from then r rose next more before is (Said this) piece comes calls writes still_by passage tells (inr cut) =
    subst (λ (x : Reply). Leads host from piece then next before (turn_of x from.refused)) (sym cut.given_is)
    (over_by host from then r rose next more before is (Said this) comes calls writes still_by piece passage (rose_told from.counts then.counts r rose) WriteFault (record { cause = cut.cause; count = cut.count; front = cut.front; ended = refl; keeps = refl }))
leads host from then r rose next more before is (Ends end) piece comes calls writes still_by passage tells told = subst (λ (x : Reply). Leads host from piece then next before (turn_of x from.refused)) (sym told.0) (by end comes calls still_by) where
  only : then.counts ≡ carried_by from.counts then.counts
  only = same_carried from.counts then.counts (rose.given (ended_uncut end r told.0))

  by : (end : Ended) → ((c : Counts) → RoseCalmly from.counts c → c.drives ≡ then.counts.drives → NextLine host from.counts from.kept from.script (Ends end) c next more) → NextCalls (drive_failures from.counts then.counts) (replied_to (Ends end) (made_between from.effort then.effort)) host from.kept from.script (Ends end) next → (EndsUnwritten (Ends end) → FromTo (KeptOutside nowhere) from.story then.story) → Leads host from piece then next before (turn_of (reply_at end) from.refused)
  by (ended.Lost active listed) comes calls still_by = over_by host from then r rose next more before is (Ends (ended.Lost active listed)) comes calls writes still_by piece passage only (Panic active listed) (record { silent = told.1; ended = refl; keeps = refl })
  by ended.Spent comes calls still_by = over_by host from then r rose next more before is (Ends ended.Spent) comes calls writes still_by piece passage only NumbersSpent (record { silent = told.1; ended = refl; keeps = refl })
  by ended.Memory comes calls still_by = over_by host from then r rose next more before is (Ends ended.Memory) comes calls writes still_by piece passage only NoMemory (record { silent = told.1; ended = refl; keeps = refl })
  by (ended.NoQuorum readable needed) comes calls still_by = over_by host from then r rose next more before is (Ends (ended.NoQuorum readable needed)) comes calls writes still_by piece passage only (NoQuorum readable needed) (record { silent = told.1; ended = refl; keeps = refl })
  by (ended.TwoDatabases a b) comes calls still_by = over_by host from then r rose next more before is (Ends (ended.TwoDatabases a b)) comes calls writes still_by piece passage only (TwoDatabases a b) (record { silent = told.1; ended = refl; keeps = refl })

-- a line
pub leads_line : (now then : Point) (r : Reply) → RoseInTurn now.counts then.counts r → (host : Host) (old new : Memory) (any : Bool) (s more : Script) (text : List ℕ) (before : Option Script) (t u : Tale) → Passes now then t u
    → s ≡ line text more → before ≡ Some more → LineAnswered (drive_failures now.counts then.counts) (giving_failed now.counts then.counts) (made_between now.effort then.effort) host text old new r t u → (IsReplied r → RanTo host (line text more) old new more t u) → Turns host now then old new any s before (turn_of r any) t u
leads_line now then r rose host old new any s more text before t u passes is next done led = record {
  piece = done.replied.piece;
  is_told = done.replied.is_told;
  leads = leads host (at now (kept_at old t) any s) then r rose (kept_at new u) more before next done.answer done.replied.piece
      (λ c up same. subst (λ (x : Script). NextLine host now.counts (kept_at old t) x done.answer c (kept_at new u) more) (sym is)
      (refl, up, subst (λ (f : ℕ → ℕ). IsAnswered (λ drive. failures_of (now.counts.drives drive) (f drive)) host (kept_at old t) text done.answer (kept_at new u)) (sym same) done.done))
      (subst (λ (x : Script). NextCalls (drive_failures now.counts then.counts) (replied_to done.answer (made_between now.effort then.effort)) host (kept_at old t) x done.answer (kept_at new u)) (sym is) done.calls)
      (from_to now then t u passes (NextWrites host old s) (subst (λ (x : Script). NextWrites host old x t u) (sym is) done.writes))
      (λ still. from_to now then t u passes (KeptOutside nowhere) (done.still still))
      (passage_of now then t u passes old new any s more done.replied.piece done.replied.is_told)
      (λ on. record {
        unwritten = λ quiet. from_to now then t u passes (KeptOutside nowhere) (done.unwritten on (subst (λ (x : Script). IsUnwritten (NextBoots x) done.answer new) is quiet));
        leaves = λ ok. from_to now then t u passes (λ _ v. NextLeaves (drive_failures now.counts then.counts) host old s v) (subst (λ (x : Script). NextLeaves (drive_failures now.counts then.counts) host old x u) (sym is) (done.leaves on ok));
        torn = λ ended. from_to now then t u passes (λ _ v. NextTorn (drive_failures now.counts then.counts) host old s v) (subst (λ (x : Script). NextTorn (drive_failures now.counts then.counts) host old x u) (sym is) (done.torn on ended));
        leads = from_to now then t u passes (RanTo host s old new more) (subst (λ (x : Script). RanTo host x old new more t u) (sym is) (led on));
      }) done.replied.as_told;
}

-- a line that was too long
pub leads_long : (now then : Point) (r : Reply) → RoseInTurn now.counts then.counts r → AreCalm (drive_failures now.counts then.counts) → (host : Host) (old : Memory) (any : Bool) (s more : Script) (before : Option Script) (t u : Tale) → Passes now then t u
    → s ≡ too_long more → before ≡ Some more → IsTurnedDown LineTooLong (kept_at old t) (refusing LineTooLong) (kept_at old u) → Replied (giving_failed now.counts then.counts) (refusing LineTooLong) r t u → KeptOutside nowhere t u → NoCalls (replied_to (refusing LineTooLong) (made_between now.effort then.effort)) → (IsReplied r → RanTo host (too_long more) old old more t u)
    → Turns host now then old old any s before (turn_of r any) t u
leads_long now then r rose still host old any s more before t u passes is next down replied kept none led = record {
  piece = replied.piece;
  is_told = replied.is_told;
  leads = leads host (at now (kept_at old t) any s) then r rose (kept_at old u) more before next (refusing LineTooLong) replied.piece
      (λ c up same. subst (λ (x : Script). NextLine host now.counts (kept_at old t) x (refusing LineTooLong) c (kept_at old u) more) (sym is) (refl, up, λ drive. ap (λ (f : ℕ → ℕ). f drive) same ∙ still drive, down))
      (subst (λ (x : Script). NextCalls (drive_failures now.counts then.counts) (replied_to (refusing LineTooLong) (made_between now.effort then.effort)) host (kept_at old t) x (refusing LineTooLong) (kept_at old u)) (sym is) none)
      (from_to now then t u passes (NextWrites host old s) (subst (λ (x : Script). NextWrites host old x t u) (sym is) kept))
      (λ reads. absurd reads)
      (passage_of now then t u passes old old any s more replied.piece replied.is_told)
      (λ on. record { unwritten = λ quiet. from_to now then t u passes (KeptOutside nowhere) kept; leaves = λ ok. absurd (cc (ok)); torn = λ ended. absurd (cc (ended)); leads = from_to now then t u passes (RanTo host s old old more) (subst (λ (x : Script). RanTo host x old old more t u) (sym is) (led on)) }) replied.as_told;
}

-- a turn on which the run goes on was replied to
pub on_replied : (r : Reply) (any : Bool) (turn : Turn) → turn ≡ turn_of r any → IsOn turn → IsReplied r
on_replied r any turn is on = by r (subst IsOn is on) where
  by : (r : Reply) → IsOn (turn_of r any) → IsReplied r
  by reply.Ok on = tt
  by (reply.Refused refusal) on = tt
  by (reply.Panic active listed) on = on
  by reply.Spent on = on
  by reply.NoMemory on = on
  by reply.Told on = on
  by (reply.NoQuorum readable needed) on = on
  by (reply.TwoDatabases a b) on = on

-- a turn with which the run is over, and nothing is told
over_turn : (host : Host) (now then : Point) (memory : Memory) (any : Bool) (script : Script) (before : Option Script) (status : RunStatus) (t : Tale)
    → ((stretch : Stretch) (bytes : ℕ) → EndsAt stretch then.story then.effort → IsOver host stretch bytes then.counts (at now (kept_at memory t) any script) [] status (kept_at memory t)) → Turns host now then memory memory any script before (Over status) t t
over_turn host now then memory any script before status t over = record { piece = []; is_told = sym (append-nil (told t)); leads = λ stretch bytes ends shown. over stretch bytes ends }

-- the source failed
pub unread_turn : (host : Host) (now then : Point) → OnlyUnread now.counts then.counts → then.story ≡ now.story → then.effort ≡ now.effort → (memory : Memory) (any : Bool) (script : Script) (before : Option Script) (t : Tale) → Turns host now then memory memory any script before (Over ReadFault) t t
unread_turn host now then so still uncalled memory any script before t = over_turn host now then memory any script before ReadFault t (λ stretch bytes ends. unread so (record { quiet = ends.quiet ∙ still; uncalled = ends.uncalled ∙ uncalled }) (record { silent = refl; ended = refl; keeps = refl }))

-- the script is at its end, or past its limit
pub ended_turn : (host : Host) (now then : Point) → then.counts ≡ now.counts → then.story ≡ now.story → then.effort ≡ now.effort → (memory : Memory) (any : Bool) (script : Script) (before : Option Script) (status : RunStatus) (t : Tale)
    → EndsAs any script status → Turns host now then memory memory any script before (Over status) t t
ended_turn host now then same still uncalled memory any script before status t how = over_turn host now then memory any script before status t (λ stretch bytes ends. script_ended how same (record { quiet = ends.quiet ∙ still; uncalled = ends.uncalled ∙ uncalled }) (record { silent = refl; ended = refl; keeps = refl }))

-- a turn is lost where its reply is
pub lost_reply : (r : Reply) (any : Bool) → IsLost r → IsLostTurn (turn_of r any)
lost_reply reply.Ok any lost = lost
lost_reply (reply.Refused refusal) any lost = lost
lost_reply (reply.Panic active listed) any lost = tt
lost_reply reply.Spent any lost = tt
lost_reply reply.NoMemory any lost = tt
lost_reply reply.Told any lost = lost
lost_reply (reply.NoQuorum readable needed) any lost = tt
lost_reply (reply.TwoDatabases a b) any lost = tt

-- one script is left
pub same_left : {before : Option Script} (left other : Script) → before ≡ Some left → before ≡ Some other → other ≡ left
same_left left other one two = both (sym two ∙ one) where
  both : Some other ≡ Some left → other ≡ left
  both is = cc

-- the cause of a reply is that of its turn
pub turn_cause : (host : Host) (now then : Counts) (r : Reply) (any : Bool) → HasReplyCause (IsLostOnSite (drive_failures now then) host) (giving_failed now then) r → HasTurnCause host now then (turn_of r any)
turn_cause host now then reply.Ok any cause = tt
turn_cause host now then (reply.Refused refusal) any cause = tt
turn_cause host now then (reply.Panic active listed) any cause = ((cause.0.line, cause.0.one_of, rose_of_once _ _ cause.0.here), cause.1)
turn_cause host now then reply.Spent any cause = tt
turn_cause host now then reply.NoMemory any cause = tt
turn_cause host now then reply.Told any cause = rose_of_once _ _ cause
turn_cause host now then (reply.NoQuorum readable needed) any cause = cause
turn_cause host now then (reply.TwoDatabases a b) any cause = cause
