-- How a run ends whose script could be read and whose replies could be told.
use Rattle.std.proofs.Common.{◌≡◌, inl, inr, if◌then◌else◌, ℕ, ◌+◌, ◌≤◌, Bool, true, false, List, Option, Some, None, MatchOption, Contains, length, refl, sym, ap, subst, arith}
use Rattle.mdv_base.proofs.Causes.{rose_of_once, rose_within}
use Rattle.mdv_base.specs.declared.drive.SliceName.{SliceName}
use Rattle.mdv_base.specs.declared.mark.Identity.{Identity}
use Rattle.mdv_base.specs.declared.refusal.Refusal.{Refusal}
use Rattle.mdv_words.specs.Listed.{meant}
use Rattle.mdv_engine_law.specs.Answers.{accepted, refusing}
use Rattle.mdv_engine_law.specs.Commands as came
use Rattle.mdv_engine_law.specs.Commands.{CameTo, ComesTo, Effect, GivesUp, IsAllowed, KeepsTab, LeavesPlaces, case_of}
use Rattle.mdv_engine_law.specs.Moves.{LeavesLists, drop_of}
use Rattle.mdv_engine_law.specs.Places.{are_all}
use Rattle.mdv_engine_law.proofs.Allowed.{dropped_enough}
use Rattle.mdv_places.specs.Asked.{Adds, Drops, KeepsFirst, seats_added}
use Rattle.mdv_store.specs.Opened.{Opened}
use Rattle.mdv_store.specs.Seats.{replicas_of}
use Rattle.mdv_survey.specs.declared.replica.Replica.{Replica}
use Rattle.mdv_engine_law.specs.Hosts.{identity_of, key_of, lines_asked}
use Rattle.mdv_engine_law.specs.Line.{Kept, contents}
use Rattle.mdv_engine_law.specs.declared.answer.Answer.{Answer}
use Rattle.mdv_engine_law.specs.declared.answer.Answer.TheVariants.{Said, Over as Ends}
use Rattle.mdv_engine_law.specs.declared.answer.Ended.{Ended}
use Rattle.mdv_engine_law.specs.declared.answer.Ended.TheVariants as stop
use Rattle.mdv_engine_law.specs.declared.answer.Outcome.TheVariants as outcome
use Rattle.mdv_engine_law.specs.declared.host.Host.{Host}
use Rattle.mdv_port.specs.Script.{Script, at_end, line, spent, too_long}
use Rattle.mdv_run_law.specs.Run.{At, Counts, EndsAs, EndsWith, IsAnswered, IsOfTable, IsSaid, LinesTold, NextLine, OnlyReplying, Over, Progress, RoseTo, RunsFrom, Stretch, behind_boot, broken, drive_failures, ended, giving_failed, no_line, one_more, replies_failed, site_failed, source_failed, started, status_at, status_of, unread}
use Rattle.mdv_run_law.specs.declared.status.RunStatus.{RunStatus}
use Rattle.mdv_shelf.specs.Failing.{Outcomes}
use Rattle.mdv_words.specs.Line as words
use Rattle.mdv_words.specs.Line.{IsInForm, IsLine, Line}
use Rattle.mdv_words.specs.declared.command.Command.{Command}
use Rattle.mdv_words.specs.declared.command.Command.TheVariants.{AddListed, AddPlaces, DropPlaces, Print, Read, Write}
use Rattle.mdv_words.specs.declared.command.Command.TheVariants as command
use Rattle.mdv_theorem.specs.Observed.{MayEnd, RunsEnd}
use Rattle.mdv_theorem.proofs.Rising.{lines_rose, next_rose, rose_itself, rose_to_more}
use Rattle.mdv_theorem.proofs.Lines.{never_in}
use Rattle.mdv_theorem.proofs.Carried.{Holds, Keeps, carried, holds_still, means_form}
use Rattle.mdv_theorem.proofs.Losing.{HasFailedThere, IsEndOf, IsHeld, boot_ends, boot_holds, changed_held, lost_change, lost_creation, lost_move, made_held, moved_held}
use Rattle.mdv_theorem.proofs.Sited.{added_own, drop_enough}

module _ (host : Host) (is_host : IsOfTable host) (calls : Outcomes) (kept next : Kept) (answer : Answer) where
  abbrev IsEnd : Answer → Type 0
  IsEnd = IsEndOf (HasFailedThere host is_host calls)

  abbrev HoldsAt : Kept → Type 0
  HoldsAt = Holds (IsHeld host is_host)

  refused_end : (r : Refusal) → answer ≡ refusing r → IsEnd answer
  refused_end r is = subst IsEnd (sym is) tt

  ok_end : answer ≡ accepted → IsEnd answer
  ok_end is = subst IsEnd (sym is) tt

  effect_end : (cmd : Command) → Effect calls host kept cmd answer next → IsEnd answer
  effect_end (AddPlaces slices force count blocks) is = ok_end is.0
  effect_end (AddListed number force) is = absurd is
  effect_end (DropPlaces slices force) is = ok_end is.0
  effect_end (command.Alter alteration) is = ok_end is.0
  effect_end (Read volume at count) is = subst IsEnd (sym is.6) tt
  effect_end (Write volume at what) is = ok_end is.3
  effect_end (Print names) is = subst IsEnd (sym is.3) tt

  -- a change of places of what is open
  lost_more : (o : Opened) (slices : List SliceName) (force : Bool) (count blocks active listed : ℕ) → HoldsAt kept → IsAllowed (case_of host kept) (AddPlaces slices force count blocks) → IsInForm (AddPlaces slices force count blocks) → kept.memory.opened ≡ Some o
      → LeavesLists calls host o (Adds (lines_asked host slices) count blocks) active listed kept next → IsEnd (Ends (stop.Lost active listed))
  lost_more o slices force count blocks active listed holds free form opened gives =
      lost_move host is_host calls o (Adds (lines_asked host slices) count blocks) (holds.held o opened) (added_own host is_host kept.memory slices force count blocks free form o) active listed tt gives.lost

  lost_places : (slices : List SliceName) (force : Bool) (count blocks active listed : ℕ) (opened : Option Opened) → HoldsAt kept → IsAllowed (case_of host kept) (AddPlaces slices force count blocks) → IsInForm (AddPlaces slices force count blocks) → kept.memory.opened ≡ opened
      → MatchOption opened (LeavesPlaces calls host (lines_asked host slices) count blocks active listed kept next) (λ o. LeavesLists calls host o (Adds (lines_asked host slices) count blocks) active listed kept next) → IsEnd (Ends (stop.Lost active listed))
  lost_places slices force count blocks active listed None holds free form is gives = lost_creation host is_host calls (key_of host) (identity_of host kept.memory.begun) (lines_asked host slices) count blocks next.content gives.formed refl active listed gives.lost
  lost_places slices force count blocks active listed (Some o) holds free form is gives = lost_more o slices force count blocks active listed holds free form is gives

  none_added : (o : Opened) (slices : List SliceName) (r : Replica) → Contains (replicas_of (seats_added o (drop_of o slices))) r → Contains host.site.lines r.line
  none_added o slices r has = by (are_all o slices) has where
    by : (all : Bool) → Contains (replicas_of (seats_added o (if all then KeepsFirst else Drops slices))) r → Contains host.site.lines r.line
    by true has = absurd (never_in r has)
    by false has = absurd (never_in r has)

  lost_less : (slices : List SliceName) (force : Bool) (active listed : ℕ) → HoldsAt kept → IsAllowed (case_of host kept) (DropPlaces slices force) → (o : Opened) → kept.memory.opened ≡ Some o
      → LeavesLists calls host o (drop_of o slices) active listed kept next → IsEnd (Ends (stop.Lost active listed))
  lost_less slices force active listed holds free o opened gives =
      lost_move host is_host calls o (drop_of o slices) (holds.held o opened) (none_added o slices) active listed (drop_enough o slices (dropped_enough (case_of host kept) o opened slices force free)) gives.lost

  never_short : (cmd : Command) (readable needed : ℕ) → GivesUp calls host kept cmd (stop.NoQuorum readable needed) next → ⊥
  never_short (AddPlaces slices force count blocks) readable needed gives = gives
  never_short (AddListed number force) readable needed gives = gives
  never_short (DropPlaces slices force) readable needed gives = gives
  never_short (command.Alter alteration) readable needed gives = gives
  never_short (Read volume at count) readable needed gives = gives
  never_short (Write volume at what) readable needed gives = gives
  never_short (Print names) readable needed gives = gives

  never_two : (cmd : Command) (a b : Identity) → GivesUp calls host kept cmd (stop.TwoDatabases a b) next → ⊥
  never_two (AddPlaces slices force count blocks) a b gives = gives
  never_two (AddListed number force) a b gives = gives
  never_two (DropPlaces slices force) a b gives = gives
  never_two (command.Alter alteration) a b gives = gives
  never_two (Read volume at count) a b gives = gives
  never_two (Write volume at what) a b gives = gives
  never_two (Print names) a b gives = gives

  gives_end : (cmd : Command) (end : Ended) → HoldsAt kept → IsAllowed (case_of host kept) cmd → IsInForm cmd → GivesUp calls host kept cmd end next → IsEnd (Ends end)
  gives_end (AddPlaces slices force count blocks) (stop.Lost active listed) holds free form gives = lost_places slices force count blocks active listed kept.memory.opened holds free form refl gives
  gives_end (DropPlaces slices force) (stop.Lost active listed) holds free form gives = lost_less slices force active listed holds free gives.0 gives.1 gives.2
  gives_end (command.Alter alteration) (stop.Lost active listed) holds free form gives = lost_change host is_host calls gives.0 _ active listed (holds.held gives.0 gives.1) gives.2.lost
  gives_end (AddListed number force) (stop.Lost active listed) holds free form gives = absurd gives
  gives_end (Read volume at count) (stop.Lost active listed) holds free form gives = absurd gives
  gives_end (Write volume at what) (stop.Lost active listed) holds free form gives = absurd gives
  gives_end (Print names) (stop.Lost active listed) holds free form gives = absurd gives
  gives_end cmd (stop.NoQuorum readable needed) holds free form gives = absurd (never_short cmd readable needed gives)
  gives_end cmd (stop.TwoDatabases a b) holds free form gives = absurd (never_two cmd a b gives)
  gives_end cmd stop.Spent holds free form gives = tt
  gives_end cmd stop.Memory holds free form gives = tt

  came_end : (cmd : Command) → HoldsAt kept → IsInForm cmd → CameTo calls host kept cmd answer next → IsEnd answer
  came_end cmd holds form (came.refused quiet r is left) = refused_end r left.0
  came_end cmd holds form (came.wanting quiet is left) = subst IsEnd (sym is) tt
  came_end cmd holds form (came.done free effect) = effect_end cmd effect
  came_end cmd holds form (came.faulted free is fault) = subst IsEnd (sym is) tt
  came_end cmd holds form (came.over end free is gives) = subst IsEnd (sym is) (gives_end cmd end holds free form gives)

  tab_end : (lines : List ℕ) → KeepsTab calls kept lines answer next → IsEnd answer
  tab_end lines (came.entered quiet entries tab is memory same) = subst IsEnd (sym is) tt
  tab_end lines (came.unfit quiet r why left) = refused_end r left.0
  tab_end lines (came.unread quiet is left) = subst IsEnd (sym is) tt

  line_end : (text : List ℕ) (spelled : Line) → HoldsAt kept → IsLine text spelled → ComesTo calls host kept spelled answer next → IsEnd answer
  line_end text words.Boot holds asks is = boot_ends host is_host calls kept next answer is
  line_end text (words.Tab lines) holds asks is = tab_end lines is
  line_end text (words.Exec cmd) holds asks is = came_end (meant kept.memory.entries cmd) holds (means_form kept.memory.entries holds.formed text cmd asks) is

  answered_end : (text : List ℕ) → HoldsAt kept → IsAnswered calls host kept text answer next → IsEnd answer
  answered_end text holds (inl (none, quiet, refused)) = subst IsEnd (sym refused.0) tt
  answered_end text holds (inr (inl (spelled, is, comes))) = line_end text spelled holds is comes
  answered_end text holds (inr (inr (quiet, refused))) = subst IsEnd (sym refused.0) tt

  answered_holds : (text : List ℕ) → HoldsAt kept → IsSaid answer → IsAnswered calls host kept text answer next → HoldsAt next
  answered_holds text = carried host is_host calls (IsHeld host is_host) stays kept next answer text (λ asks is said. boot_holds host is_host calls kept next answer is said)
    where
      stays : Keeps host calls (IsHeld host is_host)
      stays = record {
        made = λ identity lines count blocks content formed o is. made_held host is_host calls (key_of host) identity lines count blocks content formed refl o is;
        changed = λ old new table same held is. changed_held host is_host calls old new table held is;
        moved = λ old asked new clean held added is. moved_held host is_host calls old asked held added new clean is;
      }

module _ (host : Host) (is_host : IsOfTable host) (start end : Counts) where
  -- a call on a drive on which its replicas may lie failed in the run
  abbrev SiteFailed : Type 0
  SiteFailed = site_failed host start end

  abbrev FailedBetween : Counts → Counts → Type 0
  FailedBetween now later = HasFailedThere host is_host (drive_failures now later)

  next_end : (now later : Counts) (kept next : Kept) (script rest : Script) (answer : Answer) → Holds (IsHeld host is_host) kept → NextLine host now kept script answer later next rest → IsEndOf (FailedBetween now later) answer
  next_end now later kept next at_end rest answer holds is = absurd is
  next_end now later kept next (spent lines bytes) rest answer holds is = absurd is
  next_end now later kept next (too_long left) rest answer holds is = subst (IsEndOf (FailedBetween now later)) (sym is.3.0) tt
  next_end now later kept next (line text left) rest answer holds is = answered_end host is_host (drive_failures now later) kept next answer text holds is.2

  next_holds : (now later : Counts) (kept next : Kept) (script rest : Script) (answer : Answer) → Holds (IsHeld host is_host) kept → IsSaid answer → NextLine host now kept script answer later next rest → Holds (IsHeld host is_host) next
  next_holds now later kept next at_end rest answer holds said is = absurd is
  next_holds now later kept next (spent lines bytes) rest answer holds said is = absurd is
  next_holds now later kept next (too_long left) rest answer holds said is = holds_still (IsHeld host is_host) kept next is.3.1.memory holds
  next_holds now later kept next (line text left) rest answer holds said is = answered_holds host is_host (drive_failures now later) kept next answer text holds said is.2

  lines_hold : (w : Stretch) (n : ℕ) (now later : At) (told : List ℕ) → Holds (IsHeld host is_host) now.kept → LinesTold host w n now told later → Holds (IsHeld host is_host) later.kept
  lines_hold w n now later told holds (no_line bytes at) = holds
  lines_hold w n now later told holds (one_more bytes at mid last piece rest some one shown lines) =
      lines_hold w (n + length piece) mid later rest (next_holds now.counts mid.counts now.kept mid.kept now.script mid.script one.answer holds one.said one.comes) lines

  -- a run that is over so
  stopped : (failed : Type 0) (over : Ended) (status : RunStatus) → (failed → SiteFailed) → IsEndOf failed (Ends over) → status ≡ status_at over → MayEnd SiteFailed status
  stopped failed (stop.NoQuorum readable needed) status cause is same = subst (MayEnd SiteFailed) (sym same) is
  stopped failed (stop.TwoDatabases a b) status cause is same = subst (MayEnd SiteFailed) (sym same) is
  stopped failed (stop.Lost active listed) status cause is same = subst (MayEnd SiteFailed) (sym same) (cause is.0, is.1)
  stopped failed stop.Spent status cause is same = subst (MayEnd SiteFailed) (sym same) tt
  stopped failed stop.Memory status cause is same = subst (MayEnd SiteFailed) (sym same) tt

  by_status : (refused : Bool) → MayEnd SiteFailed (status_of refused)
  by_status true = tt
  by_status false = tt

  as_ended : (refused : Bool) (script : Script) (status : RunStatus) → EndsAs refused script status → MayEnd SiteFailed status
  as_ended refused at_end status is = subst (MayEnd SiteFailed) (sym is) (by_status refused)
  as_ended refused (spent lines bytes) status is = subst (MayEnd SiteFailed) (sym is) tt
  as_ended refused (too_long more) status is = absurd is
  as_ended refused (line text more) status is = absurd is

  -- a call on such a drive failed between two points of the run
  site_rose : (now later : Counts) → RoseTo start now → ((drive : ℕ) → later.drives drive ≤ end.drives drive) → FailedBetween now later → SiteFailed
  site_rose now later low high (slice, own, once) =
      let drive = slice.at.drive.0 in
      (slice, own, rose_within _ _ _ _ (low.drives drive) (high drive) (rose_of_once (now.drives drive) (later.drives drive) once))

  module _ (unread_never : source_failed start end → ⊥) (ungiven_never : replies_failed start end → ⊥) where
    with_end : (now later : Counts) (answer : Answer) (next : Kept) (told : List ℕ) (status : RunStatus) (last : Kept) → RoseTo start now → RoseTo now later → OnlyReplying answer later end → IsEndOf (FailedBetween now later) answer
        → EndsWith (giving_failed later end) answer next told status last → MayEnd SiteFailed status
    with_end now later (Said this) next told status last low rose only is with =
        let before = rose_to_more start now later low rose in
        absurd (ungiven_never (rose_within _ _ _ _ before.replies (let same = only.replies in omega arith) (rose_of_once later.replies end.replies with.cause)))
    with_end now later (Ends over) next told status last low rose same is with =
        stopped (FailedBetween now later) over status (site_rose now later low (λ drive. (let drives = ap (λ (c : Counts). c.drives drive) same in omega arith))) is with.ended

    over_end : (w : Stretch) (n : ℕ) (now : At) (told : List ℕ) (status : RunStatus) (last : Kept) → RoseTo start now.counts → Holds (IsHeld host is_host) now.kept → Over host w n end now told status last → MayEnd SiteFailed status
    over_end w n now told status last low holds (unread only quiet stops) = absurd (unread_never (rose_within _ _ _ _ low.source (omega arith) (rose_of_once now.counts.source end.source only.source)))
    over_end w n now told status last low holds (ended how same quiet stops) = as_ended now.refused now.script status how
    over_end w n now told status last low holds (broken answer later next more is shown only led with) =
        with_end now.counts later answer next told status last low (next_rose host now.counts later now.kept next now.script more answer is) only (next_end now.counts later now.kept next now.script more answer holds is) with

    runs_from : (w : Stretch) (answer : Answer) (now : Counts) (p : Progress) (kept : Kept) (script : Script) (told : List ℕ) (status : RunStatus) (last : Kept) → RoseTo start now → IsEndOf (FailedBetween start now) answer
        → (IsSaid answer → Holds (IsHeld host is_host) kept) → RunsFrom host w end answer now p kept script told status last → MayEnd SiteFailed status
    runs_from w (Said outcome.Ok) now p kept script told status last low is holds runs =
        over_end w (length runs.so_far) runs.at runs.rest status last (rose_to_more start now runs.at.counts low (lines_rose host w 0 (behind_boot now p kept script) runs.at runs.so_far runs.lines))
        (lines_hold w 0 (behind_boot now p kept script) runs.at runs.so_far (holds tt) runs.lines) runs.over
    runs_from w (Said (outcome.Values text)) now p kept script told status last low is holds runs = absurd runs
    runs_from w (Said (outcome.Refused refusal)) now p kept script told status last low is holds runs = absurd runs
    runs_from w (Ends over) now p kept script told status last low is holds runs =
        stopped (FailedBetween start now) over status (site_rose start now (rose_itself start) (λ drive. (let drives = ap (λ (c : Counts). c.drives drive) runs.0 in omega arith))) is runs.2.ended

pub runs_end : RunsEnd
runs_end = λ host stretch start end t tale script status is_host whole unread_never ungiven_never.
    let run = whole.runs in
    let rose : RoseTo start run.booted = record { drives = run.rose.drives; source = (let same = run.rose.source in omega arith); replies = (let same = run.rose.replies in omega arith) } in
    let calls = drive_failures start run.booted in
    runs_from host is_host start end unread_never ungiven_never stretch run.answer run.booted run.by run.kept script whole.more status whole.last rose (boot_ends host is_host calls (started (contents t)) run.kept run.answer run.boots)
    (boot_holds host is_host calls (started (contents t)) run.kept run.answer run.boots) run.runs
