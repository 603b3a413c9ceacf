-- A run of a life that ended for two databases, or for too few readable places, was ended by a boot.
use Rattle.std.proofs.Common.{◌≡◌, inl, inr, ℕ, ◌+◌, ◌≤◌, Bool, true, false, List, [], ◌∷◌, ◌++◌, length, Option, Some, append-nil, append_assoc, refl, sym, ◌∙◌, ap, subst, arith}
use Rattle.mdv_words.specs.Listed.{meant}
use Rattle.mdv_engine_law.specs.Answers.{refusing}
use Rattle.mdv_engine_law.specs.Commands as came
use Rattle.mdv_engine_law.specs.Commands.{CameTo, ComesTo, Effect, GivesUp, KeepsTab}
use Rattle.mdv_engine_law.specs.Line.{IsRebooted, IsSame, Kept, contents}
use Rattle.mdv_engine_law.specs.declared.answer.Answer.{Answer}
use Rattle.mdv_engine_law.specs.declared.answer.Answer.TheVariants.{Said, Over as Ends}
use Rattle.mdv_engine_law.specs.declared.answer.Ended.{Ended}
use Rattle.mdv_engine_law.specs.declared.answer.Ended.TheVariants as stop
use Rattle.mdv_engine_law.specs.declared.answer.Outcome.TheVariants as outcome
use Rattle.mdv_engine_law.specs.declared.host.Host.{Host}
use Rattle.mdv_port.specs.Script.{Script, at_end, line, spent, too_long}
use Rattle.mdv_run_law.specs.Run.{At, Counts, EndsAs, EndsWith, IsAnswered, IsRun, LinesTold, NextLine, OnlyReplying, Over, Progress, RoseTo, RunsFrom, Stretch, behind_boot, broken, drive_failures, ended, giving_failed, no_line, one_more, started, status_at, status_of, unread}
use Rattle.mdv_run_law.specs.declared.status.RunStatus.{RunStatus}
use Rattle.mdv_run_law.specs.declared.status.RunStatus.TheVariants as status
use Rattle.mdv_shelf.proofs.Stories.{marked_more}
use Rattle.mdv_shelf.specs.Everywhere.{Image}
use Rattle.mdv_shelf.specs.Failing.{Outcomes}
use Rattle.mdv_shelf.specs.Moments.{During}
use Rattle.mdv_shelf.specs.Story.{AtMarks, Mark, Moment, Story, Tally, marked, moment_at, tale_of}
use Rattle.mdv_shelf.specs.Tale.{Call, Gave, Synced, Tale, Then, Tore, Wrote, told}
use Rattle.mdv_words.specs.Line as words
use Rattle.mdv_words.specs.Line.{Line}
use Rattle.mdv_words.specs.declared.command.Command.{Command}
use Rattle.mdv_words.specs.declared.command.Command.TheVariants.{AddListed, AddPlaces, DropPlaces, Print, Read, Write}
use Rattle.mdv_words.specs.declared.command.Command.TheVariants as command
use Rattle.mdv_theorem.proofs.Rising.{lines_rose, rose_itself, rose_to_more}

-- what is so behind each of some calls is so behind the first ones of them
behind_call : (P : Tale → Type 0) (t : Tale) (call : Call) → During P t call → P (Then t call)
behind_call P t (Gave piece count) along = along count (omega arith)
behind_call P t (Wrote drive at blocks) here = here
behind_call P t (Tore drive at blocks took) here = here
behind_call P t (Synced drive) here = here

pub at_prefix : (P : Moment → Type 0) (s : Story) (before : Tally) (back front : List Mark) → P (moment_at (tale_of s) before) → AtMarks P s (back ++ front) → (tally : Tally) × P (moment_at (tale_of (marked s front)) tally)
at_prefix P s before (m ∷ back) front first all = at_prefix P s before back front first all.0
at_prefix P s before [] [] first all = (before, first)
at_prefix P s before [] (m ∷ front) first all = (m.tally, behind_call (λ t. P (moment_at t m.tally)) (tale_of (marked s front)) m.call all.1)

-- an answer, and a status, that a boot alone gives: two databases, or too few places that are readable
abbrev IsOfBoot : Answer → Type 0
IsOfBoot (Ends (stop.TwoDatabases a b)) = Unit {0}
IsOfBoot (Ends (stop.NoQuorum readable needed)) = Unit {0}
IsOfBoot other = ⊥

abbrev pub IsOfBootStatus : RunStatus → Type 0
IsOfBootStatus (status.TwoDatabases a b) = Unit {0}
IsOfBootStatus (status.NoQuorum readable needed) = Unit {0}
IsOfBootStatus other = ⊥

of_boot : (over : Ended) → IsOfBootStatus (status_at over) → IsOfBoot (Ends over)
of_boot (stop.NoQuorum readable needed) is = is
of_boot (stop.TwoDatabases a b) is = is
of_boot (stop.Lost active listed) is = is
of_boot stop.Spent is = is
of_boot stop.Memory is = is

-- no command gives one
module _ (calls : Outcomes) (host : Host) (kept next : Kept) (answer : Answer) where
  refused_never : (r : _) → answer ≡ refusing r → IsOfBoot answer → ⊥
  refused_never r is of = (let never : ⊥ = subst IsOfBoot is of in never)

  effect_never : (cmd : Command) → Effect calls host kept cmd answer next → IsOfBoot answer → ⊥
  effect_never (AddPlaces slices force count blocks) is of = (let never : ⊥ = subst IsOfBoot is.0 of in never)
  effect_never (AddListed number force) is of = is
  effect_never (DropPlaces slices force) is of = (let never : ⊥ = subst IsOfBoot is.0 of in never)
  effect_never (command.Alter alteration) is of = (let never : ⊥ = subst IsOfBoot is.0 of in never)
  effect_never (Read volume at count) is of = (let never : ⊥ = subst IsOfBoot is.6 of in never)
  effect_never (Write volume at what) is of = (let never : ⊥ = subst IsOfBoot is.3 of in never)
  effect_never (Print names) is of = (let never : ⊥ = subst IsOfBoot is.3 of in never)

  gives_never : (cmd : Command) (over : Ended) → GivesUp calls host kept cmd over next → IsOfBoot (Ends over) → ⊥
  gives_never cmd (stop.Lost active listed) gives of = of
  gives_never cmd stop.Spent gives of = of
  gives_never cmd stop.Memory gives of = of
  gives_never (AddPlaces slices force count blocks) (stop.NoQuorum readable needed) gives of = gives
  gives_never (AddListed number force) (stop.NoQuorum readable needed) gives of = gives
  gives_never (DropPlaces slices force) (stop.NoQuorum readable needed) gives of = gives
  gives_never (command.Alter alteration) (stop.NoQuorum readable needed) gives of = gives
  gives_never (Read volume at count) (stop.NoQuorum readable needed) gives of = gives
  gives_never (Write volume at what) (stop.NoQuorum readable needed) gives of = gives
  gives_never (Print names) (stop.NoQuorum readable needed) gives of = gives
  gives_never (AddPlaces slices force count blocks) (stop.TwoDatabases a b) gives of = gives
  gives_never (AddListed number force) (stop.TwoDatabases a b) gives of = gives
  gives_never (DropPlaces slices force) (stop.TwoDatabases a b) gives of = gives
  gives_never (command.Alter alteration) (stop.TwoDatabases a b) gives of = gives
  gives_never (Read volume at count) (stop.TwoDatabases a b) gives of = gives
  gives_never (Write volume at what) (stop.TwoDatabases a b) gives of = gives
  gives_never (Print names) (stop.TwoDatabases a b) gives of = gives

  came_never : (cmd : Command) → CameTo calls host kept cmd answer next → IsOfBoot answer → ⊥
  came_never cmd (came.refused quiet r is left) of = refused_never r left.0 of
  came_never cmd (came.wanting quiet is left) of = refused_never _ is of
  came_never cmd (came.done free effect) of = effect_never cmd effect of
  came_never cmd (came.faulted free is fault) of = refused_never _ is of
  came_never cmd (came.over over free is gives) of = gives_never cmd over gives (subst IsOfBoot is of)

  tab_never : (lines : List ℕ) → KeepsTab calls kept lines answer next → IsOfBoot answer → ⊥
  tab_never lines (came.entered quiet entries tab is memory same) of = (let never : ⊥ = subst IsOfBoot is of in never)
  tab_never lines (came.unfit quiet r why left) of = refused_never r left.0 of
  tab_never lines (came.unread quiet is left) of = refused_never _ is of

  line_boots : (spelled : Line) → ComesTo calls host kept spelled answer next → IsOfBoot answer → IsRebooted calls host kept answer next
  line_boots words.Boot is of = is
  line_boots (words.Tab lines) is of = absurd (tab_never lines is of)
  line_boots (words.Exec cmd) is of = absurd (came_never (meant kept.memory.entries cmd) is of)

  answered_boots : (text : List ℕ) → IsAnswered calls host kept text answer next → IsOfBoot answer → IsRebooted calls host kept answer next
  answered_boots text (inl (none, quiet, refused)) of = absurd (refused_never _ refused.0 of)
  answered_boots text (inr (inl (spelled, is, comes))) of = line_boots spelled comes of
  answered_boots text (inr (inr (quiet, refused))) of = absurd (refused_never _ refused.0 of)

-- The boot that ended a run so, which told these bytes: where in the run's story it began, the counts of failures before it and behind it, and what the drives' blocks read then.
pub record IsLastBoot (host : Host) (stretch : Stretch) (s : Story) (more : List ℕ) (start close : Counts) (end_status : RunStatus) : Type 0 where
  pub before : Counts
  pub after : Counts
  pub low : RoseTo start before
  pub high : (drive : ℕ) → after.drives drive ≤ close.drives drive
  pub over : Ended
  pub as_status : end_status ≡ status_at over
  pub kept : Kept
  pub next : Kept
  pub boots : IsRebooted (drive_failures before after) host kept (Ends over) next
  pub marks : List Mark
  pub back : List Mark
  pub goes_on : stretch.new ≡ Some (marked (marked s marks) back)
  pub is_told : told (tale_of (marked s marks)) ≡ told (tale_of s) ++ more
  pub reads : IsSame kept.content (contents (tale_of (marked s marks)))

-- how an answer ends a run
record IsOver (answer : Answer) (later close : Counts) (bytes : List ℕ) (end_status : RunStatus) : Type 0 where
  over : Ended
  is : answer ≡ Ends over
  same : close ≡ later
  as_status : end_status ≡ status_at over
  silent : bytes ≡ []

with_over : (failed : Type 0) (answer : Answer) (later close : Counts) (next : Kept) (bytes : List ℕ) (end_status : RunStatus) (last_kept : Kept) → EndsWith failed answer next bytes end_status last_kept → OnlyReplying answer later close → IsOfBootStatus end_status
    → IsOver answer later close bytes end_status
with_over failed (Said this) later close next bytes end_status last_kept with only of = (let never : ⊥ = subst IsOfBootStatus with.ended of in absurd never)
with_over failed (Ends over) later close next bytes end_status last_kept with only of = record { over = over; is = refl; same = only; as_status = with.ended; silent = with.silent }

module _ (host : Host) (script : Script) (stretch : Stretch) (start close : Counts) (s : Story) (old : stretch.old ≡ Some s) where
  -- a point of the run's story, by which this was told, and at which the drives read so
  record IsThere (bytes : List ℕ) (story : Option Story) (content : Image) : Type 0 where
    marks : List Mark
    is : story ≡ Some (marked s marks)
    is_told : told (tale_of (marked s marks)) ≡ told (tale_of s) ++ bytes
    reads : IsSame content (contents (tale_of (marked s marks)))

  abbrev LastBoot : List ℕ → RunStatus → Type 0
  LastBoot more end_status = IsLastBoot host stretch s more start close end_status

  -- the next line boots
  next_boots : (said bytes : List ℕ) (now : At) (later : Counts) (next : Kept) (rest : Script) (answer : Answer) (end_status : RunStatus) → RoseTo start now.counts → IsThere said now.story now.kept.content
      → ((marks : List Mark) → now.story ≡ Some (marked s marks) → (back : List Mark) × (stretch.new ≡ Some (marked (marked s marks) back))) → (is_over : IsOver answer later close bytes end_status) → IsOfBoot answer
      → (left : Script) → NextLine host now.counts now.kept left answer later next rest → LastBoot (said ++ bytes) end_status
  next_boots said bytes now later next rest answer end_status low there behind is_over of at_end is = absurd is
  next_boots said bytes now later next rest answer end_status low there behind is_over of (spent lines limit) is = absurd is
  next_boots said bytes now later next rest answer end_status low there behind is_over of (too_long more) is = absurd (refused_never (drive_failures now.counts later) host now.kept next answer _ is.3.0 of)
  next_boots said bytes now later next rest answer end_status low there behind is_over of (line text more) is =
      let calls = drive_failures now.counts later in
      let on = behind there.marks there.is in
      record {
        before = now.counts;
        after = later;
        low = low;
        high = λ drive. (let drives = ap (λ (c : Counts). c.drives drive) is_over.same in omega arith);
        over = is_over.over;
        as_status = is_over.as_status;
        kept = now.kept;
        next = next;
        boots = subst (λ (a : Answer). IsRebooted calls host now.kept a next) is_over.is (answered_boots calls host now.kept next answer text is.2 of);
        marks = there.marks;
        back = on.0;
        goes_on = on.1;
        is_told = there.is_told ∙ ap (λ (l : List ℕ). told (tale_of s) ++ l) (sym (ap (λ (l : List ℕ). said ++ l) is_over.silent ∙ append-nil said));
        reads = there.reads;
      }

  lines_there : (n : ℕ) (said : List ℕ) (now then : At) (bytes : List ℕ) → IsThere said now.story now.kept.content → LinesTold host stretch n now bytes then → IsThere (said ++ bytes) then.story then.kept.content
  lines_there n said now then bytes there (no_line count at) = record { marks = there.marks; is = there.is; is_told = there.is_told ∙ ap (λ (l : List ℕ). told (tale_of s) ++ l) (sym (append-nil said)); reads = there.reads }
  lines_there n said now then bytes there (one_more count at mid end_at piece rest some one shown lines) =
      let to = one.passage.in_time.drives 0 (marked s there.marks) there.is in
      let is = to.1 ∙ ap (λ (u : Story). Some u) (marked_more s there.marks to.0) in
      let piece_told = one.passage.told (marked s there.marks) (marked s (to.0 ++ there.marks)) there.is is in
      let mid_told : told (tale_of (marked s (to.0 ++ there.marks))) ≡ told (tale_of s) ++ (said ++ piece) = piece_told ∙ ap (λ (l : List ℕ). l ++ piece) there.is_told ∙ append_assoc (told (tale_of s)) said piece in
      let far = lines_there (n + length piece) (said ++ piece) mid then rest (record { marks = to.0 ++ there.marks; is = is; is_told = mid_told; reads = one.passage.reads (marked s (to.0 ++ there.marks)) is }) lines in
      record { marks = far.marks; is = far.is; is_told = far.is_told ∙ ap (λ (l : List ℕ). told (tale_of s) ++ l) (append_assoc said piece rest); reads = far.reads }

  status_never : (refused : Bool) → IsOfBootStatus (status_of refused) → ⊥
  status_never true is = is
  status_never false is = is

  ends_never : (refused : Bool) (left : Script) (end_status : RunStatus) → EndsAs refused left end_status → IsOfBootStatus end_status → ⊥
  ends_never refused at_end end_status is of = status_never refused (subst IsOfBootStatus is of)
  ends_never refused (spent lines limit) end_status is of = (let never : ⊥ = subst IsOfBootStatus is of in never)
  ends_never refused (too_long more) end_status is of = is
  ends_never refused (line text more) end_status is of = is

  over_boots : (n : ℕ) (said : List ℕ) (now : At) (bytes : List ℕ) (end_status : RunStatus) (last_kept : Kept) → RoseTo start now.counts → IsThere said now.story now.kept.content → Over host stretch n close now bytes end_status last_kept → IsOfBootStatus end_status
      → LastBoot (said ++ bytes) end_status
  over_boots n said now bytes end_status last_kept low there (unread only quiet stops) of = (let never : ⊥ = subst IsOfBootStatus stops.ended of in absurd never)
  over_boots n said now bytes end_status last_kept low there (ended how same quiet stops) of = absurd (ends_never now.refused now.script end_status how of)
  over_boots n said now bytes end_status last_kept low there (broken answer later next more is shown only led with) of =
      let is_over = with_over (giving_failed later close) answer later close next bytes end_status last_kept with only of in
      next_boots said bytes now later next more answer end_status low there (λ marks is_there. (let to = led.in_time.drives 0 (marked s marks) is_there in (to.0, to.1))) is_over
      (subst IsOfBoot (sym is_over.is) (of_boot is_over.over (subst IsOfBootStatus is_over.as_status of))) now.script is

  -- the boot at the run's start, or one of its lines
  runs_boot : (answer : Answer) (now : Counts) (p : Progress) (kept : Kept) (bytes : List ℕ) (end_status : RunStatus) (last_kept : Kept) → RoseTo start now → IsThere [] p.story kept.content
      → IsRebooted (drive_failures start now) host (started (contents (tale_of s))) answer kept → RunsFrom host stretch close answer now p kept script bytes end_status last_kept → IsOfBootStatus end_status → LastBoot bytes end_status
  runs_boot (Said outcome.Ok) now p kept bytes end_status last_kept rose there boots runs of =
      subst (λ (l : List ℕ). LastBoot l end_status) (sym runs.parts)
      (over_boots (length runs.so_far) runs.so_far runs.at runs.rest end_status last_kept (rose_to_more start now runs.at.counts rose (lines_rose host stretch 0 (behind_boot now p kept script) runs.at runs.so_far runs.lines))
      (lines_there 0 [] (behind_boot now p kept script) runs.at runs.so_far there runs.lines) runs.over of)
  runs_boot (Said (outcome.Values text)) now p kept bytes end_status last_kept rose there boots runs of = absurd runs
  runs_boot (Said (outcome.Refused refusal)) now p kept bytes end_status last_kept rose there boots runs of = absurd runs
  runs_boot (Ends over) now p kept bytes end_status last_kept rose there boots runs of = record {
    before = start;
    after = now;
    low = rose_itself start;
    high = λ drive. (let drives = ap (λ (c : Counts). c.drives drive) runs.0 in omega arith);
    over = over;
    as_status = runs.2.ended;
    kept = started (contents (tale_of s));
    next = kept;
    boots = boots;
    marks = [];
    back = there.marks;
    goes_on = runs.1.quiet ∙ there.is;
    is_told = sym (ap (λ (l : List ℕ). told (tale_of s) ++ l) runs.2.silent ∙ append-nil (told (tale_of s)));
    reads = λ drive block. refl;
  }

  pub run_boots : (bytes : List ℕ) (end_status : RunStatus) (last_kept : Kept) → IsRun host stretch start close (contents (tale_of s)) script bytes end_status last_kept → IsOfBootStatus end_status → LastBoot bytes end_status
  run_boots bytes end_status last_kept run of =
      let to = run.point.in_time.drives 0 s old in
      let rose : RoseTo start run.booted = record { drives = run.rose.drives; source = (let same = run.rose.source in omega arith); replies = (let same = run.rose.replies in omega arith) } in
      runs_boot run.answer run.booted run.by run.kept bytes end_status last_kept rose
      (record { marks = to.0; is = to.1; is_told = run.point.quiet s (marked s to.0) old to.1 ∙ sym (append-nil (told (tale_of s))); reads = run.point.reads (marked s to.0) to.1 }) run.boots run.runs of
