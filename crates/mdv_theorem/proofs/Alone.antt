-- No boot of a run of a life finds two databases, and none is short of places where enough drives answer.
use Rattle.std.proofs.Common.{◌≡◌, ◌⊎◌, inl, inr, ℕ, ◌&&◌, Bool, true, false, not, List, ◌++◌, Some, Contains, refl, sym, ◌∙◌, ap, subst}
use Rattle.std.proofs.lemmas.List.{append_cancel_left}
use Rattle.std.proofs.lemmas.List.Elements.{Contains-append_left, Contains-append_right}
use Rattle.mdv_base.proofs.Causes.{rose_of_once, rose_within}
use Rattle.mdv_base.specs.Causes.{Rose}
use Rattle.mdv_base.specs.DriveSet.{Drives, has_drive}
use Rattle.mdv_base.specs.declared.drive.DriveNo.{DriveNo}
use Rattle.mdv_base.specs.declared.drive.SliceName.{SliceName}
use Rattle.mdv_base.specs.declared.mark.Identity.{Identity}
use Rattle.mdv_databases.proofs.Finding.{never_short, short_by}
use Rattle.mdv_databases.specs.Booting.{AllLive}
use Rattle.mdv_databases.specs.Meeting.{answers_on}
use Rattle.mdv_base.specs.declared.name.Key.TheVariants.{Local}
use Rattle.mdv_engine_law.specs.Hosts.{key_of}
use Rattle.mdv_engine_law.specs.Line.{IsReadOf, WritesBy, answered_by}
use Rattle.mdv_engine_law.specs.Standing.{StandsAt}
use Rattle.mdv_engine_law.specs.declared.answer.Answer.TheVariants.{Over as Ends}
use Rattle.mdv_engine_law.specs.declared.answer.Ended.{Ended}
use Rattle.mdv_engine_law.specs.declared.answer.Ended.TheVariants as stop
use Rattle.mdv_engine_law.specs.declared.host.Host.{Host}
use Rattle.mdv_engine_law.proofs.Going.{may_course}
use Rattle.mdv_home.specs.View.{own_view}
use Rattle.mdv_port.specs.Script.{Script}
use Rattle.mdv_name.specs.SliceIndex.{HasSlice}
use Rattle.mdv_name.specs.declared.geometry.Geometry.{Geometry}
use Rattle.mdv_name.specs.declared.slice_lines.SliceAt.{SliceAt}
use Rattle.mdv_name.specs.declared.slice_lines.SliceLine.{SliceLine}
use Rattle.mdv_run_law.proofs.Looked.{finds_one}
use Rattle.mdv_run_law.proofs.Living.{lives_stand, unmet}
use Rattle.mdv_run_law.proofs.Owning.{none_own}
use Rattle.mdv_run_law.specs.Lives.{HasMetNone, IsHistoryOf, Ran, host_of}
use Rattle.mdv_run_law.specs.Run.{Counts, Stretch, drive_failures, site_failed, status_at}
use Rattle.mdv_run_law.specs.Standing.{RunMoment}
use Rattle.mdv_run_law.specs.declared.status.RunStatus.{RunStatus}
use Rattle.mdv_run_law.specs.declared.status.RunStatus.TheVariants as status
use Rattle.mdv_shelf.specs.Everywhere.{Image}
use Rattle.mdv_shelf.specs.Failing.{Outcomes}
use Rattle.mdv_shelf.specs.Story.{AtEach, AtMarks, Mark, Moment, Passed, Story, Tally, marked, moment_at, tale_of}
use Rattle.mdv_shelf.specs.Tale.{Tale, last, told}
use Rattle.mdv_shown.proofs.Sites.{law_sites}
use Rattle.mdv_shown.specs.Sites.{is_line_of, site_of}
use Rattle.mdv_shown.specs.declared.site.Site.{Site}
use Rattle.mdv_store.specs.Boot.{IsEndBy, IsShort, is_memory}
use Rattle.mdv_store.specs.declared.booting.BootEnd.{BootEnd}
use Rattle.mdv_store.specs.declared.booting.BootEnd.TheVariants as end
use Rattle.mdv_survey.specs.Survey.{IsSurvey, IsSurveyOf}
use Rattle.mdv_survey.specs.declared.replica.Survey.{Survey}
use Rattle.mdv_config.specs.Slices.{IsSound}
use Rattle.mdv_volumes.proofs.Alive.{each_lives}
use Rattle.mdv_volumes.proofs.Lists.{in_filter}
use Rattle.mdv_volumes.specs.History.{History, history_after_all}
use Rattle.mdv_volumes.specs.HistoryLaws.{new_history}
use Rattle.mdv_theorem.specs.Exchanges.{Exchange, exchanges_by, exchanges_of}
use Rattle.mdv_theorem.specs.Observed.{IsCalmOn, MostLieOn, RunsFindEnough, RunsFindOne}
use Rattle.mdv_theorem.specs.Running.{LivesOn}
use Rattle.mdv_theorem.specs.Words.{IsMadeOn, KeepsDatabase, MayBecome, MayLieOn, spread}
use Rattle.mdv_theorem.proofs.Adopted.{HasFallen, all_up}
use Rattle.mdv_theorem.proofs.Agreeing.{own_sound}
use Rattle.mdv_theorem.proofs.Booted.{IsLastBoot, IsOfBootStatus, at_prefix, run_boots}
use Rattle.mdv_theorem.proofs.Lain.{LieBehind}
use Rattle.mdv_theorem.proofs.Lined.{lined_lives, run_lined, runs_live_on}
use Rattle.mdv_theorem.proofs.Lines.{never_in}
use Rattle.mdv_theorem.proofs.Living.{lived_life}
use Rattle.mdv_theorem.proofs.Majority.{MostUp, lists_up}
use Rattle.mdv_theorem.proofs.Stopped.{IsStopped, lie_there, same_front, stopped}

answering : (a b : Bool) → a ≡ true → b ≡ false → (a && not b) ≡ true
answering a b one two = λ i. one i && not (two i)

-- what is so at each moment of a run's story is so where the boot began
at_point : (s : Story) (stretch : Stretch) (marks back : List Mark) → stretch.new ≡ Some (marked (marked s marks) back) → (P : Moment → Type 0) → (u : Story) × (stretch.new ≡ Some u) × Passed P s stretch.before u stretch.after → (tally : Tally) × P (moment_at (tale_of (marked s marks)) tally)
at_point s stretch marks back goes_on P all =
    let same = same_front stretch s all.0 all.2.marks back marks all.1 all.2.led goes_on in
    at_prefix P s stretch.before back marks all.2.first (subst (λ (ms : List Mark). AtMarks P s ms) same all.2.each)

module _ (host : Host) (sound : IsSound host.drives) (site : host.site ≡ site_of host.drives (key_of host)) (stretch : Stretch) (s : Story) (more : List ℕ) (start close : Counts) (end_status : RunStatus) (l : IsLastBoot host stretch s more start close end_status)
    (history : History) (stands : StandsAt host history (tale_of (marked s l.marks))) where
  abbrev calls : Outcomes
  calls = drive_failures l.before l.after

  -- the drives as the boot began
  abbrev at : Tale
  at = tale_of (marked s l.marks)

  same : l.kept.content ≡ last at
  same = λ i drive block. sym (l.reads drive block) i

  -- what failed in the boot failed in the run
  rose : (drive : ℕ) → (calls drive).some → Rose (start.drives drive) (close.drives drive)
  rose drive once = rose_within _ _ _ _ (l.low.drives drive) (l.high drive) (rose_of_once (l.before.drives drive) (l.after.drives drive) once)

  -- what was read of the drives, whatever it came to
  module _ (up : Drives) {e : BootEnd} (survey : Survey) (read : IsReadOf calls host l.kept.content up e survey) where
    of_survey : IsSurveyOf host.drives (site_of host.drives (key_of host)) read.calm (last at) survey
    of_survey = subst (λ (x : Site). IsSurveyOf host.drives x read.calm (last at) survey) site (subst (λ (c : Image). IsSurveyOf host.drives host.site read.calm c survey) same read.of)

    is_survey : IsSurvey (site_of host.drives (key_of host)) read.calm survey
    is_survey = subst (λ (x : Site). IsSurvey x read.calm survey) site read.survey_is

    -- a drive of a slice that answers, or a call failed on it
    calm_answers : (drive : DriveNo) → has_drive read.calm drive ≡ true → answers_on read.calm survey drive.0 ≡ true
    calm_answers drive calm = answering (has_drive read.calm drive) (has_drive survey.failed drive) calm (read.none drive calm)

    fallen : (line : SliceLine) → Contains (site_of host.drives (key_of host)).lines line → has_drive read.calm line.at.drive ≡ false → (calls line.at.drive.0).some
    fallen line has off = read.failed line.at.drive (subst (λ (x : Site). Contains x.drives line.at.drive) (sym site) (law_sites.brought host.drives (key_of host) line has)) off

    -- It was short of places: a call failed on a drive with one of the site's slices, as long as the database isn't about to be deleted, nor was.
    short_fallen : AllLive history.databases (key_of host) → (readable needed : ℕ) → IsShort survey readable needed → HasFallen host calls
    short_fallen alive readable needed short = elim (all_up (λ n. has_drive read.calm (record { 0 = n })) host.site.lines) [
      | inr one ↦ (one.0, one.1, fallen one.0 (subst (λ (x : Site). Contains x.lines one.0) site one.1) one.2)
      | inl all ↦
          let why = short_by host.drives history.databases (key_of host) read.calm survey at sound stands.databases is_survey of_survey alive readable needed short in
          absurd (why.away (λ line has. calm_answers line.at.drive (all line (subst (λ (x : Site). Contains x.lines line) (sym site) has))))
    ]

    -- a slice on such a drive was read
    module _ (calm : DriveNo → Type 0) (unfailed : (drive : DriveNo) → calm drive → (calls drive.0).some → ⊥) where
      calm_on : (slice : SliceName) (place : SliceAt) → HasSlice host.site.lines slice place → calm place.drive → (b : Bool) → has_drive read.calm place.drive ≡ b → answers_on read.calm survey place.drive.0 ≡ true
      calm_on slice place has passes true on = calm_answers place.drive on
      calm_on slice place has passes false off = absurd (unfailed place.drive passes (fallen (record { name = slice; at = place }) (subst (λ (x : Site). Contains x.lines (record { name = slice; at = place })) site has) off))

  abbrev By : BootEnd → Type 0
  By e = (is_memory e ≡ true) ⊎ ((survey : Survey) × IsReadOf calls host l.kept.content l.boots.up e survey × IsEndBy calls (λ hand table progress. WritesBy host.drives host.site.key l.kept.content l.next.content hand.identity hand.number hand.seats table progress) host.site survey e)

  module _ (alive : AllLive history.databases (key_of host)) where
    two_never : (a b : Identity) (e : BootEnd) → By e → Ends (stop.TwoDatabases a b) ≡ answered_by e → ⊥
    two_never a b (end.TwoDatabases c d) (inl never) is_end = cc (never)
    two_never a b (end.TwoDatabases c d) (inr (survey, read, choice)) is_end = finds_one host.drives (key_of host) read.calm at survey (of_survey l.boots.up survey read) history.databases stands.databases alive c d choice
    two_never a b (end.Adopted o) by is_end = cc (is_end)
    two_never a b end.Empty by is_end = cc (is_end)
    two_never a b (end.NoQuorum readable needed) by is_end = cc (is_end)
    two_never a b (end.Lost active listed) by is_end = cc (is_end)
    two_never a b end.Spent by is_end = cc (is_end)
    two_never a b end.Memory by is_end = cc (is_end)

  -- what was read where the boot was short
  record WasShort : Type 0 where
    ended : BootEnd
    survey : Survey
    read : IsReadOf calls host l.kept.content l.boots.up ended survey
    readable : ℕ
    needed : ℕ
    short : IsShort survey readable needed

  few_read : (readable needed : ℕ) (e : BootEnd) → By e → Ends (stop.NoQuorum readable needed) ≡ answered_by e → WasShort
  few_read readable needed (end.NoQuorum some more) (inl never) is_end = absurd (cc (never))
  few_read readable needed (end.NoQuorum some more) (inr (survey, read, short)) is_end = record { ended = end.NoQuorum some more; survey = survey; read = read; readable = some; needed = more; short = short }
  few_read readable needed (end.TwoDatabases a b) by is_end = absurd (cc (is_end))
  few_read readable needed (end.Adopted o) by is_end = absurd (cc (is_end))
  few_read readable needed end.Empty by is_end = absurd (cc (is_end))
  few_read readable needed (end.Lost active listed) by is_end = absurd (cc (is_end))
  few_read readable needed end.Spent by is_end = absurd (cc (is_end))
  few_read readable needed end.Memory by is_end = absurd (cc (is_end))

  -- its end
  over_two : (over : Ended) (a b : Identity) → status_at over ≡ status.TwoDatabases a b → over ≡ stop.TwoDatabases a b
  over_two (stop.TwoDatabases c d) a b is_status = cc (is_status)
  over_two (stop.NoQuorum readable needed) a b is_status = absurd (cc (is_status))
  over_two (stop.Lost active listed) a b is_status = absurd (cc (is_status))
  over_two stop.Spent a b is_status = absurd (cc (is_status))
  over_two stop.Memory a b is_status = absurd (cc (is_status))

  over_few : (over : Ended) (readable needed : ℕ) → status_at over ≡ status.NoQuorum readable needed → over ≡ stop.NoQuorum readable needed
  over_few (stop.NoQuorum some more) readable needed is_status = cc (is_status)
  over_few (stop.TwoDatabases a b) readable needed is_status = absurd (cc (is_status))
  over_few (stop.Lost active listed) readable needed is_status = absurd (cc (is_status))
  over_few stop.Spent readable needed is_status = absurd (cc (is_status))
  over_few stop.Memory readable needed is_status = absurd (cc (is_status))

  status_two : AllLive history.databases (key_of host) → (a b : Identity) → end_status ≡ status.TwoDatabases a b → ⊥
  status_two alive a b is_status = two_never alive a b l.boots.end l.boots.by (sym (ap Ends (over_two l.over a b (sym l.as_status ∙ is_status))) ∙ l.boots.answer_is)

  was_short : (readable needed : ℕ) → end_status ≡ status.NoQuorum readable needed → WasShort
  was_short readable needed is_status = few_read readable needed l.boots.end l.boots.by (sym (ap Ends (over_few l.over readable needed (sym l.as_status ∙ is_status))) ∙ l.boots.answer_is)

  status_few : AllLive history.databases (key_of host) → (readable needed : ℕ) → end_status ≡ status.NoQuorum readable needed → site_failed host start close
  status_few alive readable needed is_status =
      let w = was_short readable needed is_status in
      let one = short_fallen l.boots.up w.survey w.read alive w.readable w.needed w.short in
      (one.0, one.1, rose one.0.at.drive.0 one.2)

-- None of a history's databases is about to be deleted, nor was, where none of the lines may have taken it away.
runs_alive : (drives : Geometry) (name : List ℕ) (made : Image) (before : List Ran) (t : Tale) (is : IsHistoryOf drives name made before t) → KeepsDatabase (exchanges_by name before) → AllLive (history_after_all new_history is.es).databases (Local name)
runs_alive drives name made before t is keeps =
    each_lives (Local name) (own_view drives name) new_history is.es (may_course (host_of drives name 0) new_history is.es is.course) (runs_live_on drives name before is.es is.come keeps) (λ d has. absurd (never_in d has))

pub runs_find_one : RunsFindOne
runs_find_one drives name made before fresh script stretch start close s of_table new_word old lived each clean tale end_status whole keeps a b is =
    let host = host_of drives name fresh in
    let l = run_boots host script stretch start close s old whole.more end_status whole.last whole.runs (subst IsOfBootStatus (sym is) tt) in
    let begun = lives_stand drives name made before (tale_of s) of_table (lived_life drives made before (tale_of s) lived) in
    let h = history_after_all new_history begun.es in
    let moment = (at_point s stretch l.marks l.back l.goes_on (λ m. RunMoment host script (tale_of s) m.tale) (each s old)).1 in
    let met = (at_point s stretch l.marks l.back l.goes_on (λ m. HasMetNone drives name before fresh script (tale_of s) m.tale) (clean s old)).1 in
    let goes = unmet (met made begun) (moment.stands h begun.stands (none_own drives name before fresh begun.es new_word begun.come)) in
    let front = tale_of (marked s l.marks) in
    let same : moment.bytes ≡ whole.more = append_cancel_left (told (tale_of s)) moment.bytes whole.more (sym moment.is_told ∙ l.is_told) in
    let mine : KeepsDatabase (exchanges_of script moment.bytes) = λ one has. keeps one (Contains-append_right (exchanges_by name before) (exchanges_of script whole.more) one (subst (λ (x : List ℕ). Contains (exchanges_of script x) one) same has)) in
    let alive = each_lives (Local name) (own_view drives name) h goes.es (may_course host h goes.es goes.course) (lined_lives drives name (exchanges_of script moment.bytes) goes.es (run_lined drives name fresh script moment.bytes goes.es goes.come) mine)
    (runs_alive drives name made before (tale_of s) begun (λ one has. keeps one (Contains-append_left (exchanges_by name before) (exchanges_of script whole.more) one has))) in
    status_two host (own_sound drives name fresh lived.fair) refl stretch s whole.more start close end_status l (history_after_all h goes.es) goes.stands alive a b is

module _ (drives : Geometry) (name : List ℕ) (made : Image) (before : List Ran) (fresh : ℕ) (script : Script) (stretch : Stretch) (start close : Counts) (s : Story) (of_table : Contains drives.hosts name) (old : stretch.old ≡ Some s)
    (each : AtEach (LivesOn drives name made before fresh script stretch start) stretch.old stretch.before stretch.new stretch.after) (more : List ℕ) (end_status : RunStatus) (l : IsLastBoot (host_of drives name fresh) stretch s more start close end_status) where
  abbrev host : Host
  host = host_of drives name fresh

  -- the run as it is stopped where the boot began, by which it had told all that it told
  abbrev front : Tale
  front = tale_of (marked s l.marks)

  there : IsStopped drives name made before fresh script (tale_of s) front
  there = stopped drives name made before fresh script of_table stretch start s old each l.marks l.back l.goes_on

  abbrev lines : List Exchange
  lines = exchanges_by name before ++ exchanges_of script more

  its_lines : exchanges_by name there.ran ≡ lines
  its_lines = there.lines ∙ ap (λ (x : List ℕ). exchanges_by name before ++ exchanges_of script x) (append_cancel_left (told (tale_of s)) there.bytes more (sym there.is_told ∙ l.is_told))

  few_fallen : KeepsDatabase lines → (readable needed : ℕ) → end_status ≡ status.NoQuorum readable needed → site_failed host start close
  few_fallen keeps readable needed is =
      let alive = runs_alive drives name made there.ran front there.history (subst KeepsDatabase (sym its_lines) keeps) in
      status_few host there.sound refl stretch s more start close end_status l (history_after_all new_history there.history.es) there.history.stands alive readable needed is

  -- where lines made the database
  module _ (is_made : IsMadeOn lines) (most : (slices : List SliceName) → MayLieOn drives name is_made slices → MostLieOn drives name (IsCalmOn start close) slices) where
    abbrev from : List SliceName
    from = spread is_made.count is_made.slices

    was : LieBehind drives name of_table made from is_made.behind there.ran front
    was = lie_there drives name made before fresh script of_table (tale_of s) front there lines is_made its_lines

    abbrev h : History
    h = history_after_all new_history was.history.es

    most_never : (readable needed : ℕ) → end_status ≡ status.NoQuorum readable needed → ⊥
    most_never readable needed is =
        let w = was_short host there.sound refl stretch s more start close end_status l h was.history.stands readable needed is in
        let up = answers_on w.read.calm w.survey in
        let most_up : (slices : List SliceName) → MayBecome drives name is_made.behind from slices → MostUp drives name from fresh there.sound up slices = λ slices may.
        (let m = most slices may in
        record {
          chosen = m.chosen;
          most = m.most;
          each = λ slice place is_chosen has.
              calm_on host there.sound refl stretch s more start close end_status l h was.history.stands l.boots.up w.survey w.read (IsCalmOn start close)
              (λ drive calm failed. calm (rose host there.sound refl stretch s more start close end_status l h was.history.stands drive.0 failed)) slice place has
              (m.each slice place is_chosen (in_filter (is_line_of host.drives (key_of host)) host.drives.slices (record { name = slice; at = place }) has).0) (has_drive w.read.calm place.drive) refl;
        }) in
        let lists = lists_up drives name from fresh there.sound is_made.behind h front was.history.stands was.lie up most_up in
        never_short host.drives h.databases (key_of host) w.read.calm w.survey front there.sound was.history.stands.databases
        (is_survey host there.sound refl stretch s more start close end_status l h was.history.stands l.boots.up w.survey w.read)
        (of_survey host there.sound refl stretch s more start close end_status l h was.history.stands l.boots.up w.survey w.read)
        was.lie.has.0.0 was.lie.has.0.1 lists w.readable w.needed w.short

pub runs_find_enough : RunsFindEnough
runs_find_enough drives name made before fresh script stretch start close s of_table old each tale end_status whole readable needed is =
    let l = run_boots (host_of drives name fresh) script stretch start close s old whole.more end_status whole.last whole.runs (subst IsOfBootStatus (sym is) tt) in (
      λ keeps. few_fallen drives name made before fresh script stretch start close s of_table old each whole.more end_status l keeps readable needed is,
      λ is_made most. most_never drives name made before fresh script stretch start close s of_table old each whole.more end_status l is_made most readable needed is,
    )
