-- What is so of the host's lines and of a history which they led to goes on over runs, of any hosts, as one history does.
use Rattle.std.proofs.Common.{◌≡◌, ◌≢◌, inl, inr, ℕ, ◌+◌, Bool, List, [], ◌∷◌, ◌++◌, length, append_assoc, None, Some, Contains, refl, sym, ◌∙◌, ap, subst, if◌then◌else◌}
use Rattle.std.proofs.lemmas.List.{append-nil, append_cancel_left}
use Rattle.std.proofs.lemmas.Slice.Eq.{bytes_eq-Decides}
use Rattle.std.specs.Str.{bytes_eq}
use Rattle.mdv_engine_law.specs.Awake.{Happening}
use Rattle.mdv_engine_law.specs.Line.{Memory}
use Rattle.mdv_engine_law.specs.Replies.{text_of}
use Rattle.mdv_engine_law.specs.Standing.{AreOwn, StandsAt}
use Rattle.mdv_engine_law.specs.declared.answer.Answer.{Answer}
use Rattle.mdv_engine_law.specs.declared.host.Host.{Host}
use Rattle.mdv_engine_law.proofs.Plain.{nothing_answers}
use Rattle.mdv_home.specs.View.{own_view}
use Rattle.mdv_name.specs.declared.geometry.Geometry.{Geometry}
use Rattle.mdv_port.specs.Script.{Script, at_end, line, spent, too_long}
use Rattle.mdv_run_law.specs.Lives.{HasMetNone, IsHistoryOf, IsNewWord, MayBeFound, OfHost, Ran, host_of}
use Rattle.mdv_run_law.specs.Run.{At, Counts, IsAnswered, IsSaid, LineTold, LinesTold, NextLine, Stretch, behind_boot, drive_failures, no_line, one_more}
use Rattle.mdv_run_law.specs.Standing.{AreOfRun, ComeOf, NothingLeft, RunMoment, context_of}
use Rattle.mdv_run_law.specs.Told.{IsToldBy, RunToldBy}
use Rattle.mdv_run_law.proofs.Coming.{in_work_none}
use Rattle.mdv_run_law.proofs.Elsewhere.{stands_elsewhere}
use Rattle.mdv_run_law.proofs.Living.{Ends, ends, unmet}
use Rattle.mdv_run_law.proofs.Owning.{none_own}
use Rattle.mdv_run_law.proofs.Since.{since_itself}
use Rattle.mdv_shelf.proofs.Blocks.{both_ways}
use Rattle.mdv_shelf.specs.Everywhere.{Image}
use Rattle.mdv_shelf.specs.Failing.{Outcomes}
use Rattle.mdv_shelf.specs.Moments.{IsSince}
use Rattle.mdv_shelf.specs.Story.{Moment, Story, tale_of}
use Rattle.mdv_shelf.specs.Tale.{Tale, told}
use Rattle.mdv_status.specs.Telling.{left_in, replies_in}
use Rattle.mdv_store_law.specs.Laws.{restarted}
use Rattle.mdv_store_law.specs.Machine as machine
use Rattle.mdv_store_law.proofs.Machine.{after_more, course_more}
use Rattle.mdv_volumes.proofs.Restarts.{restarts_go}
use Rattle.mdv_volumes.specs.History.{Event, History, history_after, history_after_all}
use Rattle.mdv_volumes.specs.HistoryLaws.{new_history}
use Rattle.mdv_theorem.specs.Exchanges.{Exchange, IsTold, exchanges, exchanges_by, exchanges_of}
use Rattle.mdv_theorem.specs.Running.{HaveMetNone, IsMomentOf, Lived, Running, Runs, no_run, run_on}
use Rattle.mdv_theorem.proofs.Behind.{course_parts}
use Rattle.mdv_theorem.proofs.Come.{CameInWork, HasCome, HasMetNothing, come_work}
use Rattle.mdv_theorem.proofs.Fronts.{IsWhole, front_says, none_or_all, whole_came, whole_come, whole_replies, whole_run}
use Rattle.mdv_theorem.proofs.Leading.{IsLed, LedBy, led_by}
use Rattle.mdv_theorem.proofs.Left.{lines_here, lines_say}
use Rattle.mdv_theorem.proofs.Lined.{AreInWork, AreLined, AreQuiet, between_quiet, come_lined, idle_quiet, run_lined, said_of}
use Rattle.mdv_theorem.proofs.Steps.{Between, known_at, line_led}
use Rattle.mdv_theorem.proofs.Sure.{IsSureAt, booted, since_last, sure_boot, sure_on}
use Rattle.mdv_theorem.proofs.Tail.{rest_told}

-- `Says` is what is known beside of a place between two lines, by the lines so far and by what is in memory.
module _ (drives : Geometry) (name : List ℕ) (Says : List Exchange → Memory → Type 0) where
  abbrev own : Host
  own = host_of drives name 0

  -- It is so of no lines; events that begin nothing leave it; and it goes on over a line that was told, and over a line in work.
  pub record GoesOn (P : List Exchange → History → Type 0) : Type 1 where
    pub none : P [] new_history
    pub quiet : (lines : List Exchange) (h : History) (es : List Event) → machine.IsCourse history_after (Happening own) h es → AreQuiet es → P lines h → P lines (history_after_all h es)
    pub line : (fresh : ℕ) (lines : List Exchange) (calls : Outcomes) (from mid : Between (host_of drives name fresh)) (one : Exchange) (answer : Answer) → IsAnswered calls (host_of drives name fresh) from.kept one.text answer mid.kept → IsSaid answer → IsTold one (text_of answer)
        → IsLed (host_of drives name fresh) one from.sure.history mid.sure.history → P lines from.sure.history → Says lines from.kept.memory → P (lines ++ one ∷ []) mid.sure.history
    pub work : (lines : List Exchange) (one : Exchange) (h : History) (es : List Event) → machine.IsCourse history_after (Happening own) h es → one.reply ≡ None → AreInWork drives name one.text es → P lines h → P (lines ++ one ∷ []) (history_after_all h es)

  module _ (P : List Exchange → History → Type 0) (laws : GoesOn P) where
    -- over what is left of a script of which nothing was told
    left_on : (script : Script) (lines : List Exchange) (h : History) (es : List Event) → machine.IsCourse history_after (Happening own) h es → AreLined drives name (exchanges script []) es → P lines h → P (lines ++ exchanges script []) (history_after_all h es)
    left_on at_end lines h es course are is = subst (λ (l : List Exchange). P l (history_after_all h es)) (sym (append-nil lines)) (laws.quiet lines h es course are is)
    left_on (spent rows limit) lines h es course are is = subst (λ (l : List Exchange). P l (history_after_all h es)) (sym (append-nil lines)) (laws.quiet lines h es course are is)
    left_on (too_long more) lines h es course are is = subst (λ (l : List Exchange). P l (history_after_all h es)) (sym (append-nil lines)) (laws.quiet lines h es course are is)
    left_on (line text more) lines h es course are is =
        let one : Exchange = record { text = text; reply = None } in
        let before = are.0 in
        let its = are.1 in
        let rest = are.2 in
        let parts = course_parts history_after (Happening own) h before (its ++ rest) (subst (machine.IsCourse history_after (Happening own) h) are.3 course) in
        let first = history_after_all h before in
        let behind = course_parts history_after (Happening own) first its rest parts.1 in
        let here = laws.work lines one first its behind.0 refl are.5 (laws.quiet lines h before parts.0 are.4 is) in
        let all = laws.quiet (lines ++ one ∷ []) (history_after_all first its) rest behind.1 are.6 here in
        let same : history_after_all (history_after_all first its) rest ≡ history_after_all h es = sym (after_more history_after first its rest) ∙ sym (after_more history_after h before (its ++ rest)) ∙ ap (history_after_all h) (sym are.3) in
        subst (P (lines ++ one ∷ [])) same all

    module _ (fresh : ℕ) where
      abbrev host : Host
      host = host_of drives name fresh

      -- the next line of a script, that was answered
      script_on : (counts later : Counts) (from mid : Between host) (answer : Answer) (rest : Script) → IsSaid answer → (left : Script) → NextLine host counts from.kept left answer later mid.kept rest → LedBy host left (text_of answer) from.sure.history mid.sure.history
          → (lines : List Exchange) → P lines from.sure.history → Says lines from.kept.memory → P (lines ++ said_of left (text_of answer)) mid.sure.history
      script_on counts later from mid answer rest said at_end comes led lines is says = absurd comes
      script_on counts later from mid answer rest said (spent rows limit) comes led lines is says = absurd comes
      script_on counts later from mid answer rest said (too_long more) comes led lines is says =
          let all = subst (P lines) led.is (laws.quiet lines from.sure.history led.es led.course (idle_quiet host led.es led.idle) is) in
          subst (λ (l : List Exchange). P l mid.sure.history) (sym (append-nil lines)) all
      script_on counts later from mid answer rest said (line text more) comes led lines is says =
          laws.line fresh lines (drive_failures counts later) from mid (record { text = text; reply = Some (text_of answer) }) answer comes.2 said refl led is says

      module _ (script : Script) (h : History) (t m : Tale) (none : HasMetNothing host script h t m) (stretch : Stretch) where
        -- where it is so at a place between two lines
        pub record IsSoAt (lines : List Exchange) (at : At) : Type 0 where
          pub sure : IsSureAt host script h t at
          pub is : P lines (history_after_all h sure.come.es)

        abbrev between : (at : At) → IsSureAt host script h t at → Between host
        between at sure = record { kept = at.kept; sure = known_at host script h t at sure }

        -- what is known of each place from there on
        abbrev pub EachSays : ℕ → At → At → List ℕ → List Exchange → Type 0
        EachSays n now last left lines =
            (front : List ℕ) (place : At) (upto : LinesTold host stretch n now front place) (k : ℕ) (rest : List ℕ) → LinesTold host stretch k place rest last → Says (lines ++ lines_here host stretch n now place front upto) place.kept.memory

        -- over the next line
        pub line_on : (now mid : At) (piece : List ℕ) (line_told : LineTold host now piece mid) → ((u : Story) → mid.story ≡ Some u → IsSince (tale_of u) m) → (lines : List Exchange) → Says lines now.kept.memory → IsSoAt lines now → IsSoAt (lines ++ said_of now.script (text_of line_told.answer)) mid
        line_on now mid piece line_told since lines says so =
            let on = sure_on host script h t m none now mid piece line_told so.sure since in
            record { sure = on.next; is = script_on now.counts mid.counts (between now so.sure) (between mid on.next) line_told.answer mid.script line_told.said now.script line_told.comes (line_led host script h t m none now mid piece line_told so.sure on) lines so.is says }

        -- and over lines, one behind the other
        pub lines_on : (n : ℕ) (now last : At) (left : List ℕ) (these : LinesTold host stretch n now left last) → ((u : Story) → last.story ≡ Some u → IsSince (tale_of u) m) → (lines : List Exchange) → EachSays n now last left lines → IsSoAt lines now
            → IsSoAt (lines ++ lines_here host stretch n now last left these) last
        lines_on n now last left (no_line bytes at) since lines each so = record { sure = so.sure; is = subst (λ (l : List Exchange). P l (history_after_all h so.sure.come.es)) (sym (append-nil lines)) so.is }
        lines_on n now last left (one_more bytes at mid end piece behind some line_told shown more) since lines each so =
            let here = said_of now.script (text_of line_told.answer) in
            let rest = lines_here host stretch (n + length piece) mid last behind more in
            let says : Says lines now.kept.memory = subst (λ (l : List Exchange). Says l now.kept.memory) (append-nil lines) (each [] now (no_line n now) n left (one_more n now mid last piece behind some line_told shown more)) in
            let first = line_on now mid piece line_told (λ v is. since_last host stretch (n + length piece) mid last behind m more since v is) lines says so in
            let behind_says : EachSays (n + length piece) mid last behind (lines ++ here) = λ front place upto k others these.
            subst (λ (l : List Exchange). Says l place.kept.memory) (sym (append_assoc lines here (lines_here host stretch (n + length piece) mid place front upto))) (each (piece ++ front) place (one_more n now mid place piece front some line_told shown upto) k others these) in
            subst (λ (l : List Exchange). IsSoAt l last) (append_assoc lines here rest) (lines_on (n + length piece) mid last behind more since (lines ++ here) behind_says first)

  -- what a run leaves of a history
  pub record RunOn (P : List Exchange → History → Type 0) (fresh : ℕ) (script : Script) (bytes : List ℕ) (h : History) (lines : List Exchange) (m : Tale) : Type 0 where
    pub es : List Event
    pub course : machine.IsCourse history_after (Happening own) h es
    pub come : AreOfRun (host_of drives name fresh) script bytes es
    pub stands : StandsAt own (history_after_all h es) m
    pub is : P lines (history_after_all h es)

  -- so it is of each place between two lines of a run
  abbrev pub PlacesSay : (before : List Ran) (script : Script) → Running drives name before script → Type 0
  PlacesSay before script run =
      (by : RunToldBy (host_of drives name run.fresh) run.stretch run.start run.t.tale script run.tells.bytes run.m) (front : List ℕ) (place : At) (upto : LinesTold (host_of drives name run.fresh) run.stretch 0 (behind_boot by.booted by.by by.kept script) front place) (k : ℕ) (rest : List ℕ)
      → LinesTold (host_of drives name run.fresh) run.stretch k place rest by.lines.at
      → Says (exchanges_by name before ++ lines_here (host_of drives name run.fresh) run.stretch 0 (behind_boot by.booted by.by by.kept script) place front upto) place.kept.memory

  module _ (P : List Exchange → History → Type 0) (laws : GoesOn P) (image : Image) (before : List Ran) (script : Script) (run : Running drives name before script) (of : IsHistoryOf drives name image before run.t.tale)
      (so : P (exchanges_by name before) (history_after_all new_history of.es)) (each : PlacesSay before script run) where
    abbrev its : Host
    its = host_of drives name run.fresh

    abbrev h : History
    h = history_after_all new_history of.es

    abbrev lines : List Exchange
    lines = exchanges_by name before

    abbrev t : Tale
    t = run.t.tale

    abbrev m : Tale
    m = run.m.tale

    abbrev bytes : List ℕ
    bytes = run.tells.bytes

    pub none_met_of : HasMetNothing its script h t m
    none_met_of met = run.clean image of met

    owned : AreOwn its 0 h
    owned = none_own drives name before run.fresh of.es run.new_word of.come

    abbrev On : Type 0
    On = RunOn P run.fresh script bytes h (lines ++ exchanges_of script bytes) m

    module _ (by : RunToldBy its run.stretch run.start t script bytes run.m) where
      abbrev first : At
      first = booted its run.stretch run.start t script bytes run.m by

      abbrev last : At
      last = by.lines.at

      abbrev here : List Exchange
      here = lines_here its run.stretch 0 first last by.lines.so_far by.lines.lines

      abbrev work : List Exchange
      work = exchanges_of last.script by.lines.rest

      says : exchanges_of script bytes ≡ here ++ work
      says = ap (exchanges_of script) by.lines.parts ∙ lines_say its run.stretch 0 first last by.lines.so_far by.lines.rest by.lines.lines

      abbrev SoAt : List Exchange → At → Type 0
      SoAt = IsSoAt P laws run.fresh script h t m none_met_of run.stretch

      -- behind its boot
      pub first_so : SoAt lines first
      first_so =
          let up = sure_boot its run.stretch run.start t script bytes run.m by run.moment.begins.0 run.moment.begins.1 h of.stands owned none_met_of in
          record { sure = up.0; is = laws.quiet lines h up.0.come.es up.0.come.course (idle_quiet its up.0.come.es up.1) so }

      its_says : EachSays P laws run.fresh script h t m none_met_of run.stretch 0 first last by.lines.so_far lines
      its_says front place upto k rest more = each by front place upto k rest more

      -- and behind the last line that was told
      last_so : SoAt (lines ++ here) last
      last_so = lines_on P laws run.fresh script h t m none_met_of run.stretch 0 first last by.lines.so_far by.lines.lines (λ u is. (by.lines.work u is).moment.since) lines its_says first_so

      abbrev story : Story
      story = last_so.sure.story

      more_told : told m ≡ told (tale_of story) ++ by.lines.rest
      more_told = rest_told its run.stretch run.start t script bytes run.m by run.tells.is_told run.moment.begins.0 run.moment.begins.1 run.moment.begins.2 story last_so.sure.is

      all_lines : (lines ++ here) ++ work ≡ lines ++ exchanges_of script bytes
      all_lines = append_assoc lines here work ∙ ap (λ (l : List Exchange). lines ++ l) (sym says)

      -- No reply of the line in work was told.
      module _ (nothing : replies_in by.lines.rest ≡ []) where
        abbrev came : CameInWork its script h t last.kept.memory last.script (tale_of story) last_so.sure.come m
        came = come_work its script h t last.kept.memory last.script (tale_of story) last_so.sure.come m (by.lines.work story last_so.sure.is).moment (since_itself m) none_met_of

        came_same : came.bytes ≡ by.lines.rest
        came_same = append_cancel_left (told (tale_of story)) came.bytes by.lines.rest (ap (λ (l : List ℕ). l ++ came.bytes) last_so.sure.come.is_told ∙ append_assoc (told t) last_so.sure.come.bytes came.bytes ∙ sym came.is_told ∙ more_told)

        came_all : last_so.sure.come.bytes ++ came.bytes ≡ bytes
        came_all = append_cancel_left (told t) (last_so.sure.come.bytes ++ came.bytes) bytes (sym came.is_told ∙ run.tells.is_told)

        quiet_on : On
        quiet_on =
            let es = last_so.sure.come.es in
            let there = history_after_all h es in
            let none_said : replies_in came.bytes ≡ [] = ap replies_in came_same ∙ nothing in
            let lined : AreLined drives name (exchanges last.script []) came.fs = subst (λ (l : List (List ℕ)). AreLined drives name (exchanges last.script l) came.fs) none_said
            (come_lined drives name run.fresh (left_in came.bytes) (context_of last.kept.memory) last.script (replies_in came.bytes) came.fs came.come) in
            let all = left_on P laws last.script (lines ++ here) there came.fs came.course lined last_so.is in
            let same : (lines ++ here) ++ exchanges last.script [] ≡ lines ++ exchanges_of script bytes = ap (λ (l : List (List ℕ)). (lines ++ here) ++ exchanges last.script l) (sym nothing) ∙ all_lines in
            record {
              es = es ++ came.fs;
              course = course_more history_after (Happening own) h es came.fs last_so.sure.come.course came.course;
              come = subst (λ (l : List ℕ). AreOfRun its script l (es ++ came.fs)) came_all came.all;
              stands = came.stands;
              is = subst (λ (l : List Exchange). P l (history_after_all h (es ++ came.fs))) same (subst (P ((lines ++ here) ++ exchanges last.script [])) (sym (after_more history_after h es came.fs)) all);
            }

      -- Its whole reply was told.
      module _ (w : IsWhole its last by.lines.rest run.m) where
        abbrev ended : HasCome its script h t w.front.next.memory w.front.more m
        ended = whole_come its last by.lines.rest run.m script h t none_met_of w last_so.sure more_told

        abbrev end_between : Between its
        end_between = record { kept = w.front.next; sure = record { tale = m; history = history_after_all h ended.es; known = ended.known; reads = w.front.shows } }

        ended_led : LedBy its last.script (text_of w.front.answer) (history_after_all h last_so.sure.come.es) (history_after_all h ended.es)
        ended_led =
            let on = whole_came its last by.lines.rest run.m script h t none_met_of w last_so.sure more_told in
            let here_is = history_after_all h last_so.sure.come.es in
            let behind : history_after_all here_is on.fs ≡ history_after_all h ended.es = sym (ap (history_after_all h) on.all ∙ after_more history_after h last_so.sure.come.es on.fs) in
            led_by its last.script (text_of w.front.answer) (context_of last.kept.memory) (context_of w.front.next.memory) here_is (history_after_all h ended.es) on.fs on.course behind
            (subst (λ (l : List (List ℕ)). ComeOf its (NothingLeft (context_of w.front.next.memory)) (context_of last.kept.memory) last.script l on.fs) (whole_replies its last by.lines.rest run.m script h t none_met_of w last_so.sure more_told) on.come)

        whole_on : On
        whole_on =
            let reply = text_of w.front.answer in
            let from : Between its = record { kept = last.kept; sure = known_at its script h t last last_so.sure } in
            let says : Says (lines ++ here) last.kept.memory = its_says by.lines.so_far last by.lines.lines 0 [] (no_line 0 last) in
            let first_on = script_on P laws run.fresh last.counts w.front.later from end_between w.front.answer w.front.more w.said last.script w.front.comes ended_led (lines ++ here) last_so.is says in
            let lined : AreLined drives name (exchanges w.front.more []) [] = come_lined drives name run.fresh [] (context_of w.front.next.memory) w.front.more [] [] (in_work_none its (context_of w.front.next.memory) w.front.more) in
            let all = left_on P laws w.front.more ((lines ++ here) ++ said_of last.script reply) (history_after_all h ended.es) [] tt lined first_on in
            let bytes_is : ended.bytes ≡ bytes = append_cancel_left (told t) ended.bytes bytes (sym ended.is_told ∙ run.tells.is_told) in
            let same : ((lines ++ here) ++ said_of last.script reply) ++ exchanges w.front.more [] ≡ lines ++ exchanges_of script bytes =
            append_assoc (lines ++ here) (said_of last.script reply) (exchanges w.front.more []) ∙ ap (λ (l : List Exchange). (lines ++ here) ++ l) (sym (front_says its last by.lines.rest run.m last.script w w.front.comes)) ∙ all_lines in
            record {
              es = ended.es;
              course = ended.course;
              come = subst (λ (l : List ℕ). AreOfRun its script l ended.es) bytes_is (whole_run its last by.lines.rest run.m script h t none_met_of w last_so.sure more_told);
              stands = ended.known.stands;
              is = subst (λ (l : List Exchange). P l (history_after_all h ended.es)) same all;
            }

      told_on : On
      told_on = elim (none_or_all its last by.lines.rest run.m by.lines.front) [ inl nothing ↦ quiet_on nothing | inr w ↦ whole_on w ]

    -- Over a run of the host; where nothing of it was told its moments say what came.
    pub run_goes_on : RunMoment its script t m → On
    run_goes_on stands = elim run.tells.tells [
      | inl nothing ↦ quiet nothing.0
      | inr by ↦ told_on by
    ] where
      quiet : bytes ≡ [] → On
      quiet no_bytes =
          let went = unmet none_met_of (stands.stands h of.stands owned) in
          let same_bytes : stands.bytes ≡ bytes = append_cancel_left (told t) stands.bytes bytes (sym stands.is_told ∙ run.tells.is_told) in
          let come : AreOfRun its script bytes went.es = subst (λ (l : List ℕ). AreOfRun its script l went.es) same_bytes went.come in
          let none_said : replies_in bytes ≡ [] = ap replies_in no_bytes ∙ nothing_answers in
          let lined : AreLined drives name (exchanges script []) went.es = subst (λ (l : List (List ℕ)). AreLined drives name (exchanges script l) went.es) none_said (run_lined drives name run.fresh script bytes went.es come) in
          record {
            es = went.es;
            course = went.course;
            come = come;
            stands = went.stands;
            is = subst (λ (l : List (List ℕ)). P (lines ++ exchanges script l) (history_after_all h went.es)) (sym none_said) (left_on P laws script lines h went.es went.course lined so);
          }

  -- Over runs.
  module _ (P : List Exchange → History → Type 0) (laws : GoesOn P) (of_table : Contains drives.hosts name) (image : Image) (each : (before : List Ran) (script : Script) (run : Running drives name before script) → PlacesSay before script run) where
    pub record IsSoBehind (ran : List Ran) (t : Tale) : Type 0 where
      pub history : IsHistoryOf drives name image ran t
      pub is : P (exchanges_by name ran) (history_after_all new_history history.es)

    -- one more run, and what is found as the next one starts
    more_behind : (lines : List Exchange) (before : List Ran) (run : Ran) (t next : Tale) (old : IsHistoryOf drives name image before t) (more : List Event) → machine.IsCourse history_after (Happening own) (history_after_all new_history old.es) more
        → OfHost name run (AreOfRun (host_of drives name run.fresh) run.script run.bytes more) (more ≡ []) → P lines (history_after_all (history_after_all new_history old.es) more)
        → Ends drives name image of_table (history_after_all (history_after_all new_history old.es) more) next → exchanges_by name (run ∷ before) ≡ lines → IsSoBehind (run ∷ before) next
    more_behind lines before run t next old more course of_run is over says =
        let h = history_after_all new_history old.es in
        let there = history_after_all h more in
        let behind = laws.quiet lines there over.end over.course (between_quiet over.end over.between) is in
        let same : history_after_all new_history (old.es ++ (more ++ over.end)) ≡ history_after_all there over.end = after_more history_after new_history old.es (more ++ over.end) ∙ after_more history_after h more over.end in
        record {
          history = record {
            es = old.es ++ (more ++ over.end);
            course = course_more history_after (Happening own) new_history old.es (more ++ over.end) old.course (course_more history_after (Happening own) h more over.end course over.course);
            come = (old.es, more, over.end, refl, old.come, of_run, over.between);
            stands = subst (λ (g : History). StandsAt own g next) (sym same) over.stands;
          };
          is = subst (λ (l : List Exchange). P l (history_after_all new_history (old.es ++ (more ++ over.end)))) (sym says) (subst (P lines) (sym same) behind);
        }

    module _ (before : List Ran) (fresh : ℕ) (stretch : Stretch) (counts : Counts) (old m : Moment) (next : Tale) (script : Script) (life : Lived drives image before old.tale) (moment : IsMomentOf stretch old m) (found : MayBeFound m.tale next) (was : IsSoBehind before old.tale) where
      abbrev old_h : History
      old_h = history_after_all new_history was.history.es

      abbrev SoBehindRun : List ℕ → Type 0
      SoBehindRun other =
          IsNewWord other fresh before → (stands : RunMoment (host_of drives other fresh) script old.tale m.tale) → IsToldBy (host_of drives other fresh) stretch counts script old m → HasMetNone drives other before fresh script old.tale m.tale
          → IsSoBehind (record { host = other; fresh = fresh; script = script; bytes = stands.bytes } ∷ before) next

      own_so : SoBehindRun name
      own_so new_word stands tells clean =
          let run : Running drives name before script = record { made = image; fresh = fresh; stretch = stretch; start = counts; t = old; m = m; life = life; new_word = new_word; clean = clean; tells = tells; moment = moment } in
          let on = run_goes_on P laws image before script run was.history was.is (each before script run) stands in
          let here : Ran = record { host = name; fresh = fresh; script = script; bytes = stands.bytes } in
          let same_bytes : tells.bytes ≡ stands.bytes = append_cancel_left (told old.tale) tells.bytes stands.bytes (sym tells.is_told ∙ stands.is_told) in
          let lines = exchanges_by name before ++ exchanges_of script stands.bytes in
          more_behind lines before here old.tale next was.history on.es on.course (inl (refl, subst (λ (l : List ℕ). AreOfRun (host_of drives name fresh) script l on.es) same_bytes on.come))
          (subst (λ (l : List ℕ). P (exchanges_by name before ++ exchanges_of script l) (history_after_all old_h on.es)) same_bytes on.is) (ends drives name image of_table (history_after_all old_h on.es) m.tale next found on.stands)
          (ap (λ (b : Bool). exchanges_by name before ++ (if b then exchanges_of script stands.bytes else [])) ((bytes_eq-Decides name name).1 refl))

      -- any host's run
      any_so : (other : List ℕ) → SoBehindRun other
      any_so other new_word stands tells clean = elim (both_ways (bytes_eq other name)) [
        | inl does ↦ subst SoBehindRun (sym ((bytes_eq-Decides other name).0 does)) own_so new_word stands tells clean
        | inr never ↦
            let differ : other ≢ name = λ same. (let does = (bytes_eq-Decides other name).1 same in cc (does, never)) in
            more_behind (exchanges_by name before) before (record { host = other; fresh = fresh; script = script; bytes = stands.bytes }) old.tale next was.history [] tt (inr (differ, refl)) was.is
            (ends drives name image of_table old_h m.tale next found (stands_elsewhere drives name other 0 fresh differ old_h old.tale m.tale stands.home was.history.stands))
            (ap (λ (b : Bool). exchanges_by name before ++ (if b then exchanges_of script stands.bytes else [])) never ∙ append-nil (exchanges_by name before))
      ]

    module _ (first_told : List ℕ) (start : IsSoBehind [] (restarted image first_told)) (live : (ran : List Ran) (t : Tale) (runs : Runs drives [] (restarted image first_told) ran t) → HaveMetNone runs → Lived drives image ran t) where
      runs_so : (ran : List Ran) (t : Tale) (runs : Runs drives [] (restarted image first_told) ran t) → HaveMetNone runs → IsSoBehind ran t
      runs_so ran t no_run clean = start
      runs_so ran t (run_on before other fresh stretch counts old m next script runs other_of new_word stands tells moment found) clean =
          any_so before fresh stretch counts old m next script (live before old.tale runs clean.0) moment found (runs_so before old.tale runs clean.0) other new_word stands tells clean.1

    -- So it is behind each life's runs, by one history of theirs.
    pub life_goes_on : (ran : List Ran) (t : Tale) → Lived drives image ran t → IsSoBehind ran t
    life_goes_on ran t life =
        let start : IsSoBehind [] (restarted image life.told) = record { history = record { es = []; course = tt; come = refl; stands = restarts_go.new_drives (own_view drives name) image life.told (life.new name of_table) }; is = laws.none } in
        runs_so life.told start (λ other u runs clean. record { fair = life.fair; told = life.told; new = life.new; runs = runs; clean = clean }) ran t life.runs life.clean
