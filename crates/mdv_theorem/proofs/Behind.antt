-- Behind a run, and behind runs of any hosts, the lists of places that a boot may find lie on slices that the lines so far may have come to.
use Rattle.std.proofs.Common.{◌≡◌, ◌⊎◌, inl, inr, ℕ, ◌+◌, length, append_assoc, List, [], ◌∷◌, ◌++◌, Option, Some, None, Contains, refl, sym, ◌∙◌, ap, subst}
use Rattle.std.proofs.lemmas.List.{append-nil, append_cancel_left}
use Rattle.std.proofs.lemmas.List.Elements.{Contains-append_left, Contains-append_right}
use Rattle.mdv_base.specs.declared.drive.SliceName.{SliceName}
use Rattle.mdv_engine_law.specs.Awake.{Happening}
use Rattle.mdv_engine_law.specs.Replies.{text_of}
use Rattle.mdv_engine_law.specs.Standing.{AreOwn, StandsAt}
use Rattle.mdv_engine_law.specs.declared.host.Host.{Host}
use Rattle.mdv_engine_law.proofs.Going.{may_course}
use Rattle.mdv_name.specs.declared.geometry.Geometry.{Geometry}
use Rattle.mdv_port.specs.Script.{Script}
use Rattle.mdv_run_law.specs.Lives.{host_of}
use Rattle.mdv_run_law.specs.Run.{At, Counts, LinesTold, Stretch, no_line, one_more}
use Rattle.mdv_run_law.specs.Standing.{AreIdle, AreOfRun, context_of}
use Rattle.mdv_run_law.specs.Told.{IsToldBy, RunToldBy}
use Rattle.mdv_run_law.proofs.Coming.{in_work_none}
use Rattle.mdv_run_law.proofs.Since.{since_itself}
use Rattle.mdv_shelf.specs.Story.{Moment, Story, marked, tale_of}
use Rattle.mdv_shelf.specs.Tale.{Tale, told}
use Rattle.mdv_status.specs.Telling.{left_in, replies_in}
use Rattle.mdv_store_law.specs.Machine as machine
use Rattle.mdv_store_law.proofs.Machine.{after_more, course_more}
use Rattle.mdv_volumes.specs.Happening.{IsCourse, MayHappen}
use Rattle.mdv_volumes.specs.History.{Deleted, Event, History, history_after, history_after_all}
use Rattle.mdv_volumes.specs.HistoryLaws.{KeepDatabase}
use Rattle.mdv_volumes.proofs.Lists.{contains_behind, contains_first}
use Rattle.mdv_theorem.specs.Exchanges.{Exchange, exchanges, exchanges_of}
use Rattle.mdv_theorem.specs.Words.{KeepsDatabase, MayTakeDatabase}
use Rattle.mdv_theorem.proofs.Lines.{the_only}
use Rattle.mdv_theorem.proofs.Fronts.{AreUntold, IsWhole, front_says, none_or_all, none_told, whole_come, whole_lies, whole_run}
use Rattle.mdv_theorem.proofs.Along.{LieAt, lines_lie}
use Rattle.mdv_theorem.proofs.Come.{CameInWork, HasCome, HasMetNothing, come_work}
use Rattle.mdv_theorem.proofs.Left.{lines_here, lines_say}
use Rattle.mdv_theorem.proofs.Lined.{AreLined, AreOfReply, AreQuiet, alone, come_lined, idle_quiet, lined_lives, said_of}
use Rattle.mdv_theorem.proofs.Lists.{ListsLie, g, key, lie_quiet}
use Rattle.mdv_theorem.proofs.Moves.{AreBegunBy, replied_begun, untold_lies}
use Rattle.mdv_theorem.proofs.Sure.{IsSureAt, booted, sure_boot}

-- a course is that of its front, and of what is behind
pub course_parts : {S E : Type 0} (after : S → E → S) (May : S → E → Type 0) (state : S) (es fs : List E) → machine.IsCourse after May state (es ++ fs) → machine.IsCourse after May state es × machine.IsCourse after May (machine.after_all after state es) fs
course_parts after May state [] fs course = (tt, course)
course_parts after May state (e ∷ es) fs course = (let rest = course_parts after May (after state e) es fs course.1 in ((course.0, rest.0), rest.1))

-- what lines told that were told, one behind the other
pub lines_told_so : (host : Host) (stretch : Stretch) (n : ℕ) (now last : At) (front : List ℕ) → LinesTold host stretch n now front last → (s u : Story) → now.story ≡ Some s → last.story ≡ Some u → told (tale_of u) ≡ told (tale_of s) ++ front
lines_told_so host stretch n now last front (no_line bytes at) s u is last_is = (let both : Some s ≡ Some u = sym is ∙ last_is in let same : s ≡ u = cc (both) in ap (λ (x : Story). told (tale_of x)) (sym same) ∙ sym (append-nil (told (tale_of s))))
lines_told_so host stretch n now last front (one_more bytes at mid end piece left some line_told shown lines) s u is last_is =
    let to = line_told.passage.in_time.drives 0 s is in
    let v = marked s to.0 in
    lines_told_so host stretch (n + length piece) mid last left lines v u to.1 last_is ∙ ap (λ (l : List ℕ). l ++ left) (line_told.passage.told s v is to.1) ∙ append_assoc (told (tale_of s)) piece left

module _ (drives : Geometry) (name : List ℕ) (from : List SliceName) where
  none_of : (one : Exchange) (es : List Event) → AreOfReply drives name one.text one.reply es → AreQuiet es ⊎ AreBegunBy drives name one es
  none_of one es are = by one.reply refl are where
    by : (reply : Option (List ℕ)) → one.reply ≡ reply → AreOfReply drives name one.text reply es → AreQuiet es ⊎ AreBegunBy drives name one es
    by None is are = inr (record { ask = are.ask; asks = are.asks; begun = λ refusal is_told. absurd (cc (is, is_told)); begins = are.begins })
    by (Some reply) is are = subst (λ (r : Option (List ℕ)). AreQuiet es ⊎ AreBegunBy drives name (record { text = one.text; reply = r }) es) (sym is) (replied_begun drives name one.text reply es are)

  -- Behind lines of which none was told so.
  pub lined_lies : (lines more : List Exchange) (h : History) (es : List Event) → IsCourse (g drives name from) h es → KeepsDatabase more → AreUntold more → AreLined drives name more es → ListsLie drives name from lines h
      → ListsLie drives name from (lines ++ more) (history_after_all h es)
  lined_lies lines [] h es course keeps untold quiet lie =
      subst (λ (l : List Exchange). ListsLie drives name from l (history_after_all h es)) (sym (append-nil lines)) (lie_quiet drives name from lines h es course (λ has. quiet (Deleted (key drives name from)) has) lie quiet)
  lined_lies lines (one ∷ more) h es course keeps untold are lie =
      let before = are.0 in
      let own = are.1 in
      let rest = are.2 in
      let parts = course_parts history_after (MayHappen (g drives name from)) h before (own ++ rest) (subst (IsCourse (g drives name from) h) are.3 course) in
      let behind = course_parts history_after (MayHappen (g drives name from)) (history_after_all h before) own rest parts.1 in
      let first = lie_quiet drives name from lines h before parts.0 (λ has. are.4 (Deleted (key drives name from)) has) lie are.4 in
      let keep : KeepDatabase (key drives name from) own = lined_lives drives name (one ∷ []) own (alone drives name 0 one own are.5) (λ other has. subst (λ (e : Exchange). MayTakeDatabase e → ⊥) (the_only one other has) (λ takes. keeps one (contains_first one more) takes)) in
      let here = untold_lies drives name from lines (history_after_all h before) own behind.0 keep first one (untold one (contains_first one more)) (λ takes. keeps one (contains_first one more) takes) (none_of one own are.5) in
      let all = lined_lies (lines ++ one ∷ []) more (history_after_all (history_after_all h before) own) rest behind.1 (λ other has. keeps other (contains_behind one other more has)) (λ other has. untold other (contains_behind one other more has)) are.6 here in
      let same : history_after_all (history_after_all (history_after_all h before) own) rest ≡ history_after_all h es =
      sym (after_more history_after (history_after_all h before) own rest) ∙ sym (after_more history_after h before (own ++ rest)) ∙ ap (history_after_all h) (sym are.3) in
      subst (λ (l : List Exchange). ListsLie drives name from l (history_after_all h es)) (append_assoc lines (one ∷ []) more) (subst (ListsLie drives name from ((lines ++ one ∷ []) ++ more)) same all)

  -- What a run leaves of a history: it goes on by the run's events.
  pub record RunLies (host : Host) (script : Script) (bytes : List ℕ) (h : History) (lines : List Exchange) (m : Tale) : Type 0 where
    pub es : List Event
    pub course : machine.IsCourse history_after (Happening host) h es
    pub come : AreOfRun host script bytes es
    pub stands : StandsAt host (history_after_all h es) m
    pub lie : ListsLie drives name from lines (history_after_all h es)

  module _ (fresh : ℕ) (script : Script) (stretch : Stretch) (start : Counts) (h : History) (t : Tale) (bytes : List ℕ) (m : Moment) (by : RunToldBy (host_of drives name fresh) stretch start t script bytes m)
      (none : HasMetNothing (host_of drives name fresh) script h t m.tale) (stands : StandsAt (host_of drives name fresh) h t) (own : AreOwn (host_of drives name fresh) 0 h) (s : Story) (begins : stretch.old ≡ Some s) (starts : tale_of s ≡ t) (is_told : told m.tale ≡ told t ++ bytes) where
    abbrev host : Host
    host = host_of drives name fresh

    up : (sure : IsSureAt host script h t (booted host stretch start t script bytes m by)) × AreIdle host sure.come.es
    up = sure_boot host stretch start t script bytes m by s begins h stands own none

    -- the lines in work
    abbrev pub work : List Exchange
    work = exchanges_of by.lines.at.script by.lines.rest

    -- by its last line that was told this was told
    last_told : (u : Story) → by.lines.at.story ≡ Some u → told (tale_of u) ≡ told t ++ by.lines.so_far
    last_told u is =
        let to = by.point.in_time.drives 0 s begins in
        lines_told_so host stretch 0 (booted host stretch start t script bytes m by) by.lines.at by.lines.so_far by.lines.lines (marked s to.0) u to.1 is
        ∙ ap (λ (l : List ℕ). l ++ by.lines.so_far) (by.point.quiet s (marked s to.0) begins to.1 ∙ ap told starts)

    -- From a place between two lines on.
    module _ (n : ℕ) (now : At) (left : List ℕ) (lines_told : LinesTold host stretch n now left by.lines.at) (lines : List Exchange) (lie : LieAt drives name from fresh script h t m.tale none lines now)
        (here_keeps : KeepsDatabase (lines_here host stretch n now by.lines.at left lines_told)) (work_keeps : KeepsDatabase work) where
      abbrev here : List Exchange
      here = lines_here host stretch n now by.lines.at left lines_told

      -- behind the last line that was told
      pub last_lies : LieAt drives name from fresh script h t m.tale none (lines ++ here) by.lines.at
      last_lies = lines_lie drives name from fresh script h t m.tale none stretch n now by.lines.at left lines_told (λ u is. (by.lines.work u is).moment.since) lines here_keeps lie

      -- and at the moment, by the line in work
      abbrev pub in_work : CameInWork host script h t by.lines.at.kept.memory by.lines.at.script (tale_of last_lies.sure.story) last_lies.sure.come m.tale
      in_work = come_work host script h t by.lines.at.kept.memory by.lines.at.script (tale_of last_lies.sure.story) last_lies.sure.come m.tale (by.lines.work last_lies.sure.story last_lies.sure.is).moment (since_itself m.tale) none

      abbrev pub events : List Event
      events = last_lies.sure.come.es ++ in_work.fs

      -- of which just this was told
      come_same : last_lies.sure.come.bytes ≡ by.lines.so_far
      come_same = append_cancel_left (told t) last_lies.sure.come.bytes by.lines.so_far (sym last_lies.sure.come.is_told ∙ last_told last_lies.sure.story last_lies.sure.is)

      work_same : in_work.bytes ≡ by.lines.rest
      work_same =
          let all = append_cancel_left (told t) (last_lies.sure.come.bytes ++ in_work.bytes) (by.lines.so_far ++ by.lines.rest) (sym in_work.is_told ∙ is_told ∙ ap (λ (l : List ℕ). told t ++ l) by.lines.parts) in
          append_cancel_left by.lines.so_far in_work.bytes by.lines.rest (ap (λ (l : List ℕ). l ++ in_work.bytes) (sym come_same) ∙ all)

      -- they are the run's
      pub all_events : AreOfRun host script bytes events
      all_events = subst (λ (l : List ℕ). AreOfRun host script l events) ((λ i. come_same i ++ work_same i) ∙ sym by.lines.parts) in_work.all

      pub events_course : machine.IsCourse history_after (Happening host) h events
      events_course = course_more history_after (Happening host) h last_lies.sure.come.es in_work.fs last_lies.sure.come.course in_work.course

      -- which wasn't told to have moved places
      pub work_lies : AreUntold work → ListsLie drives name from ((lines ++ here) ++ work) (history_after_all h events)
      work_lies untold =
          let there = history_after_all h last_lies.sure.come.es in
          let lined : AreLined drives name work in_work.fs = subst (λ (l : List ℕ). AreLined drives name (exchanges_of by.lines.at.script l) in_work.fs) work_same
          (come_lined drives name fresh (left_in in_work.bytes) (context_of by.lines.at.kept.memory) by.lines.at.script (replies_in in_work.bytes) in_work.fs in_work.come) in
          let all = lined_lies (lines ++ here) work there in_work.fs (may_course host there in_work.fs in_work.course) work_keeps untold lined last_lies.lie in
          subst (ListsLie drives name from ((lines ++ here) ++ work)) (sym (after_more history_after h last_lies.sure.come.es in_work.fs)) all

      -- what was told of the line in work
      more_told : told m.tale ≡ told (tale_of last_lies.sure.story) ++ by.lines.rest
      more_told =
          is_told ∙ ap (λ (l : List ℕ). told t ++ l) by.lines.parts ∙ sym (append_assoc (told t) by.lines.so_far by.lines.rest)
          ∙ ap (λ (l : List ℕ). l ++ by.lines.rest) (sym (last_told last_lies.sure.story last_lies.sure.is))

      abbrev Tail : Type 0
      Tail = RunLies host script bytes h ((lines ++ here) ++ work) m.tale

      quiet_tail : replies_in by.lines.rest ≡ [] → Tail
      quiet_tail nothing = record {
        es = events;
        course = events_course;
        come = all_events;
        stands = in_work.stands;
        lie = work_lies (subst (λ (l : List (List ℕ)). AreUntold (exchanges by.lines.at.script l)) (sym nothing) (none_told by.lines.at.script));
      }

      -- where its whole reply was told
      module _ (w : IsWhole host by.lines.at by.lines.rest m) where
        abbrev of_line : List Exchange
        of_line = said_of by.lines.at.script (text_of w.front.answer)

        abbrev behind_it : List Exchange
        behind_it = exchanges w.front.more []

        work_says : work ≡ of_line ++ behind_it
        work_says = front_says host by.lines.at by.lines.rest m by.lines.at.script w w.front.comes

        abbrev then : HasCome host script h t w.front.next.memory w.front.more m.tale
        then = whole_come host by.lines.at by.lines.rest m script h t none w last_lies.sure more_told

        then_same : then.bytes ≡ bytes
        then_same = append_cancel_left (told t) then.bytes bytes (sym then.is_told ∙ is_told)

        line_keeps : KeepsDatabase of_line
        line_keeps one has = work_keeps one (subst (λ (l : List Exchange). Contains l one) (sym work_says) (Contains-append_left of_line behind_it one has))

        left_keeps : KeepsDatabase behind_it
        left_keeps one has = work_keeps one (subst (λ (l : List Exchange). Contains l one) (sym work_says) (Contains-append_right of_line behind_it one has))

        -- the next line has begun nothing
        left_lined : AreLined drives name behind_it []
        left_lined = come_lined drives name fresh [] (context_of w.front.next.memory) w.front.more [] [] (in_work_none host (context_of w.front.next.memory) w.front.more)

        whole_tail : Tail
        whole_tail =
            let first = whole_lies drives name from fresh script h t m none by.lines.at by.lines.rest w last_lies.sure more_told (lines ++ here) line_keeps last_lies.lie in
            let all = lined_lies ((lines ++ here) ++ of_line) behind_it (history_after_all h then.es) [] tt left_keeps (none_told w.front.more) left_lined first in
            record {
              es = then.es;
              course = then.course;
              come = subst (λ (l : List ℕ). AreOfRun host script l then.es) then_same (whole_run host by.lines.at by.lines.rest m script h t none w last_lies.sure more_told);
              stands = then.known.stands;
              lie = subst (λ (l : List Exchange). ListsLie drives name from l (history_after_all h then.es)) (append_assoc (lines ++ here) of_line behind_it ∙ ap (λ (l : List Exchange). (lines ++ here) ++ l) (sym work_says)) all;
            }

      -- So it is at the moment, whatever was told.
      pub tail_lies : Tail
      tail_lies = elim (none_or_all host by.lines.at by.lines.rest m by.lines.front) [ inl nothing ↦ quiet_tail nothing | inr w ↦ whole_tail w ]

    -- or from its boot on
    abbrev pub all_here : List Exchange
    all_here = lines_here host stretch 0 (booted host stretch start t script bytes m by) by.lines.at by.lines.so_far by.lines.lines

    pub said_here : exchanges_of script bytes ≡ all_here ++ work
    said_here = ap (exchanges_of script) by.lines.parts ∙ lines_say host stretch 0 (booted host stretch start t script bytes m by) by.lines.at by.lines.so_far by.lines.rest by.lines.lines

    pub booted_lies : (lines : List Exchange) → ListsLie drives name from lines h → LieAt drives name from fresh script h t m.tale none lines (booted host stretch start t script bytes m by)
    booted_lies lines lie =
        let quiet = idle_quiet host up.0.come.es up.1 in
        record { sure = up.0; lie = lie_quiet drives name from lines h up.0.come.es (may_course host h up.0.come.es up.0.come.course) (λ has. quiet (Deleted (key drives name from)) has) lie quiet }

  module _ (fresh : ℕ) (script : Script) (stretch : Stretch) (start : Counts) (h : History) (t m : Moment) (tells : IsToldBy (host_of drives name fresh) stretch start script t m)
      (none : HasMetNothing (host_of drives name fresh) script h t.tale m.tale) (stands : StandsAt (host_of drives name fresh) h t.tale) (own : AreOwn (host_of drives name fresh) 0 h) (s : Story) (begins : stretch.old ≡ Some s) (starts : tale_of s ≡ t.tale)
      (lines : List Exchange) (keeps : KeepsDatabase (exchanges_of script tells.bytes)) (lie : ListsLie drives name from lines h) where
    abbrev its : Host
    its = host_of drives name fresh

    abbrev Lies : Type 0
    Lies = RunLies its script tells.bytes h (lines ++ exchanges_of script tells.bytes) m.tale

    pub told_lies : RunToldBy its stretch start t.tale script tells.bytes m → Lies
    told_lies by =
        let said = said_here fresh script stretch start h t.tale tells.bytes m by none stands own s begins starts tells.is_told in
        let front = all_here fresh script stretch start h t.tale tells.bytes m by none stands own s begins starts tells.is_told in
        let rest = exchanges_of by.lines.at.script by.lines.rest in
        let at = booted_lies fresh script stretch start h t.tale tells.bytes m by none stands own s begins starts tells.is_told lines lie in
        let front_keeps : KeepsDatabase front = λ one has. keeps one (subst (λ (l : List Exchange). Contains l one) (sym said) (Contains-append_left front rest one has)) in
        let rest_keeps : KeepsDatabase rest = λ one has. keeps one (subst (λ (l : List Exchange). Contains l one) (sym said) (Contains-append_right front rest one has)) in
        let all = tail_lies fresh script stretch start h t.tale tells.bytes m by none stands own s begins starts tells.is_told 0 (booted its stretch start t.tale script tells.bytes m by) by.lines.so_far by.lines.lines lines at front_keeps rest_keeps in
        subst (λ (l : List Exchange). RunLies its script tells.bytes h l m.tale) (append_assoc lines front rest ∙ ap (λ (l : List Exchange). lines ++ l) (sym said)) all
