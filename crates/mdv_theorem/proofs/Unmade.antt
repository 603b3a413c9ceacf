-- Where each line that makes a database was refused, none is open: over runs, of any hosts, the drives stand with a history in which the host has none. What a refused creation left whose calls failed no boot finishes.
use Rattle.std.proofs.Common.{◌≡◌, ◌≢◌, inl, inr, ℕ, Bool, List, [], ◌∷◌, ◌++◌, append_assoc, None, Some, Contains, refl, sym, ◌∙◌, ap, subst, if◌then◌else◌}
use Rattle.std.proofs.lemmas.List.{append-nil, append_cancel_left}
use Rattle.std.proofs.lemmas.List.Elements.{Contains-append_left, Contains-append_right}
use Rattle.std.proofs.lemmas.Slice.Eq.{bytes_eq-Decides}
use Rattle.std.specs.Str.{bytes_eq}
use Rattle.mdv_base.specs.declared.mark.Identity.{Identity}
use Rattle.mdv_base.specs.declared.name.Key.{Key}
use Rattle.mdv_base.specs.declared.name.Key.TheVariants.{Local}
use Rattle.mdv_engine_law.proofs.Plain.{nothing_answers}
use Rattle.mdv_engine_law.specs.Awake.{Happening}
use Rattle.mdv_engine_law.specs.Replies.{text_of}
use Rattle.mdv_engine_law.specs.Line.{Memory}
use Rattle.mdv_engine_law.specs.Standing.{AreOwn, BootedTo, StandsAt}
use Rattle.mdv_engine_law.specs.declared.host.Host.{Host}
use Rattle.mdv_name.specs.declared.geometry.Geometry.{Geometry}
use Rattle.mdv_port.specs.Script.{Script, at_end, line, spent, too_long}
use Rattle.mdv_run_law.proofs.Elsewhere.{stands_elsewhere}
use Rattle.mdv_run_law.proofs.Living.{ends}
use Rattle.mdv_run_law.proofs.Owning.{HasItsWord, IsOfRuns, IsOurs, Makes, all_make_weaker, owned_after, run_makes}
use Rattle.mdv_run_law.specs.Lives.{IsBetween, IsNewWord, MayBeFound, Ran, host_of}
use Rattle.mdv_run_law.specs.Run.{At, Counts, LinesTold, Stretch}
use Rattle.mdv_run_law.specs.Standing.{AreOfRunBy, AreReplies, AtBoot, ComeOf, HasMetInLines, HasMetInRun, InWork, LinesMoment, RunMoment, context_of}
use Rattle.mdv_run_law.specs.Told.{IsToldBy, RunToldBy}
use Rattle.mdv_shelf.proofs.Blocks.{both_ways}
use Rattle.mdv_shelf.specs.Everywhere.{Image}
use Rattle.mdv_shelf.specs.Moments.{IsSince}
use Rattle.mdv_shelf.specs.Story.{Moment, Story, marked, tale_of}
use Rattle.mdv_shelf.specs.Tale.{Tale, told}
use Rattle.mdv_status.specs.Telling.{left_in, replies_in}
use Rattle.mdv_store_law.specs.Laws.{restarted}
use Rattle.mdv_store_law.specs.Machine as machine
use Rattle.mdv_store_law.specs.Machine.{AreAll}
use Rattle.mdv_volumes.proofs.Owners.{AreEach}
use Rattle.mdv_volumes.proofs.Restarts.{restarts_go}
use Rattle.mdv_volumes.proofs.Vacant.{vacant_stay}
use Rattle.mdv_volumes.specs.Happening.{issued_by}
use Rattle.mdv_volumes.specs.History.{Created, Event, History, history_after, history_after_all}
use Rattle.mdv_volumes.specs.HistoryLaws.{new_history}
use Rattle.mdv_home.specs.View.{own_view}
use Rattle.mdv_theorem.specs.Exchanges.{Exchange, exchanges, exchanges_by, exchanges_of}
use Rattle.mdv_theorem.specs.Running.{Lived, Running, Runs, no_run, run_on}
use Rattle.mdv_theorem.proofs.Fronts.{front_says, none_or_all}
use Rattle.mdv_theorem.proofs.Left.{lines_here, lines_say}
use Rattle.mdv_theorem.proofs.Lined.{AreLined, between_quiet, come_lined, idle_quiet, run_lined, said_of}
use Rattle.mdv_theorem.proofs.Lines.{never_in, the_only}
use Rattle.mdv_theorem.proofs.Onward.{PlacesSay}
use Rattle.mdv_theorem.proofs.Owned.{IsInRun, lines_make, more_runs, own_new, with_run}
use Rattle.mdv_theorem.proofs.Refused.{AreRefused, IsClosed, lined_creates}
use Rattle.mdv_theorem.proofs.Sure.{booted, lines_since}
use Rattle.mdv_theorem.proofs.Tail.{rest_told}
use Rattle.mdv_theorem.proofs.Vacant.{AreUncreated, IsKnownVacant, Vacant, never_behind, never_stale, none_open_in, none_uncreated, told_since, boot_none, vacant_booted, vacant_lines, vacant_on, vacant_ran}

-- what is asked of a script of which nothing was told has no reply
unsaid_reply : (script : Script) (one : Exchange) → Contains (exchanges script []) one → one.reply ≡ None
unsaid_reply at_end one has = absurd (never_in one has)
unsaid_reply (spent rows limit) one has = absurd (never_in one has)
unsaid_reply (too_long more) one has = absurd (never_in one has)
unsaid_reply (line text more) one has =
    let same : ◌≡◌ {A = Exchange} (record { text = text; reply = None }) one = the_only (record { text = text; reply = None }) one has in
    sym (ap (λ (e : Exchange). e.reply) same)

-- so it makes none, where each line that does was refused
unsaid_uncreated : (drives : Geometry) (name : List ℕ) (script : Script) (es : List Event) → AreRefused (exchanges script []) → AreLined drives name (exchanges script []) es → AreUncreated es
unsaid_uncreated drives name script es refused lined key has =
    let one = lined_creates drives name (exchanges script []) es lined key has in
    let is = refused one.0 one.2.asks_for one.1 one.2.asks one.2.makes in
    let never = sym (unsaid_reply script one.0 one.1) ∙ is.1 in
    cc (never)

none_first : {X : Type 0} (xs ys : List X) → xs ++ ys ≡ [] → xs ≡ []
none_first [] ys is = refl
none_first (x ∷ xs) ys is = absurd (cc (is))

-- whole replies are none where they come first of what has none
front_none : (bytes rest all : List ℕ) → AreReplies bytes → all ≡ bytes ++ rest → replies_in all ≡ [] → replies_in bytes ≡ []
front_none bytes rest all replies parts none = none_first (replies_in bytes) (replies_in rest) (sym (replies.replies rest) ∙ ap replies_in (sym parts) ∙ none)

-- what was told by a moment, behind what was told before
rest_parts : (t began m : Tale) (bytes all : List ℕ) → told began ≡ told t ++ bytes → told m ≡ told t ++ all → IsSince began m → (rest : List ℕ) × (all ≡ bytes ++ rest)
rest_parts t began m bytes all first whole since =
    let rest = told_since began m since in
    (rest.0, append_cancel_left (told t) all (bytes ++ rest.0) (sym whole ∙ rest.1 ∙ ap (λ (l : List ℕ). l ++ rest.0) first ∙ append_assoc (told t) bytes rest.0))

-- nothing happens to databases between two runs
each_ended : (P : Key → Identity → Type 0) (h : History) (end : List Event) → IsBetween end → AreEach P h.databases → AreEach P (history_after_all h end).databases
each_ended P h end (inl is) each = subst (λ (l : List Event). AreEach P (history_after_all h l).databases) (sym is) each
each_ended P h end (inr is) each = subst (λ (l : List Event). AreEach P (history_after_all h l).databases) (sym is) each

module _ (drives : Geometry) (name : List ℕ) where
  abbrev g : Geometry
  g = own_view drives name

  abbrev own : Host
  own = host_of drives name 0

  -- behind runs
  pub record IsVacantBehind (ran : List Ran) (t : Tale) : Type 0 where
    pub history : History
    pub vacant : Vacant own history t
    pub each : AreEach (IsOfRuns name ran) history.databases

  -- a database of the host's, with the word of a run that is under way, or of one of those before
  abbrev IsOfRun : ℕ → List Ran → Key → Identity → Type 0
  IsOfRun fresh before key identity = (key ≡ Local name) × IsInRun name fresh before identity.fresh

  -- and at a moment of one more
  record IsVacantAt (fresh : ℕ) (before : List Ran) (m : Tale) : Type 0 where
    history : History
    vacant : Vacant own history m
    each : AreEach (IsOfRun fresh before) history.databases

  module _ (before : List Ran) (fresh : ℕ) (t : Tale) (was : IsVacantBehind before t) (new_word : IsNewWord name fresh before) where
    abbrev its : Host
    its = host_of drives name fresh

    abbrev Known : Memory → Tale → Type 0
    Known = IsKnownVacant its (IsInRun name fresh before) (inl refl)

    owned : AreOwn its 0 was.history
    owned = own_new drives name fresh before was.history new_word was.each

    -- behind its boot
    vacant_first : (memory : Memory) (u : Tale) → BootedTo its memory t u → Known memory u
    vacant_first memory u up = vacant_booted its (IsInRun name fresh before) (inl refl) memory t u was.history up was.vacant owned (λ d has. inr (was.each d has).1)

    known_at : (memory : Memory) (m : Tale) → Known memory m → IsVacantAt fresh before m
    known_at memory m is = record { history = is.history; vacant = is.vacant; each = λ d has. (is.known.its.own d has, is.words d has) }

    -- by events of the run by which none was created
    vacant_left : (h : History) (u m : Tale) (es : List Event) → Vacant own h u → AreEach (IsOfRun fresh before) h.databases → machine.IsCourse history_after (Happening its) h es → AreUncreated es → AreAll (Makes (IsOurs (HasItsWord its) (Local name))) es
        → StandsAt its (history_after_all h es) m → IsVacantAt fresh before m
    vacant_left h u m es vacant each course none makes stands = record {
      history = history_after_all h es;
      vacant = vacant_on own h es u m vacant course none stands;
      each = owned_after (IsOfRun fresh before) h es each (all_make_weaker (IsOurs (HasItsWord its) (Local name)) (IsOfRun fresh before) (λ key identity is. (is.0, inl is.1)) es makes);
    }

    -- Nothing was told of it.
    module _ (script : Script) (m : Tale) (stands : RunMoment its script t m) (quiet : stands.bytes ≡ []) where
      unsaid : replies_in stands.bytes ≡ []
      unsaid = ap replies_in quiet ∙ nothing_answers

      never_met : HasMetInRun its script t m was.history → ⊥
      never_met (inl met) = never_stale own was.history t was.vacant met
      never_met (inr behind) =
          let rest = rest_parts t behind.began m behind.bytes stands.bytes behind.is_told stands.is_told behind.before in
          let none = front_none behind.bytes rest.0 stands.bytes behind.replies rest.1 unsaid in
          let es = behind.met.es in
          let come : AreOfRunBy its AtBoot script [] es = subst (λ (l : List (List ℕ)). AreOfRunBy its AtBoot script l es) none behind.met.come in
          let same : es ≡ come.boot = come.both ∙ ap (λ (l : List Event). come.boot ++ l) (boot_none (Some []) script come.lines come.come) ∙ append-nil come.boot in
          never_behind its (λ replies fs. AreOfRunBy its AtBoot script replies fs) was.history t m was.vacant behind
          (λ key has. idle_quiet its come.boot come.idle (Created key) (subst (λ (l : List Event). Contains (issued_by l) (Created key)) same has))

      vacant_unsaid : AreRefused (exchanges script []) → IsVacantAt fresh before m
      vacant_unsaid refused = elim (stands.stands was.history was.vacant.stands owned) [
        | inl met ↦ absurd (never_met met)
        | inr went ↦
            let lined : AreLined drives name (exchanges script []) went.es = subst (λ (l : List (List ℕ)). AreLined drives name (exchanges script l) went.es) unsaid (run_lined drives name fresh script stands.bytes went.es went.come) in
            vacant_left was.history t m went.es was.vacant (λ d has. (let is = was.each d has in (is.0, inr is.1))) went.course (unsaid_uncreated drives name script went.es refused lined) (run_makes its script stands.bytes went.es went.come) went.stands
      ]

    -- No reply of the line in work was told.
    module _ (memory : Memory) (script : Script) (u m : Tale) (moment : LinesMoment its script memory u m) (at : Known memory u) (rest : List ℕ) (is_told : told m ≡ told u ++ rest) (unsaid : replies_in rest ≡ []) where
      never_met_in : HasMetInLines its script memory u m at.history → ⊥
      never_met_in met =
          let more = rest_parts u met.began m met.bytes rest met.is_told is_told met.before in
          let none = front_none met.bytes more.0 rest met.replies more.1 unsaid in
          let come : ComeOf its AtBoot (context_of memory) script [] met.met.es = subst (λ (l : List (List ℕ)). ComeOf its AtBoot (context_of memory) script l met.met.es) none met.met.come in
          never_behind its (λ replies es. ComeOf its AtBoot (context_of memory) script replies es) at.history u m at.vacant met (none_uncreated met.met.es (boot_none (context_of memory) script met.met.es come))

      vacant_work : AreRefused (exchanges script []) → IsVacantAt fresh before m
      vacant_work refused = elim (moment.goes at.history at.known) [
        | inl met ↦ absurd (never_met_in met)
        | inr went ↦
            let left = left_in moment.bytes in
            let none : replies_in moment.bytes ≡ [] = ap replies_in (append_cancel_left (told u) moment.bytes rest (sym moment.is_told ∙ is_told)) ∙ unsaid in
            let come : ComeOf its (InWork its left) (context_of memory) script [] went.es = subst (λ (l : List (List ℕ)). ComeOf its (InWork its left) (context_of memory) script l went.es) none went.come in
            vacant_left at.history u m went.es at.vacant (λ d has. (at.known.its.own d has, at.words d has)) went.course
            (unsaid_uncreated drives name script went.es refused (come_lined drives name fresh left (context_of memory) script [] went.es come)) (lines_make drives name fresh left (context_of memory) script [] went.es come) went.stands
      ]

  -- A run of the host.
  module _ (before : List Ran) (fresh : ℕ) (stretch : Stretch) (counts : Counts) (t m : Moment) (script : Script) (was : IsVacantBehind before t.tale) (new_word : IsNewWord name fresh before) (begins : (s : Story) × (stretch.old ≡ Some s) × (tale_of s ≡ t.tale)) where
    abbrev host : Host
    host = host_of drives name fresh

    module _ (bytes : List ℕ) (is_told : told m.tale ≡ told t.tale ++ bytes) (by : RunToldBy host stretch counts t.tale script bytes m) (refused : AreRefused (exchanges_of script bytes)) where
      abbrev first : At
      first = booted host stretch counts t.tale script bytes m by

      abbrev last : At
      last = by.lines.at

      abbrev here : List Exchange
      here = lines_here host stretch 0 first last by.lines.so_far by.lines.lines

      refused_all : AreRefused (here ++ exchanges_of last.script by.lines.rest)
      refused_all = subst AreRefused (ap (exchanges_of script) by.lines.parts ∙ lines_say host stretch 0 first last by.lines.so_far by.lines.rest by.lines.lines) refused

      refused_work : AreRefused (exchanges_of last.script by.lines.rest)
      refused_work one cmd has = refused_all one cmd (Contains-append_right here (exchanges_of last.script by.lines.rest) one has)

      vacant_said : IsVacantAt fresh before m.tale
      vacant_said =
          let to = by.point.in_time.drives 0 begins.0 begins.1 in
          let v = marked begins.0 to.0 in
          let end = lines_since host stretch 0 first last by.lines.so_far by.lines.lines v to.1 in
          let at = vacant_lines host (IsInRun name fresh before) (inl refl) stretch 0 first last by.lines.so_far by.lines.lines (λ one cmd has. refused_all one cmd (Contains-append_left here (exchanges_of last.script by.lines.rest) one has)) v end.0 to.1 end.1
          (vacant_first before fresh t.tale was new_word by.kept.memory (tale_of v) (by.leads v to.1).booted) in
          let more_told = rest_told host stretch counts t.tale script bytes m by is_told begins.0 begins.1 begins.2 end.0 end.1 in
          elim (none_or_all host last by.lines.rest m by.lines.front) [
            | inl nothing ↦ vacant_work before fresh t.tale was new_word last.kept.memory last.script (tale_of end.0) m.tale (by.lines.work end.0 end.1).moment at by.lines.rest more_told nothing
                (subst (λ (l : List (List ℕ)). AreRefused (exchanges last.script l)) nothing refused_work)
            | inr w ↦
                let reply = text_of w.front.answer in
                let says = front_says host last by.lines.rest m last.script w w.front.comes in
                known_at before fresh t.tale was new_word w.front.next.memory m.tale
                (vacant_ran host (IsInRun name fresh before) (inl refl) last.counts w.front.later last.kept w.front.next last.script w.front.more w.front.answer w.front.comes w.said (tale_of end.0) m.tale (w.front.led w.whole w.said end.0 end.1)
                (more_told ∙ ap (λ (l : List ℕ). told (tale_of end.0) ++ l) w.whole) at
                (λ one cmd has. refused_work one cmd (subst (λ (l : List Exchange). Contains l one) (sym says) (Contains-append_left (said_of last.script reply) (exchanges w.front.more []) one has))))
          ]

    vacant_run : (stands : RunMoment host script t.tale m.tale) → IsToldBy host stretch counts script t m → AreRefused (exchanges_of script stands.bytes) → IsVacantAt fresh before m.tale
    vacant_run stands tells refused =
        let same : tells.bytes ≡ stands.bytes = append_cancel_left (told t.tale) tells.bytes stands.bytes (sym tells.is_told ∙ stands.is_told) in
        elim tells.tells [
          | inl nothing ↦
              let quiet : stands.bytes ≡ [] = sym same ∙ nothing.0 in
              vacant_unsaid before fresh t.tale was new_word script m.tale stands quiet (subst (λ (l : List (List ℕ)). AreRefused (exchanges script l)) (ap replies_in quiet ∙ nothing_answers) refused)
          | inr by ↦ vacant_said tells.bytes tells.is_told by (subst (λ (l : List ℕ). AreRefused (exchanges_of script l)) (sym same) refused)
        ]

  -- Over runs, of any hosts.
  module _ (of_table : Contains drives.hosts name) (made : Image) where
    vacant_found : (run : Ran) (before : List Ran) (h : History) (m next : Tale) → MayBeFound m next → Vacant own h m → AreEach (IsOfRuns name (run ∷ before)) h.databases → IsVacantBehind (run ∷ before) next
    vacant_found run before h m next found vacant each =
        let over = ends drives name made of_table h m next found vacant.stands in
        record {
          history = history_after_all h over.end;
          vacant = vacant_on own h over.end m next vacant over.course (λ key has. between_quiet over.end over.between (Created key) has) over.stands;
          each = each_ended (IsOfRuns name (run ∷ before)) h over.end over.between each;
        }

    module _ (before : List Ran) (fresh : ℕ) (stretch : Stretch) (counts : Counts) (t m : Moment) (next : Tale) (script : Script) (was : IsVacantBehind before t.tale) (begins : (s : Story) × (stretch.old ≡ Some s) × (tale_of s ≡ t.tale)) (found : MayBeFound m.tale next) where
      abbrev BehindRun : List ℕ → Type 0
      BehindRun other =
          IsNewWord other fresh before → (stands : RunMoment (host_of drives other fresh) script t.tale m.tale) → IsToldBy (host_of drives other fresh) stretch counts script t m
          → AreRefused (exchanges_by name (record { host = other; fresh = fresh; script = script; bytes = stands.bytes } ∷ before)) → IsVacantBehind (record { host = other; fresh = fresh; script = script; bytes = stands.bytes } ∷ before) next

      own_run : BehindRun name
      own_run new_word stands tells refused =
          let one : Ran = record { host = name; fresh = fresh; script = script; bytes = stands.bytes } in
          let lines = exchanges_of script stands.bytes in
          let both : AreRefused (exchanges_by name before ++ lines) = subst (λ (b : Bool). AreRefused (exchanges_by name before ++ (if b then lines else []))) ((bytes_eq-Decides name name).1 refl) refused in
          let at = vacant_run before fresh stretch counts t m script was new_word begins stands tells (λ x cmd has. both x cmd (Contains-append_right (exchanges_by name before) lines x has)) in
          vacant_found one before at.history m.tale next found at.vacant (λ d has. (let is = at.each d has in (is.0, with_run drives name one fresh before d.identity.fresh refl refl is.1)))

      -- that of another host leaves the drives as they stood
      any_run : (other : List ℕ) → BehindRun other
      any_run other new_word stands tells refused = elim (both_ways (bytes_eq other name)) [
        | inl does ↦ subst BehindRun (sym ((bytes_eq-Decides other name).0 does)) own_run new_word stands tells refused
        | inr never ↦
            let differ : other ≢ name = λ same. (let does = (bytes_eq-Decides other name).1 same in cc (does, never)) in
            let one : Ran = record { host = other; fresh = fresh; script = script; bytes = stands.bytes } in
            let still = stands_elsewhere drives name other 0 fresh differ was.history t.tale m.tale stands.home was.vacant.stands in
            vacant_found one before was.history m.tale next found (record { stands = still; none = was.vacant.none; live = was.vacant.live })
            (λ d has. (let is = was.each d has in (is.0, more_runs drives name one before d.identity.fresh is.1)))
      ]

    module _ (first_told : List ℕ) (start : IsVacantBehind [] (restarted made first_told)) where
      runs_vacant : (ran : List Ran) (t : Tale) → Runs drives [] (restarted made first_told) ran t → AreRefused (exchanges_by name ran) → IsVacantBehind ran t
      runs_vacant ran t no_run refused = start
      runs_vacant ran t (run_on before other fresh stretch counts old m next script runs other_of new_word stands tells moment found) refused =
          any_run before fresh stretch counts old m next script (runs_vacant before old.tale runs (λ one cmd has. refused one cmd (Contains-append_left (exchanges_by name before) (if bytes_eq other name then exchanges_of script stands.bytes else []) one has))) moment.begins found other
          new_word stands tells refused

    pub vacant_behind : (ran : List Ran) (t : Tale) → Lived drives made ran t → AreRefused (exchanges_by name ran) → IsVacantBehind ran t
    vacant_behind ran t life refused =
        runs_vacant life.told (record { history = new_history; vacant = vacant_stay.new g (Local name) (restarted made life.told) (restarts_go.new_drives g made life.told (life.new name of_table)); each = λ d has. absurd (never_in d has) })
        ran t life.runs refused

  -- So nothing is open behind lines of one more run, where it was brought up.
  module _ (of_table : Contains drives.hosts name) (made : Image) (before : List Ran) (fresh : ℕ) (stretch : Stretch) (t : Tale) (life : Lived drives made before t) (new_word : IsNewWord name fresh before) where
    abbrev this : Host
    this = host_of drives name fresh

    pub place_closed : (n : ℕ) (first place : At) (front : List ℕ) (upto : LinesTold this stretch n first front place) (s : Story) → first.story ≡ Some s → BootedTo this first.kept.memory t (tale_of s) → IsClosed (exchanges_by name before ++ lines_here this stretch n first place front upto) place.kept.memory
    place_closed n first place front upto s is up refused =
        let earlier = exchanges_by name before in
        let here = lines_here this stretch n first place front upto in
        let was = vacant_behind of_table made before t life (λ one cmd has. refused one cmd (Contains-append_left earlier here one has)) in
        let end = lines_since this stretch n first place front upto s is in
        let at = vacant_lines this (IsInRun name fresh before) (inl refl) stretch n first place front upto (λ one cmd has. refused one cmd (Contains-append_right earlier here one has)) s end.0 is end.1
        (vacant_first before fresh t was new_word first.kept.memory (tale_of s) up) in
        none_open_in this place.kept.memory at.history (tale_of end.0) at.known at.vacant

  -- So it is at each place between two lines of a run.
  pub none_open : (of_table : Contains drives.hosts name) (before : List Ran) (script : Script) (run : Running drives name before script) → PlacesSay drives name IsClosed before script run
  none_open of_table before script run by front place upto k rest more =
      let host = host_of drives name run.fresh in
      let to = by.point.in_time.drives 0 run.moment.begins.0 run.moment.begins.1 in
      let v = marked run.moment.begins.0 to.0 in
      place_closed of_table run.made before run.fresh run.stretch run.t.tale run.life run.new_word 0 (booted host run.stretch run.start run.t.tale script run.tells.bytes run.m by) place front upto v to.1 (by.leads v to.1).booted
