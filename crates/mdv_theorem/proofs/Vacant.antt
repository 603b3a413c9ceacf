-- A history in which the host has no database, with which the drives stand: what it comes to over events, a boot and lines of a run, where no database is made. What a creation leaves that failed is struck from it.
use Rattle.std.proofs.Common.{◌≡◌, inl, inr, ℕ, ◌+◌, ◌<◌, Bool, true, false, List, [], ◌∷◌, ◌++◌, length, map, take, append_assoc, Option, None, Some, IfSome, Contains, refl, sym, ◌∙◌, ap, subst, arith}
use Rattle.std.proofs.Math.Seq.{take-append_seam}
use Rattle.std.proofs.lemmas.Bool.{false≢true}
use Rattle.std.proofs.lemmas.List.{append-nil, append_cancel_left, length-append}
use Rattle.std.proofs.lemmas.List.Elements.{Contains-append_cases, Contains-append_left, Contains-append_right}
use Rattle.mdv_base.specs.declared.mark.Identity.{Identity}
use Rattle.mdv_base.specs.declared.name.Key.{Key}
use Rattle.mdv_base.specs.declared.name.VolId.{VolId}
use Rattle.mdv_base.specs.declared.refusal.Refusal.{Refusal}
use Rattle.mdv_base.specs.declared.refusal.Refusal.TheVariants.{IoFault}
use Rattle.mdv_databases.proofs.Blank.{blank_boots_go}
use Rattle.mdv_databases.specs.Going.{IsOpenIn}
use Rattle.mdv_databases.specs.Lasting.{AreFreed}
use Rattle.mdv_engine_law.proofs.Going.{may_course}
use Rattle.mdv_engine_law.specs.Awake.{Happening}
use Rattle.mdv_engine_law.specs.Hosts.{key_of}
use Rattle.mdv_engine_law.specs.Line.{Kept, Memory}
use Rattle.mdv_engine_law.specs.Replies.{IsPlainAnswer, refusal_line, text_of}
use Rattle.mdv_engine_law.specs.Standing.{AreOwn, BootedTo, IsBare, IsKnown, IsOfRun, MeetsStaleAt, StandsAt, is_steady}
use Rattle.mdv_engine_law.specs.declared.answer.Answer.{Answer}
use Rattle.mdv_engine_law.specs.declared.host.Host.{Host}
use Rattle.mdv_port.specs.Script.{Script, at_end, line, spent, too_long}
use Rattle.mdv_run_law.proofs.Course.{said_reply}
use Rattle.mdv_run_law.proofs.Owning.{owned_after}
use Rattle.mdv_run_law.specs.Run.{At, Counts, IsAnswered, IsSaid, LinesTold, NextLine, Stretch, drive_failures, no_line, one_more}
use Rattle.mdv_run_law.specs.Standing.{AtBoot, ComeOf, Context, HasMetBehind, HasMetInLinesTold, NothingLeft, RanTo, context_of}
use Rattle.mdv_shelf.specs.Failing.{Outcomes}
use Rattle.mdv_shelf.specs.Moments.{IsSince, extended}
use Rattle.mdv_shelf.specs.Story.{Story, marked, tale_of}
use Rattle.mdv_shelf.specs.Tale.{Call, Tale, tells, told}
use Rattle.mdv_standing.specs.Databases.{Database, current_of, with_over}
use Rattle.mdv_status.specs.Telling.{Said as SaidBytes, replies_in}
use Rattle.mdv_store.specs.Opened.{IsOpenedAt, Opened}
use Rattle.mdv_store_law.specs.Log as log
use Rattle.mdv_store_law.specs.Changes.{Change}
use Rattle.mdv_store_law.specs.Machine as machine
use Rattle.mdv_store_law.specs.Machine.{AreAll}
use Rattle.mdv_volumes.specs.Events.{Answers, Begins, Flushes, Issues, VolumeEvent, Woke}
use Rattle.mdv_volumes.specs.Events as lives
use Rattle.mdv_volumes.specs.Happening.{IsCourse, IsIssue, MayHappen, begins, begun_at, begun_of, deed_of, ends_of, issued_by}
use Rattle.mdv_volumes.specs.History.{Acknowledges, Boots, Crashes, Created, Creation, Deed, Deleted, Deletes, Event, History, OfDatabase, OfVolume, Reads, Shows, Stops, Unsettles, history_after, history_after_all}
use Rattle.mdv_volumes.specs.HistoryLaws.{AreWoken, KeepDatabase}
use Rattle.mdv_volumes.specs.Striking.{IsStruck, struck}
use Rattle.mdv_volumes.specs.Vacant.{IsVacant}
use Rattle.mdv_volumes.proofs.Lists.{contains_behind, contains_first}
use Rattle.mdv_volumes.proofs.Owners.{AreEach, creation_keeps}
use Rattle.mdv_volumes.proofs.Striking.{strikes_go}
use Rattle.mdv_volumes.proofs.Vacant.{vacant_stay}
use Rattle.mdv_words.proofs.Lines.{one_line}
use Rattle.mdv_words.specs.Line.{Exec}
use Rattle.mdv_words.specs.declared.command.Command.{Command}
use Rattle.mdv_words.specs.declared.command.Command.TheVariants as command
use Rattle.mdv_theorem.specs.Exchanges.{Exchange, IsTold}
use Rattle.mdv_theorem.specs.Words.{MakesDatabase, MayTakeDatabase, TakesDatabase}
use Rattle.mdv_theorem.proofs.Leading.{IsIdled, IsLed, LedBy, led_begins, led_by}
use Rattle.mdv_theorem.proofs.Left.{lines_here, script_plain}
use Rattle.mdv_theorem.proofs.Lined.{idle_quiet, said_of}
use Rattle.mdv_theorem.proofs.Lines.{never_in, the_only}
use Rattle.mdv_theorem.proofs.Lists.{from_mapped}
use Rattle.mdv_theorem.proofs.Owned.{HaveWords, issues_make}
use Rattle.mdv_theorem.proofs.Refused.{AreRefused, fault_bare, led_creates}
use Rattle.mdv_theorem.proofs.Replying.{none_or_whole}
use Rattle.mdv_theorem.proofs.Steps.{told_once}

-- what was told by an earlier moment comes first of what was told by a later one
told_more : (t : Tale) (calls : List Call) → (more : List ℕ) × (told (extended t calls) ≡ told t ++ more)
unfolding told
told_more t [] = ([], sym (append-nil (told t)))
told_more t (c ∷ calls) = (let rest = told_more t calls in (rest.0 ++ tells c, ap (λ (l : List ℕ). l ++ tells c) rest.1 ∙ append_assoc (told t) rest.0 (tells c)))

pub told_since : (t u : Tale) → IsSince t u → (more : List ℕ) × (told u ≡ told t ++ more)
told_since t u since = (let rest = told_more t since.0 in (rest.0, ap (λ (v : Tale). told v) since.1 ∙ rest.1))

-- which deed begins an end
deed_no_end : (key other : Key) (change : Option Change) → deed_of key change ≡ Deleted other → ⊥
deed_no_end key other None same = cc (same)
deed_no_end key other (Some change) same = cc (same)

ends_its : (key other : Key) (e : log.Event) → Contains (ends_of key e) (Deleted other) → key ≡ other
ends_its key other (log.Issued identity) has = absurd (never_in (Deleted other) has)
ends_its key other (log.Writing mark asked before table) has = absurd (never_in (Deleted other) has)
ends_its key other log.Written has = absurd (never_in (Deleted other) has)
ends_its key other (log.Told which before) has = absurd (never_in (Deleted other) has)
ends_its key other (log.Placing places) has = absurd (never_in (Deleted other) has)
ends_its key other log.Clearing has = (let same = the_only (Deleted key) (Deleted other) has in cc (same))
ends_its key other log.Gone has = absurd (never_in (Deleted other) has)

begun_its : (key other : Key) (e : log.Event) → Contains (begun_at key e) (Deleted other) → key ≡ other
begun_its key other e has = elim (Contains-append_cases (map (deed_of key) (log.begins e)) (ends_of key e) (Deleted other) has) [
  | inl deed ↦ (let was = from_mapped (deed_of key) (log.begins e) (Deleted other) deed in absurd (deed_no_end key other was.0 was.2))
  | inr end ↦ ends_its key other e end
]

volume_no_end : (key other : Key) (volume : VolId) (e : VolumeEvent) → Contains (begun_of key volume e) (Deleted other) → ⊥
volume_no_end key other volume (Issues at blocks) has = (let same = the_only _ (Deleted other) has in cc (same))
volume_no_end key other volume (Answers at blocks) has = never_in (Deleted other) has
volume_no_end key other volume (Flushes at count) has = never_in (Deleted other) has
volume_no_end key other volume (Begins from logs) has = never_in (Deleted other) has
volume_no_end key other volume lives.Crashes has = never_in (Deleted other) has
volume_no_end key other volume (Woke count content) has = never_in (Deleted other) has

-- no command makes a database and may take it away
never_both : (cmd : Command) → MakesDatabase cmd → TakesDatabase cmd → ⊥
never_both (command.AddPlaces slices force count blocks) makes takes = takes
never_both (command.AddListed number force) makes takes = takes
never_both (command.DropPlaces slices force) makes takes = makes
never_both (command.Alter alteration) makes takes = makes
never_both (command.Read volume at count) makes takes = makes
never_both (command.Write volume at what) makes takes = makes
never_both (command.Print names) makes takes = makes

-- what is so of each database, and of one that could be created, is so of each where the key's current one is over
struck_each : (P : Key → Identity → Type 0) (key : Key) (identity : Identity) (all : List Database) → P key identity → AreEach P all → AreEach P (with_over key all)
struck_each P key identity all one each d has =
    creation_keeps P key identity all one each d (contains_behind (record { key = key; identity = identity; log = log.log_after log.empty_log (log.Issued identity); over = false }) d (with_over key all) has)

-- none came where the next line boots
pub boot_none : (now : Context) (script : Script) (es : List Event) → AtBoot now script es → es ≡ []
boot_none now at_end es is = absurd is
boot_none now (spent rows limit) es is = absurd is
boot_none now (too_long more) es is = absurd is
boot_none now (line text more) es is = is.0

-- no creation begins
abbrev pub AreUncreated : List Event → Type 0
AreUncreated es = (key : Key) → Contains (issued_by es) (Created key) → ⊥

pub none_uncreated : (es : List Event) → es ≡ [] → AreUncreated es
none_uncreated es is key has = never_in (Created key) (subst (λ (l : List Event). Contains (issued_by l) (Created key)) is has)

module _ (host : Host) where
  abbrev its_key : Key
  its_key = key_of host

  abbrev pub Vacant : History → Tale → Type 0
  Vacant h t = IsVacant host.drives h (key_of host) t

  -- where the host has no database none ends
  no_end : (h : History) (e : Event) → MayHappen host.drives h e → current_of h.databases its_key ≡ None → Contains (begins e) (Deleted its_key) → ⊥
  no_end h (Creation key identity) may none has = (let same = the_only _ (Deleted its_key) has in cc (same))
  no_end h (OfDatabase key identity e) may none has =
      let found = subst (λ (k : Key). current_of h.databases k ≡ Some may.database) (begun_its key its_key e has) may.current in
      let never = sym none ∙ found in
      cc (never)
  no_end h (OfVolume key volume e) may none has = volume_no_end key its_key volume e has
  no_end h (Reads key volume at blocks) may none has = never_in (Deleted its_key) has
  no_end h (Acknowledges place key volume at blocks) may none has = never_in (Deleted its_key) has
  no_end h (Shows place key volume at blocks) may none has = never_in (Deleted its_key) has
  no_end h (Deletes place key) may none has = never_in (Deleted its_key) has
  no_end h (Boots key up) may none has = never_in (Deleted its_key) has
  no_end h (Unsettles key drive) may none has = never_in (Deleted its_key) has
  no_end h Stops may none has = never_in (Deleted its_key) has
  no_end h Crashes may none has = never_in (Deleted its_key) has

  keeps_none : (h : History) (es : List Event) → IsCourse host.drives h es → current_of h.databases its_key ≡ None → (Contains (issued_by es) (Created its_key) → ⊥) → KeepDatabase its_key es
  keeps_none h [] course none never has = never_in (Deleted its_key) has
  keeps_none h (e ∷ es) course none never has = elim (Contains-append_cases (begins e) (issued_by es) (Deleted its_key) has) [
    | inl here ↦ no_end h e course.0 none here
    | inr behind ↦
        let still = strikes_go.stays host.drives h its_key (e ∷ []) (course.0, tt) none
        (λ made. elim (Contains-append_cases (begins e) [] (Created its_key) made) [ inl its ↦ never (Contains-append_left (begins e) (issued_by es) (Created its_key) its) | inr other ↦ never_in (Created its_key) other ]) in
        keeps_none (history_after h e) es course.1 still (λ made. never (Contains-append_right (begins e) (issued_by es) (Created its_key) made)) behind
  ]

  -- it stays so where none is created
  pub vacant_on : (h : History) (es : List Event) (t m : Tale) → Vacant h t → machine.IsCourse history_after (Happening host) h es → AreUncreated es → StandsAt host (history_after_all h es) m → Vacant (history_after_all h es) m
  vacant_on h es t m is course none stands = (let may = may_course host h es course in vacant_stay.onward host.drives h its_key es t m is may (none its_key) (keeps_none h es may is.none (none its_key)) stands)

  -- and no boot meets a stale vote
  pub never_stale : (h : History) (t : Tale) → Vacant h t → MeetsStaleAt host h t → ⊥
  never_stale h t is (up, met) = blank_boots_go.stale up host.drives h.databases its_key t (vacant_stay.blank host.drives h its_key t is) met

  pub never_behind : (Come : List (List ℕ) → List Event → Type 0) (h : History) (t m : Tale) → Vacant h t → (behind : HasMetBehind host Come t m h) → AreUncreated behind.met.es → ⊥
  never_behind Come h t m is behind none =
      let met = behind.met in
      never_stale (history_after_all h met.es) behind.began (vacant_on h met.es t behind.began is met.course none met.stands) met.after

  -- nor is any open
  pub none_open_in : (memory : Memory) (h : History) (t : Tale) → IsKnown host memory h t → Vacant h t → memory.opened ≡ None
  none_open_in memory h t known is = by memory.opened refl where
    by : (x : Option Opened) → memory.opened ≡ x → memory.opened ≡ None
    by None same = same
    by (Some o) same =
        let open_in : IsOpenIn host.drives o h.databases t = subst (λ (x : Option Opened). IfSome x (λ p. IsOpenIn host.drives p h.databases t)) same known.is_open in
        let keyed = subst (λ (x : Option Opened). IfSome x (λ p. (p.key ≡ its_key) × IsOpenedAt host.drives p t)) same known.knows.opened in
        let found = subst (λ (k : Key). current_of h.databases k ≡ Some open_in.its.database) keyed.0 open_in.its.current in
        let never = sym is.none ∙ found in
        absurd (cc (never))

  -- The host's database is struck, which shows no table, where none is open.
  module _ (memory : Memory) (h : History) (t : Tale) (known : IsKnown host memory h t) (none : memory.opened ≡ None) (freed : AreFreed host.drives h.databases its_key t) where
    abbrev struck_is : IsStruck host.drives h its_key t
    struck_is = strikes_go.freed host.drives h its_key t known.stands freed

    abbrev IsItsOwn : Key → Identity → Type 0
    IsItsOwn key identity = (key ≡ its_key) × (identity.fresh ≡ host.fresh → identity.number < memory.begun)

    each_own : AreEach IsItsOwn (struck its_key h).databases
    each_own = struck_each IsItsOwn its_key (record { fresh = host.fresh + 1; number = 0 }) h.databases (refl, λ same. absurd (omega (arith, same))) (λ d has. (known.its.own d has, known.its.before d has))

    pub struck_known : IsKnown host memory (struck its_key h) t
    struck_known = record {
      stands = struck_is.stands;
      its = record { own = λ d has. (each_own d has).0; before = λ d has. (each_own d has).1 };
      is_open = subst (λ (x : Option Opened). IfSome x (λ o. IsOpenIn host.drives o (struck its_key h).databases t)) (sym none) tt;
      free = λ closed clean. struck_is.freed;
      up = known.up;
      woken = subst (λ (x : Option Opened). IfSome x (λ o. AreWoken host.drives o.table (is_steady memory) (struck its_key h) its_key)) (sym none) tt;
      knows = known.knows;
    }

  module _ (Word : ℕ → Type 0) (its_word : Word host.fresh) where
    -- at a place of a run: the words of its databases are such ones
    pub record IsKnownVacant (memory : Memory) (t : Tale) : Type 0 where
      pub history : History
      pub vacant : Vacant history t
      pub known : IsKnown host memory history t
      pub words : HaveWords Word history.databases

    words_more : (asks : List Deed) (h : History) (es : List Event) → AreAll (IsIssue (IsOfRun host asks)) es → HaveWords Word h.databases → HaveWords Word (history_after_all h es).databases
    words_more asks h es issues have = owned_after (λ key identity. Word identity.fresh) h es have (issues_make (IsOfRun host asks) (λ key identity. Word identity.fresh) (λ key identity is. subst Word (sym is) its_word) es issues)

    -- events by which none is created
    module _ (memory : Memory) (h : History) (t u : Tale) (is : Vacant h t) (words : HaveWords Word h.databases) (es : List Event) (course : machine.IsCourse history_after (Happening host) h es) (asks : List Deed) (issues : AreAll (IsIssue (IsOfRun host asks)) es) where
      vacant_more : AreUncreated es → IsKnown host memory (history_after_all h es) u → IsKnownVacant memory u
      vacant_more none known = record { history = history_after_all h es; vacant = vacant_on h es t u is course none known.stands; known = known; words = words_more asks h es issues words }

      -- or by which a creation began that failed
      vacant_struck : KeepDatabase its_key es → IsBare memory → IsKnown host memory (history_after_all h es) u → IsKnownVacant memory u
      vacant_struck keep bare known =
          let after = history_after_all h es in
          let freed = known.free bare.0 bare.1 in
          record {
            history = struck its_key after;
            vacant = vacant_stay.failed host.drives h its_key es t u is (may_course host h es course) keep known.stands freed;
            known = struck_known memory after u known bare.0 freed;
            words = struck_each (λ key identity. Word identity.fresh) its_key (record { fresh = host.fresh; number = 0 }) after.databases its_word (words_more asks h es issues words);
          }

    -- the run's boot
    pub vacant_booted : (memory : Memory) (t u : Tale) (h : History) → BootedTo host memory t u → Vacant h t → AreOwn host 0 h → HaveWords Word h.databases → IsKnownVacant memory u
    vacant_booted memory t u h booted is own words =
        let more : AreOwn host memory.begun h = record { own = own.own; before = λ d has same. (let none = own.before d has same in omega (arith, none)) } in
        elim (booted.goes h is.stands more) [
          | inl met ↦ absurd (never_stale h t is met)
          | inr went ↦ vacant_more memory h t u is words went.es went.course [] went.come.issues (λ key has. idle_quiet host went.es went.come (Created key) has) went.after.0
        ]

    -- A line that was answered, refused where it makes a database.
    module _ (calls : Outcomes) (kept next : Kept) (one : Exchange) (answer : Answer) (comes : IsAnswered calls host kept one.text answer next) (said : IsSaid answer) (told_it : IsTold one (text_of answer)) (refused : AreRefused (one ∷ [])) (t u : Tale)
        (was : IsKnownVacant kept.memory t) (g : History) (led : IsLed host one was.history g) (known : IsKnown host next.memory g u) where
      abbrev after : History
      after = history_after_all was.history led.es

      known_after : IsKnown host next.memory after u
      known_after = subst (λ (x : History). IsKnown host next.memory x u) (sym led.is) known

      -- where it began a creation, that failed
      bare : (key : Key) → Contains (issued_by led.es) (Created key) → IsBare next.memory
      bare key has =
          let may = led_creates host one was.history g led key has in
          let is = refused one may.asks_for (contains_first one []) may.asks may.makes in
          let fault : IsTold one (refusal_line IoFault) = subst (λ (r : Refusal). IsTold one (refusal_line r)) (may.begun is.0 is.1) is.1 in
          fault_bare calls host kept next (none_open_in kept.memory was.history t was.known was.vacant) answer said (told_once one (text_of answer) (refusal_line IoFault) told_it fault) one.text may.asks_for may.asks may.makes comes

      -- it begins no end
      keeps : KeepDatabase its_key led.es
      keeps has = keeps_none was.history led.es (may_course host was.history led.es led.course) was.vacant.none none has where
        takes : MayTakeDatabase one
        takes = led_begins host one was.history g led (Deleted its_key) has

        none : Contains (issued_by led.es) (Created its_key) → ⊥
        none made =
            let may = led_creates host one was.history g led its_key made in
            let same : Exec may.asks_for ≡ Exec takes.command = one_line one.text (Exec may.asks_for) (Exec takes.command) may.asks takes.asks in
            let one_command : may.asks_for ≡ takes.command = cc (same) in
            never_both may.asks_for may.makes (subst TakesDatabase (sym one_command) takes.takes)

      vacant_told : IsKnownVacant next.memory u
      vacant_told = by next.memory.opened next.memory.clean refl refl where
        unmade : (IsBare next.memory → ⊥) → IsKnownVacant next.memory u
        unmade never = vacant_more next.memory was.history t u was.vacant was.words led.es led.course _ led.its.does.issues (λ key has. never (bare key has)) known_after

        by : (x : Option Opened) (clean : Bool) → next.memory.opened ≡ x → next.memory.clean ≡ clean → IsKnownVacant next.memory u
        by None true none clean = vacant_struck next.memory was.history t u was.vacant was.words led.es led.course _ led.its.does.issues keeps (none, clean) known_after
        by None false none unclean = unmade (λ both. false≢true (sym unclean ∙ both.1))
        by (Some o) clean opened is = unmade (λ both. (let never = sym both.0 ∙ opened in cc (never)))

    -- or one that is too long
    vacant_idled : (memory : Memory) (t u : Tale) (h g : History) → Vacant h t → HaveWords Word h.databases → IsIdled host h g → IsKnown host memory g u → IsKnownVacant memory u
    vacant_idled memory t u h g is words idled known =
        vacant_more memory h t u is words idled.es idled.course [] idled.idle.issues (λ key has. idle_quiet host idled.es idled.idle (Created key) has) (subst (λ (x : History). IsKnown host memory x u) (sym idled.is) known)

    -- Over the next line of a script, whose reply was told whole.
    module _ (counts later : Counts) (kept next : Kept) (script more : Script) (answer : Answer) (comes : NextLine host counts kept script answer later next more) (said : IsSaid answer) (t u : Tale) (ran : RanTo host script kept.memory next.memory more t u)
        (is_told : told u ≡ told t ++ text_of answer) (was : IsKnownVacant kept.memory t) where
      plain : IsPlainAnswer answer
      plain = script_plain host counts later kept next script more answer comes

      alone : replies_in ran.bytes ≡ text_of answer ∷ []
      alone = ap replies_in (append_cancel_left (told t) ran.bytes (text_of answer) (sym ran.is_told ∙ is_told)) ∙ ap (λ (s : SaidBytes). s.replies) (said_reply answer plain said).alone

      -- a front of its reply is none
      front_none : (bytes rest : List ℕ) → text_of answer ≡ bytes ++ rest → length bytes < length (text_of answer) → replies_in bytes ≡ []
      front_none bytes rest parts less =
          let front : take (length bytes) (text_of answer) ≡ bytes = ap (take (length bytes)) parts ∙ take-append_seam bytes rest in
          elim (none_or_whole answer plain said (length bytes)) [
            | inl none ↦ ap replies_in (sym front) ∙ ap (λ (s : SaidBytes). s.replies) none
            | inr whole ↦ absurd (let same : length (text_of answer) ≡ length bytes = ap (λ (l : List ℕ). length l) (sym whole ∙ front) in omega (arith, less, same))
          ]

      never_met : HasMetInLinesTold host script kept.memory t u was.history → ⊥
      never_met (met, less) =
          let rest = told_since met.began u met.before in
          let parts : text_of answer ≡ met.bytes ++ rest.0 =
          append_cancel_left (told t) (text_of answer) (met.bytes ++ rest.0) (sym is_told ∙ rest.1 ∙ ap (λ (l : List ℕ). l ++ rest.0) met.is_told ∙ append_assoc (told t) met.bytes rest.0) in
          let before = ap (λ (l : List ℕ). length l) met.is_told ∙ length-append (told t) met.bytes in
          let behind = ap (λ (l : List ℕ). length l) is_told ∙ length-append (told t) (text_of answer) in
          let none = front_none met.bytes rest.0 parts (omega (arith, less, before, behind)) in
          let come : ComeOf host AtBoot (context_of kept.memory) script [] met.met.es = subst (λ (l : List (List ℕ)). ComeOf host AtBoot (context_of kept.memory) script l met.met.es) none met.met.come in
          never_behind (λ replies es. ComeOf host AtBoot (context_of kept.memory) script replies es) was.history t u was.vacant met (none_uncreated met.met.es (boot_none (context_of kept.memory) script met.met.es come))

      by_script : (g : History) → IsKnown host next.memory g u → (left : Script) → NextLine host counts kept left answer later next more → AreRefused (said_of left (text_of answer)) → LedBy host left (text_of answer) was.history g → IsKnownVacant next.memory u
      by_script g known at_end line_comes refused led = absurd line_comes
      by_script g known (spent rows limit) line_comes refused led = absurd line_comes
      by_script g known (too_long left) line_comes refused led = vacant_idled next.memory t u was.history g was.vacant was.words led known
      by_script g known (line text left) line_comes refused led =
          vacant_told (drive_failures counts later) kept next (record { text = text; reply = Some (text_of answer) }) answer line_comes.2 said refl refused t u was g led known

      pub vacant_ran : AreRefused (said_of script (text_of answer)) → IsKnownVacant next.memory u
      vacant_ran refused = elim (ran.goes was.history was.known) [
        | inl met ↦ absurd (never_met met)
        | inr went ↦ by_script (history_after_all was.history went.es) went.after script comes refused
            (led_by host script (text_of answer) (context_of kept.memory) (context_of next.memory) was.history (history_after_all was.history went.es) went.es went.course refl
            (subst (λ (l : List (List ℕ)). ComeOf host (NothingLeft (context_of next.memory)) (context_of kept.memory) script l went.es) alone went.come))
      ]

    -- So over lines that were told, one behind the other.
    pub vacant_lines : (stretch : Stretch) (n : ℕ) (now last : At) (front : List ℕ) (these : LinesTold host stretch n now front last) → AreRefused (lines_here host stretch n now last front these) → (s u : Story) → now.story ≡ Some s → last.story ≡ Some u → IsKnownVacant now.kept.memory (tale_of s)
        → IsKnownVacant last.kept.memory (tale_of u)
    vacant_lines stretch n now last front (no_line bytes at) refused s u is is_u was =
        let both : Some s ≡ Some u = sym is ∙ is_u in
        let same : s ≡ u = cc (both) in
        subst (λ (x : Story). IsKnownVacant now.kept.memory (tale_of x)) same was
    vacant_lines stretch n now last front (one_more bytes at mid end piece left some line_told shown more) refused s u is is_u was =
        let to = line_told.passage.in_time.drives 0 s is in
        let v = marked s to.0 in
        let here = said_of now.script (text_of line_told.answer) in
        let rest = lines_here host stretch (n + length piece) mid last left more in
        let is_told : told (tale_of v) ≡ told (tale_of s) ++ text_of line_told.answer = line_told.passage.told s v is to.1 ∙ ap (λ (l : List ℕ). told (tale_of s) ++ l) line_told.as_text in
        let next = vacant_ran now.counts mid.counts now.kept mid.kept now.script mid.script line_told.answer line_told.comes line_told.said (tale_of s) (tale_of v) (line_told.leads s v is to.1) is_told was
        (λ one cmd has. refused one cmd (Contains-append_left here rest one has)) in
        vacant_lines stretch (n + length piece) mid last left more (λ one cmd has. refused one cmd (Contains-append_right here rest one has)) v u to.1 is_u next
