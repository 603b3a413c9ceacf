-- Whose databases a history of runs has: the host's own, each with the word of one of them.
use Rattle.std.proofs.Common.{◌≡◌, inl, inr, ℕ, Bool, true, false, cond, ◌||◌, List, [], ◌∷◌, ◌++◌, Option, None, Some, Contains, if◌then◌else◌, sym, ◌∙◌, subst, arith}
use Rattle.std.proofs.lemmas.List.Elements.{Contains-append_cases, Contains-append_left, Contains-append_right}
use Rattle.std.specs.Str.{bytes_eq}
use Rattle.mdv_base.specs.declared.refusal.Refusal.TheVariants.{IoFault}
use Rattle.mdv_run_law.specs.Below.{Acknowledges, AreOwn, Ask, Command, Crashes, AddPlaces, Alter, Change, Changed, Created, Deed, Deleted, Event, Geometry, History, Host, Identity, IsOfRun, Key, Line, Local, PlanChange, Print, Read, Script, Stops, Write, asked_by_line, at_end, change_asked, change_of, history_after, history_after_all, is_front_of, issuable, issuable_front, issued_by, key_of, left_in, line, new_history, ok_line, refusal_line, replies_in, spent, too_long, Deletes, AddListed, DropPlaces}
use Rattle.mdv_engine_law.specs.Line.{deeds}
use Rattle.mdv_store_law.specs.Changes.{FirstPlace}
use Rattle.mdv_store_law.specs.Log.{Issue, OfChange, OfCreation, OfEnd, OfPlaces}
use Rattle.mdv_store_law.proofs.Issues.{issue_weaker}
use Rattle.mdv_store_law.specs.Machine.{AreAll}
use Rattle.mdv_volumes.specs.Happening.{IsIssue, begins}
use Rattle.mdv_volumes.specs.History.{Boots, Creation, OfDatabase, OfVolume, Reads, Shows, Unsettles}
use Rattle.mdv_volumes.proofs.Lists.{all_both, contains_first, contains_behind, first_or_behind}
use Rattle.mdv_volumes.proofs.Owners.{AreEach, creation_keeps, events_keep}
use Rattle.mdv_words.specs.Line as words
use Rattle.mdv_run_law.specs.Standing.{AreBegun, AreOfRun, Asks, AsksBy, ComeOf, Context, InWork}
use Rattle.mdv_run_law.specs.Lives.{AreOfRuns, HasWord, IsBetween, IsNewWord, OfHost, Ran, host_of}
use Rattle.mdv_run_law.proofs.Asked.{run_answers}
use Rattle.mdv_run_law.proofs.Deeds.{part_contains}

-- a creation makes a database that is such a one
abbrev pub Makes : (Key → Identity → Type 0) → Event → Type 0
Makes P (Creation key identity) = P key identity
Makes P (OfDatabase key identity e) = Unit {0}
Makes P (OfVolume key volume e) = Unit {0}
Makes P (Reads key volume at blocks) = Unit {0}
Makes P (Acknowledges place key volume at blocks) = Unit {0}
Makes P (Shows place key volume at blocks) = Unit {0}
Makes P (Deletes place key) = Unit {0}
Makes P (Boots key up) = Unit {0}
Makes P (Unsettles key drive) = Unit {0}
Makes P Stops = Unit {0}
Makes P Crashes = Unit {0}

-- so each database behind them is, if each before them was
pub owned_after : (P : Key → Identity → Type 0) (h : History) (es : List Event) → AreEach P h.databases → AreAll (Makes P) es → AreEach P (history_after_all h es).databases
owned_after P h [] each makes = each
owned_after P h (Creation key identity ∷ es) each makes = owned_after P (history_after h (Creation key identity)) es (creation_keeps P key identity h.databases makes.0 each) makes.1
owned_after P h (OfDatabase key identity e ∷ es) each makes = owned_after P (history_after h (OfDatabase key identity e)) es (events_keep P key (e ∷ []) h.databases each) makes.1
owned_after P h (OfVolume key volume e ∷ es) each makes = owned_after P (history_after h (OfVolume key volume e)) es each makes.1
owned_after P h (Reads key volume at blocks ∷ es) each makes = owned_after P (history_after h (Reads key volume at blocks)) es each makes.1
owned_after P h (Acknowledges place key volume at blocks ∷ es) each makes = owned_after P (history_after h (Acknowledges place key volume at blocks)) es each makes.1
owned_after P h (Shows place key volume at blocks ∷ es) each makes = owned_after P (history_after h (Shows place key volume at blocks)) es each makes.1
owned_after P h (Deletes place key ∷ es) each makes = owned_after P (history_after h (Deletes place key)) es each makes.1
owned_after P h (Boots key up ∷ es) each makes = owned_after P (history_after h (Boots key up)) es each makes.1
owned_after P h (Unsettles key drive ∷ es) each makes = owned_after P (history_after h (Unsettles key drive)) es each makes.1
owned_after P h (Stops ∷ es) each makes = owned_after P (history_after h Stops) es each makes.1
owned_after P h (Crashes ∷ es) each makes = owned_after P (history_after h Crashes) es each makes.1

makes_weaker : (P Q : Key → Identity → Type 0) → ((key : Key) (identity : Identity) → P key identity → Q key identity) → (e : Event) → Makes P e → Makes Q e
makes_weaker P Q weaker (Creation key identity) is = weaker key identity is
makes_weaker P Q weaker (OfDatabase key identity e) is = tt
makes_weaker P Q weaker (OfVolume key volume e) is = tt
makes_weaker P Q weaker (Reads key volume at blocks) is = tt
makes_weaker P Q weaker (Acknowledges place key volume at blocks) is = tt
makes_weaker P Q weaker (Shows place key volume at blocks) is = tt
makes_weaker P Q weaker (Deletes place key) is = tt
makes_weaker P Q weaker (Boots key up) is = tt
makes_weaker P Q weaker (Unsettles key drive) is = tt
makes_weaker P Q weaker Stops is = tt
makes_weaker P Q weaker Crashes is = tt

pub all_make_weaker : (P Q : Key → Identity → Type 0) → ((key : Key) (identity : Identity) → P key identity → Q key identity) → (es : List Event) → AreAll (Makes P) es → AreAll (Makes Q) es
all_make_weaker P Q weaker [] are = tt
all_make_weaker P Q weaker (e ∷ es) are = (makes_weaker P Q weaker e are.0, all_make_weaker P Q weaker es are.1)

-- a creation that is begun is of that key
abbrev pub AreOfKey : Key → List Deed → Type 0
AreOfKey key asked = (other : Key) → Contains asked (Created other) → other ≡ key

-- events that begin such ones alone, and issue only such identities
module _ (Which : Issue → Type 0) (key : Key) where
  abbrev pub IsOurs : Key → Identity → Type 0
  IsOurs other identity = (other ≡ key) × Which (OfCreation identity)

  issue_makes : (e : Event) → IsIssue Which e → AreOfKey key (begins e) → Makes IsOurs e
  issue_makes (Creation other identity) is its = (its other (contains_first (Created other) []), is)
  issue_makes (OfDatabase other identity e) is its = tt
  issue_makes (OfVolume other volume e) is its = tt
  issue_makes (Reads other volume at blocks) is its = tt
  issue_makes (Acknowledges place other volume at blocks) is its = tt
  issue_makes (Shows place other volume at blocks) is its = tt
  issue_makes (Deletes place other) is its = tt
  issue_makes (Boots other up) is its = tt
  issue_makes (Unsettles other drive) is its = tt
  issue_makes Stops is its = tt
  issue_makes Crashes is its = tt

  pub all_issue : (es : List Event) → AreAll (IsIssue Which) es → AreOfKey key (issued_by es) → AreAll (Makes IsOurs) es
  all_issue [] are its = tt
  all_issue (e ∷ es) are its = (
    issue_makes e are.0 (λ other has. its other (Contains-append_left (begins e) (issued_by es) (Created other) has)),
    all_issue es are.1 (λ other has. its other (Contains-append_right (begins e) (issued_by es) (Created other) has)),
  )

-- what a line asks to create is of the host's key
module _ (host : Host) where
  abbrev its : List Deed → Type 0
  its = AreOfKey (key_of host)

  its_none : its []
  its_none other has = absurd (omega (arith, has.1))

  its_more_one : (deed : Deed) (asked : List Deed) → ((other : Key) → deed ≡ Created other → other ≡ key_of host) → its asked → its (deed ∷ asked)
  its_more_one deed asked same rest other has = elim (first_or_behind deed (Created other) asked has) [ inl here ↦ same other here | inr behind ↦ rest other behind ]

  its_made : (change : Change) → its (Created (key_of host) ∷ Changed (key_of host) change ∷ [])
  its_made change = its_more_one (Created (key_of host)) (Changed (key_of host) change ∷ []) (λ other same. cc (same)) (its_more_one (Changed (key_of host) change) [] (λ other same. absurd (cc (same))) its_none)

  -- of a line by which places go, too
  its_dropped : (force : Bool) (change : Change) → its (Changed (key_of host) change ∷ (if force then Changed (key_of host) FirstPlace ∷ Deleted (key_of host) ∷ [] else []))
  its_dropped true change =
      its_more_one (Changed (key_of host) change) (Changed (key_of host) FirstPlace ∷ Deleted (key_of host) ∷ []) (λ other same. absurd (cc (same)))
      (its_more_one (Changed (key_of host) FirstPlace) (Deleted (key_of host) ∷ []) (λ other same. absurd (cc (same))) (its_more_one (Deleted (key_of host)) [] (λ other same. absurd (cc (same))) its_none))
  its_dropped false change = its_more_one (Changed (key_of host) change) [] (λ other same. absurd (cc (same))) its_none

  its_change : (change : Option PlanChange) → its (deeds (change_asked host change))
  its_change None = its_none
  its_change (Some change) = its_more_one _ [] (λ other same. absurd (cc (same))) its_none

  its_command : (command : Command) → its (deeds (asked_by_line host (words.Exec command)))
  its_command (AddPlaces slices force count blocks) = its_made _
  its_command (AddListed number force) = its_made _
  its_command (DropPlaces slices force) = its_dropped force _
  its_command (Alter alteration) = its_change (change_of alteration)
  its_command (Read volume at count) = its_none
  its_command (Write volume at what) = its_more_one _ [] (λ other same. absurd (cc (same))) its_none
  its_command (Print names) = its_none

  its_line : (spelled : Line) → its (deeds (asked_by_line host spelled))
  its_line words.Boot = its_none
  its_line (words.Tab lines) = its_none
  its_line (words.Exec command) = its_command command

  its_asks : (text : List ℕ) (ask : Ask) → Asks host text ask → its (deeds ask)
  its_asks text ask (inl none) = subst (λ (a : Ask). its (deeds a)) (sym none.1) its_none
  its_asks text ask (inr is) = subst (λ (a : Ask). its (deeds a)) (sym is.2) (its_line is.0)

  its_ask : (text bytes : List ℕ) (ask : Ask) → AsksBy host text bytes ask → its (deeds ask)
  its_ask text bytes ask (inl is) = its_asks text ask is
  its_ask text bytes ask (inr none) = subst (λ (a : Ask). its (deeds a)) (sym none.0) its_none

  its_either : (lets : Bool) (asked : List Deed) → its asked → its (cond lets asked [])
  its_either true asked is = is
  its_either false asked is = its_none

  its_more : (asked more : List Deed) → its asked → its more → its (asked ++ more)
  its_more asked more one two other has = elim (Contains-append_cases asked more (Created other) has) [ inl here ↦ one other here | inr there ↦ two other there ]

  its_issuable : (text reply : List ℕ) (ask : Ask) → AsksBy host text reply ask → its (issuable ask reply)
  its_issuable text reply ask is = its_either (bytes_eq reply ok_line || bytes_eq reply (refusal_line IoFault)) (deeds ask) (its_ask text reply ask is)

  its_front : (text front : List ℕ) (ask : Ask) → AsksBy host text front ask → its (issuable_front ask front)
  its_front text front ask is = its_either (is_front_of ok_line front || is_front_of (refusal_line IoFault) front) (deeds ask) (its_ask text front ask is)

  -- so are all that the lines may have begun
  its_begun : (script : Script) (replies : List (List ℕ)) (front : List ℕ) (begun : List Deed) → AreBegun host script replies front begun → its begun
  its_begun at_end replies front begun are = subst its (sym are) its_none
  its_begun (spent lines bytes) replies front begun are = subst its (sym are) its_none
  its_begun (too_long more) [] front begun are = subst its (sym are) its_none
  its_begun (too_long more) (reply ∷ replies) front begun are = its_begun more replies front begun are
  its_begun (line text more) [] front begun (inl none) = subst its (sym none) its_none
  its_begun (line text more) [] front begun (inr is) = subst its (sym is.2) (its_front text front is.0 is.1)
  its_begun (line text more) (reply ∷ replies) front begun are =
      subst its (sym are.4) (its_more (issuable are.0 reply) are.2 (its_issuable text reply are.0 are.1) (its_begun more replies front are.2 are.3))

  -- a creation that is issued has the run's word
  abbrev pub HasItsWord : Issue → Type 0
  HasItsWord (OfCreation identity) = identity.fresh ≡ host.fresh
  HasItsWord (OfChange change) = Unit {0}
  HasItsWord (OfPlaces places) = Unit {0}
  HasItsWord OfEnd = Unit {0}

  word_of_run : (asks : List Deed) (i : Issue) → IsOfRun host asks i → HasItsWord i
  word_of_run asks (OfCreation identity) is = is
  word_of_run asks (OfChange change) is = tt
  word_of_run asks (OfPlaces places) is = tt
  word_of_run asks OfEnd is = tt

  word_issued : (asks : List Deed) (es : List Event) → AreAll (IsIssue (IsOfRun host asks)) es → AreAll (IsIssue HasItsWord) es
  word_issued asks [] are = tt
  word_issued asks (Creation key identity ∷ es) are = (are.0, word_issued asks es are.1)
  word_issued asks (OfDatabase key identity e ∷ es) are = (issue_weaker (IsOfRun host asks) HasItsWord (word_of_run asks) e are.0, word_issued asks es are.1)
  word_issued asks (OfVolume key volume e ∷ es) are = (tt, word_issued asks es are.1)
  word_issued asks (Reads key volume at blocks ∷ es) are = (tt, word_issued asks es are.1)
  word_issued asks (Acknowledges place key volume at blocks ∷ es) are = (tt, word_issued asks es are.1)
  word_issued asks (Shows place key volume at blocks ∷ es) are = (tt, word_issued asks es are.1)
  word_issued asks (Deletes place key ∷ es) are = (tt, word_issued asks es are.1)
  word_issued asks (Boots key up ∷ es) are = (tt, word_issued asks es are.1)
  word_issued asks (Unsettles key drive ∷ es) are = (tt, word_issued asks es are.1)
  word_issued asks (Stops ∷ es) are = absurd are.0
  word_issued asks (Crashes ∷ es) are = absurd are.0

  abbrev AreIssued : List Event → Type 0
  AreIssued = AreAll (IsIssue HasItsWord)

  both_issued : (es first rest : List Event) → es ≡ first ++ rest → AreIssued first → AreIssued rest → AreIssued es
  both_issued es first rest is one two = subst AreIssued (sym is) (all_both (IsIssue HasItsWord) first rest one two)

  -- each creation that the events of a run's lines issue has its word
  work_issued : (front : List ℕ) (down : Context) (script : Script) (es : List Event) → InWork host front down script es → AreIssued es
  work_issued front down at_end es work = word_issued [] es work.issues
  work_issued front down (spent lines bytes) es work = word_issued [] es work.issues
  work_issued front down (too_long more) es work = word_issued [] es work.issues
  work_issued front down (line text more) es (inl none) = subst AreIssued (sym none.1) tt
  work_issued front down (line text more) es (inr work) = word_issued (issuable_front work.1.ask front) es work.1.does.issues

  pub come_issued : (front : List ℕ) (down : Context) (script : Script) (replies : List (List ℕ)) (es : List Event) → ComeOf host (InWork host front) down script replies es → AreIssued es
  come_issued front down script [] es come = work_issued front down script es come
  come_issued front down at_end (reply ∷ replies) es come = word_issued [] es come.issues
  come_issued front down (spent lines bytes) (reply ∷ replies) es come = word_issued [] es come.issues
  come_issued front down (too_long more) (reply ∷ replies) es come = both_issued es come.0 come.1 come.2 (word_issued [] come.0 come.3.issues) (come_issued front down more replies come.1 come.4)
  come_issued front down (line text more) (reply ∷ replies) es come = both_issued es come.0 come.1 come.2 (word_issued (issuable come.4.ask reply) come.0 come.4.does.issues) (come_issued front come.3 more replies come.1 come.6)

  pub run_issued : (script : Script) (bytes : List ℕ) (es : List Event) → AreOfRun host script bytes es → AreIssued es
  run_issued script bytes es run = both_issued es run.boot run.lines run.both (word_issued [] run.boot run.idle.issues) (come_issued (left_in bytes) _ script (replies_in bytes) run.lines run.come)

  -- so the databases that a run makes are the host's, with the run's word
  pub run_makes : (script : Script) (bytes : List ℕ) (es : List Event) → AreOfRun host script bytes es → AreAll (Makes (IsOurs HasItsWord (key_of host))) es
  run_makes script bytes es run =
      let answers = run_answers host script bytes es run in
      all_issue HasItsWord (key_of host) es (run_issued script bytes es run)
      (λ other has. its_begun script (replies_in bytes) (left_in bytes) answers.asked answers.are_asked other (part_contains (issued_by es) answers.asked (Created other) answers.begins has))

-- a database of the host's that one of these runs made
abbrev pub IsOfRuns : List ℕ → List Ran → Key → Identity → Type 0
IsOfRuns name ran key identity = (key ≡ Local name) × HasWord name ran identity.fresh

module _ (drives : Geometry) (name : List ℕ) where
  pub earlier : (run : Ran) (before : List Ran) (key : Key) (identity : Identity) → IsOfRuns name before key identity → IsOfRuns name (run ∷ before) key identity
  earlier run before key identity is = (is.0, record { run = is.1.run; one_of = contains_behind run is.1.run before is.1.one_of; of_host = is.1.of_host; word = is.1.word })

  ended_makes : (P : Key → Identity → Type 0) (end : List Event) → IsBetween end → AreAll (Makes P) end
  ended_makes P end (inl is) = subst (AreAll (Makes P)) (sym is) (tt, tt)
  ended_makes P end (inr is) = subst (AreAll (Makes P)) (sym is) (tt, (tt, tt))

  one_makes : (run : Ran) (before : List Ran) (es : List Event) → OfHost name run (AreOfRun (host_of drives name run.fresh) run.script run.bytes es) (es ≡ []) → AreAll (Makes (IsOfRuns name (run ∷ before))) es
  one_makes run before es (inl own) =
      all_make_weaker (IsOurs (HasItsWord (host_of drives name run.fresh)) (Local name)) (IsOfRuns name (run ∷ before)) (λ key identity is. (is.0, record { run = run; one_of = contains_first run before; of_host = own.0; word = sym is.1 })) es
      (run_makes (host_of drives name run.fresh) run.script run.bytes es own.1)
  one_makes run before es (inr other) = subst (AreAll (Makes (IsOfRuns name (run ∷ before)))) (sym other.1) tt

  pub runs_make : (ran : List Ran) (es : List Event) → AreOfRuns drives name ran es → AreAll (Makes (IsOfRuns name ran)) es
  runs_make [] es none = subst (AreAll (Makes (IsOfRuns name []))) (sym none) tt
  runs_make (run ∷ before) es are =
      let P = IsOfRuns name (run ∷ before) in
      subst (AreAll (Makes P)) (sym are.3)
      (all_both (Makes P) are.0 (are.1 ++ are.2) (all_make_weaker (IsOfRuns name before) P (λ key identity is. earlier run before key identity is) are.0 (runs_make before are.0 are.4))
      (all_both (Makes P) are.1 are.2 (one_makes run before are.1 are.5) (ended_makes P are.2 are.6)))

  -- each database of such a history is one
  pub runs_own : (ran : List Ran) (es : List Event) → AreOfRuns drives name ran es → AreEach (IsOfRuns name ran) (history_after_all new_history es).databases
  runs_own ran es are = owned_after (IsOfRuns name ran) new_history es (λ d has. absurd (omega (arith, has.1))) (runs_make ran es are)

  -- so the next run of the host, which has a word of its own, has none of them
  pub none_own : (ran : List Ran) (fresh : ℕ) (es : List Event) → IsNewWord name fresh ran → AreOfRuns drives name ran es → AreOwn (host_of drives name fresh) 0 (history_after_all new_history es)
  none_own ran fresh es new are =
      let each = runs_own ran es are in
      record { own = λ d has. (each d has).0; before = λ d has same. absurd (let is = (each d has).1 in new is.run is.one_of is.of_host (is.word ∙ same)) }
