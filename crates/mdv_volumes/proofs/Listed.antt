-- The places that each table lists which a boot may find stay what they are, as long as no change moves one.
use Rattle.std.proofs.Common.{◌≡◌, ◌⊎◌, inl, inr, true, List, [], ◌∷◌, ◌++◌, map, Option, None, Some, refl, sym, subst, Contains, arith}
use Rattle.std.proofs.lemmas.List.Elements.{Contains-append_cases, Contains-append_left, Contains-append_right}
use Rattle.std.specs.List.{list_any}
use Rattle.mdv_shelf.proofs.Blocks.{both_ways}
use Rattle.mdv_keeping.proofs.Places.{lists_stay as lists_same}
use Rattle.mdv_store_law.specs.Changes.{AddListed, AddPlaces, DropPlaces, FirstPlace, OfPlan, TellsList, list_after, moved}
use Rattle.mdv_store_law.specs.Log as log
use Rattle.mdv_store_law.specs.Log.{IsAskable, IsMade, IsSameOrSettled, Issue, PlacesStay, Version}
use Rattle.mdv_store_law.specs.Machine.{AreAll}
use Rattle.mdv_store_law.specs.Part.{IsPart}
use Rattle.mdv_store_law.proofs.Anew.{made_lists}
use Rattle.mdv_store_law.proofs.Fates.{BeginsNoEnd, lives_there, never_ends}
use Rattle.mdv_store_law.proofs.Logs.{firm_stays}
use Rattle.mdv_config.specs.Lists.{last_of}
use Rattle.mdv_databases.proofs.Lists.{key_is}
use Rattle.mdv_volumes.specs.Below.{Change, Geometry, Key, Lists, Log, One, Place, Table, Two, is_firm}
use Rattle.mdv_volumes.specs.Databases.{log_of, same_key}
use Rattle.mdv_volumes.specs.Happening.{IsCourse, IsIssue, MayBeFound, issued_by}
use Rattle.mdv_volumes.specs.History.{Acknowledges, Boots, Changed, Crashes, Created, Creation, Deed, Deleted, Deletes, Event, History, OfDatabase, OfVolume, Reads, Saw, Shows, Stops, Unsettles, Wrote, history_after_all}
use Rattle.mdv_volumes.specs.HistoryLaws.{AllLists, HasFirm, KeepDatabase, ListsStay, TellLists, database_deeds, lists_by, log_events_of}
use Rattle.mdv_volumes.proofs.Ending.{firm_lasts, none_begins}
use Rattle.mdv_volumes.proofs.Found.{AllFound, begun_found, kept_all, lasting_at, written_found}
use Rattle.mdv_volumes.proofs.Keys.{databases_live}
use Rattle.mdv_volumes.proofs.Lists.{all_both, contains_behind, contains_first, first_or_behind}

-- each change of the key's table that these events begin is such a one
abbrev pub ChangesAre : Key → (Issue → Type 0) → List Event → Type 0
ChangesAre key Which es = (change : Change) → Contains (issued_by es) (Changed key change) → Which (log.OfChange change)

-- so it is of those that its log begins
module _ (key : Key) (Which : Issue → Type 0) where
  deeds_are : (deeds : List Deed) → ((change : Change) → Contains deeds (Changed key change) → Which (log.OfChange change)) → AreAll (IsAskable Which) (database_deeds key deeds)
  deeds_are [] are = tt
  deeds_are (Created other ∷ deeds) are = elim (both_ways (same_key key other)) [
    | inl does ↦ rw does (tt, deeds_are deeds (λ change has. are change (contains_behind (Created other) (Changed key change) deeds has)))
    | inr never ↦ rw never (deeds_are deeds (λ change has. are change (contains_behind (Created other) (Changed key change) deeds has)))
  ]
  deeds_are (Changed other change ∷ deeds) are =
      let rest = deeds_are deeds (λ more has. are more (contains_behind (Changed other change) (Changed key more) deeds has)) in
      elim (both_ways (same_key key other)) [
        | inl does ↦
            let here : Contains (Changed other change ∷ deeds) (Changed key change) = subst (λ (k : Key). Contains (Changed other change ∷ deeds) (Changed k change)) (sym (key_is key other does)) (contains_first (Changed other change) deeds) in
            rw does (are change here, rest)
        | inr never ↦ rw never rest
      ]
  deeds_are (Deleted other ∷ deeds) are = deeds_are deeds (λ change has. are change (contains_behind (Deleted other) (Changed key change) deeds has))
  deeds_are (Wrote other volume at blocks ∷ deeds) are = deeds_are deeds (λ change has. are change (contains_behind (Wrote other volume at blocks) (Changed key change) deeds has))
  deeds_are (Saw other volume at blocks ∷ deeds) are = deeds_are deeds (λ change has. are change (contains_behind (Saw other volume at blocks) (Changed key change) deeds has))

  pub changes_are : (es : List Event) → ChangesAre key Which es → AreAll (IsAskable Which) (log.begun_by (log_events_of key es))
  changes_are es are = subst (AreAll (IsAskable Which)) (sym (databases_live.begins key es)) (deeds_are (issued_by es) are)

-- what is among some is, as it is mapped, among these mapped; and so it came there
mapped_has : {A B : Type 0} (f : A → B) (xs : List A) (x : A) → Contains xs x → Contains (map f xs) (f x)
mapped_has f [] x has = absurd (omega (arith, has.1))
mapped_has f (y ∷ ys) x has = elim (first_or_behind y x ys has) [
  | inl here ↦ subst (λ (z : _). Contains (f y ∷ map f ys) (f z)) here (contains_first (f y) (map f ys))
  | inr behind ↦ contains_behind (f y) (f x) (map f ys) (mapped_has f ys x behind)
]

was_mapped : {A B : Type 0} (f : A → B) (xs : List A) (y : B) → Contains (map f xs) y → (x : A) × Contains xs x × (f x ≡ y)
was_mapped f [] y has = absurd (omega (arith, has.1))
was_mapped f (x ∷ xs) y has = elim (first_or_behind (f x) y (map f xs) has) [
  | inl here ↦ (x, contains_first x xs, here)
  | inr behind ↦ (let was = was_mapped f xs y behind in (was.0, contains_behind x was.0 xs was.1, was.2))
]

abbrev Lies : List (List Place) → List (List Place) → Type 0
Lies may more = (list : List Place) → Contains may list → Contains more list

abbrev with_made : Change → List (List Place) → List (List Place)
with_made change may = may ++ map (list_after change) may

with_more : (change : Change) (may : List (List Place)) → Lies may (with_made change may)
with_more change may list has = Contains-append_left may (map (list_after change) may) list has

-- lists that are among some are among more
more_lists : (may more : List (List Place)) → Lies may more → (lists : Lists) → AllLists may lists → AllLists more lists
more_lists may more lies (One places) all = lies places all
more_lists may more lies (Two old new) all = (lies old all.0, lies new all.1)

last_list : (may : List (List Place)) (lists : Lists) → AllLists may lists → Contains may (last_of lists)
last_list may (One places) all = all
last_list may (Two old new) all = all.1

-- the lists of a table that comes by no change, and by one
module _ (g : Geometry) (may : List (List Place)) where
  abbrev Listed : Table → Type 0
  Listed table = AllLists may table.plan.lists

  same_listed : (old next : Table) → IsSameOrSettled old next → Listed old → Listed next
  same_listed old next (inl same) all = subst Listed (sym same) all
  same_listed old next (inr over) all = subst Listed (sym over) (last_list may old.plan.lists all)

  moved_listed : (change : Change) (old next : Table) → next ≡ moved change old → Listed old → AllLists (with_made change may) next.plan.lists
  moved_listed change old next is all =
      let last = last_list may old.plan.lists all in
      subst (λ (t : Table). AllLists (with_made change may) t.plan.lists) (sym is)
      (with_more change may (last_of old.plan.lists) last, Contains-append_right may (map (list_after change) may) (list_after change (last_of old.plan.lists)) (mapped_has (list_after change) may (last_of old.plan.lists) last))

  made_listed : (change : Change) (old next : Table) → TellsList change → IsMade g (Some change) old next → Listed old → AllLists (with_made change may) next.plan.lists
  made_listed (OfPlan change) old next tells is all = more_lists may (with_made (OfPlan change) may) (with_more (OfPlan change) may) next.plan.lists (subst (AllLists may) (sym (lists_same g change old next is.1)) all)
  made_listed (AddPlaces slices count blocks) old next tells is all = moved_listed (AddPlaces slices count blocks) old next is all
  made_listed (AddListed number) old next tells is all = absurd tells
  made_listed (DropPlaces slices) old next tells is all = moved_listed (DropPlaces slices) old next is all
  made_listed FirstPlace old next tells is all = moved_listed FirstPlace old next is all

  -- a change that moves none
  kept_listed : (asked : Option Change) (old next : Table) → IsAskable PlacesStay asked → IsMade g asked old next → Listed old → Listed next
  kept_listed None old next keeps is all = same_listed old next is all
  kept_listed (Some (OfPlan change)) old next keeps is all = subst (AllLists may) (sym (lists_same g change old next is.1)) all
  kept_listed (Some (AddPlaces slices count blocks)) old next keeps is all = absurd keeps
  kept_listed (Some (AddListed number)) old next keeps is all = absurd keeps
  kept_listed (Some (DropPlaces slices)) old next keeps is all = absurd keeps
  kept_listed (Some FirstPlace) old next keeps is all = absurd keeps

-- what a log's events begin makes the lists of the tables that a boot may find
module _ (g : Geometry) where
  parent_found : (lg : Log) (asked : Option Change) (before : List Change) (table : Table) → is_firm lg ≡ true → log.IsFirst lg.issued lg.family asked before table ⊎ log.IsNext g lg.family asked before table
      → (v : Version) × MayBeFound lg.family v × IsMade g asked v.table table
  parent_found lg asked before table firm (inl first) = absurd (let none = subst (λ (f : List Version). list_any (λ v. v.is_written) f ≡ true) first.none firm in cc none)
  parent_found lg asked before table firm (inr next) = (next.parent, (next.one_of, next.not_older), next.made)

  lists_made : (lg : Log) (es : List log.Event) (may : List (List Place)) → log.IsCourse g lg es → AreAll BeginsNoEnd es → TellLists (log.begun_by es) → lg.fate ≡ log.Lives → is_firm lg ≡ true → AllFound (Listed g may) lg.family → AllFound (Listed g (lists_by (log.begun_by es) may)) (log.log_after_all lg es).family
  lists_made lg [] may course none tell lives firm all = all
  lists_made lg (log.Issued identity ∷ es) may course none tell lives firm all = absurd (elim course.0 [ inl loose ↦ cc (loose, firm) | inr over ↦ lives_there lg.fate lives over ])
  lists_made lg (log.Writing mark None before table ∷ es) may course none tell lives firm all =
      let from = parent_found lg None before table firm course.0.1 in
      lists_made (log.log_after lg (log.Writing mark None before table)) es may course.1 none.1 tell refl firm (begun_found (Listed g may) lg mark None before table (same_listed g may from.0.table table from.2 (all from.0 from.1)) all)
  lists_made lg (log.Writing mark (Some change) before table ∷ es) may course none tell lives firm all =
      let from = parent_found lg (Some change) before table firm course.0.1 in
      lists_made (log.log_after lg (log.Writing mark (Some change) before table)) es (with_made change may) course.1 none.1 tell.1 refl firm
      (begun_found (Listed g (with_made change may)) lg mark (Some change) before table (made_listed g may change from.0.table table tell.0 from.2 (all from.0 from.1))
      (λ v found. more_lists may (with_made change may) (with_more change may) v.table.plan.lists (all v found)))
  lists_made lg (log.Written ∷ es) may course none tell lives firm all =
      lists_made (log.log_after lg log.Written) es may course.1 none.1 tell lives (firm_stays g lg log.Written course.0 (lives_there lg.fate lives) firm) (written_found (Listed g may) lg.family course.0 all)
  lists_made lg (log.Told which before ∷ es) may course none tell lives firm all = lists_made (log.log_after lg (log.Told which before)) es may course.1 none.1 tell lives firm all
  lists_made lg (log.Placing places ∷ es) may course none tell lives firm all = lists_made (log.log_after lg (log.Placing places)) es may course.1 none.1 tell lives firm all
  lists_made lg (log.Clearing ∷ es) may course none tell lives firm all = absurd none.0
  lists_made lg (log.Gone ∷ es) may course none tell lives firm all = absurd (never_ends lg.fate lives course.0)

-- more lists may come where more is asked
made_more : (change : Change) (may more : List (List Place)) → Lies may more → Lies (with_made change may) (with_made change more)
made_more change may more lies list has = elim (Contains-append_cases may (map (list_after change) may) list has) [
  | inl was ↦ with_more change more list (lies list was)
  | inr made ↦
      let was = was_mapped (list_after change) may list made in
      subst (λ (l : List Place). Contains (with_made change more) l) was.2 (Contains-append_right more (map (list_after change) more) (list_after change was.0) (mapped_has (list_after change) more was.0 (lies was.0 was.1)))
]

lists_more : (asks : List (Option Change)) (may more : List (List Place)) → Lies may more → Lies (lists_by asks may) (lists_by asks more)
lists_more [] may more lies = lies
lists_more (None ∷ asks) may more lies = lists_more asks may more lies
lists_more (Some change ∷ asks) may more lies = lists_more asks (with_made change may) (with_made change more) (made_more change may more lies)

-- one that is asked besides
lists_besides : (asked : Option Change) (asks : List (Option Change)) (may : List (List Place)) → Lies (lists_by asks may) (lists_by (asked ∷ asks) may)
lists_besides None asks may list has = has
lists_besides (Some change) asks may list has = lists_more asks may (with_made change may) (with_more change may) list has

lists_both : (asked : Option Change) (part asks : List (Option Change)) (may : List (List Place)) → ((more : List (List Place)) → Lies (lists_by part more) (lists_by asks more)) → Lies (lists_by (asked ∷ part) may) (lists_by (asked ∷ asks) may)
lists_both None part asks may rest = rest may
lists_both (Some change) part asks may rest = rest (with_made change may)

lists_part : (part asks : List (Option Change)) (may : List (List Place)) → IsPart part asks → Lies (lists_by part may) (lists_by asks may)
lists_part [] [] may within list is = is
lists_part [] (y ∷ asks) may within list is = lists_besides y asks may list (lists_part [] asks may tt list is)
lists_part (x ∷ part) [] may within list is = absurd within
lists_part (x ∷ part) (y ∷ asks) may (inl within) list is = lists_both y part asks may (λ more. lists_part part asks more within.1) list (subst (λ (o : Option Change). Contains (lists_by (o ∷ part) may) list) within.0 is)
lists_part (x ∷ part) (y ∷ asks) may (inr within) list is = lists_besides y asks may list (lists_part (x ∷ part) asks may within list is)

-- and each that is asked tells its list
tell_part : (part asks : List (Option Change)) → IsPart part asks → TellLists asks → TellLists part
tell_part [] asks within tell = tt
tell_part (x ∷ part) [] within tell = absurd within
tell_part (None ∷ part) (None ∷ asks) (inl within) tell = tell_part part asks within.1 tell
tell_part (None ∷ part) (Some change ∷ asks) (inl within) tell = tell_part part asks within.1 tell.1
tell_part (Some change ∷ part) (None ∷ asks) (inl within) tell = absurd (let same = within.0 in cc (same))
tell_part (Some change ∷ part) (Some asked ∷ asks) (inl within) tell =
    let same : change ≡ asked = (let both = within.0 in cc (both)) in
    (subst TellsList (sym same) tell.0, tell_part part asks within.1 tell.1)
tell_part (x ∷ part) (None ∷ asks) (inr within) tell = tell_part (x ∷ part) asks within tell
tell_part (x ∷ part) (Some asked ∷ asks) (inr within) tell = tell_part (x ∷ part) asks within tell.1

-- what no change takes from a table that moves no place stays so of each that a boot may find
tables_stay : (g : Geometry) (key : Key) (h : History) (es : List Event) → IsCourse g h es → KeepDatabase key es → HasFirm key h → AreAll (IsAskable PlacesStay) (log.begun_by (log_events_of key es)) → (P : Table → Type 0)
    → ((asked : Option Change) (old next : Table) → IsAskable PlacesStay asked → IsMade g asked old next → P old → P next) → AllFound P (log_of h.databases key).family → AllFound P (log_of (history_after_all h es).databases key).family
tables_stay g key h es course keep firm asks P stays all = subst (λ (l : Log). AllFound P l.family) (sym (databases_live.is key g h es course))
    (kept_all g P PlacesStay stays (log_of h.databases key) (log_events_of key es) (databases_live.may key g h es course) (none_begins key es keep) asks firm.0 firm.1 all)

pub lists_stay : ListsStay
lists_stay = record {
  still = λ g key may h es course keep stay has. (
    firm_lasts key g h es course keep has.0,
    tables_stay g key h es course keep has.0 (changes_are key PlacesStay es stay) (Listed g may) (kept_listed g may) has.1,
  );
  alone = λ g key places h es course keep stay has. (
    firm_lasts key g h es course keep has.0,
    tables_stay g key h es course keep has.0 (changes_are key PlacesStay es stay) (λ (t : Table). t.plan.lists ≡ One places) (λ asked old next. made_lists g asked old next places) has.1,
  );
  by = λ g key may h es asks course keep within tell has.
      let lg = log_of h.databases key in
      let events = log_events_of key es in
      let could = databases_live.may key g h es course in
      let part : IsPart (log.begun_by events) asks = subst (λ (l : List (Option Change)). IsPart l asks) (sym (databases_live.begins key es)) within in
      let made = lists_made g lg events may could (none_begins key es keep) (tell_part (log.begun_by events) asks part tell) has.0.0 has.0.1 has.1 in (
        firm_lasts key g h es course keep has.0,
        subst (λ (l : Log). AllFound (Listed g (lists_by asks may)) l.family) (sym (databases_live.is key g h es course))
            (λ v found. more_lists (lists_by (log.begun_by events) may) (lists_by asks may) (lists_part (log.begun_by events) asks may part) v.table.plan.lists (made v found)),
      );
  one = λ g key h newest older places logs family written one lives.
      let is = lasting_at g (λ (t : Table). t.plan.lists ≡ One places) (log_of h.databases key) newest older (logs key) family written lives one in
      ((lives, is.firm), is.all);
  are = λ key places h has. (has.0, λ v found. subst (AllLists (places ∷ [])) (sym (has.1 v found)) (contains_first places []));
}

-- what the events of a run issue of a key's database are such changes
module _ (Which Any : Issue → Type 0) (also : (change : Change) → Which (log.OfChange change) → Any (log.OfChange change)) where
  issue_asks : (e : log.Event) → log.IsIssue Which e → AreAll (IsAskable Any) (log.begins e)
  issue_asks (log.Issued identity) is = (tt, tt)
  issue_asks (log.Writing mark None before table) is = tt
  issue_asks (log.Writing mark (Some change) before table) is = (also change is, tt)
  issue_asks log.Written is = tt
  issue_asks (log.Told which before) is = tt
  issue_asks (log.Placing places) is = tt
  issue_asks log.Clearing is = tt
  issue_asks log.Gone is = tt

  pub issues_ask : (key : Key) (es : List Event) → AreAll (IsIssue Which) es → AreAll (IsAskable Any) (log.begun_by (log_events_of key es))
  issues_ask key [] are = tt
  issues_ask key (Creation other identity ∷ es) are = elim (both_ways (same_key key other)) [ inl does ↦ rw does (tt, issues_ask key es are.1) | inr never ↦ rw never (issues_ask key es are.1) ]
  issues_ask key (OfDatabase other identity e ∷ es) are = elim (both_ways (same_key key other)) [
    | inl does ↦ rw does (all_both (IsAskable Any) (log.begins e) (log.begun_by (log_events_of key es)) (issue_asks e are.0) (issues_ask key es are.1))
    | inr never ↦ rw never (issues_ask key es are.1)
  ]
  issues_ask key (OfVolume other volume e ∷ es) are = issues_ask key es are.1
  issues_ask key (Reads other volume at blocks ∷ es) are = issues_ask key es are.1
  issues_ask key (Acknowledges place other volume at blocks ∷ es) are = issues_ask key es are.1
  issues_ask key (Shows place other volume at blocks ∷ es) are = issues_ask key es are.1
  issues_ask key (Deletes place other ∷ es) are = issues_ask key es are.1
  issues_ask key (Boots other up ∷ es) are = issues_ask key es are.1
  issues_ask key (Unsettles other drive ∷ es) are = issues_ask key es are.1
  issues_ask key (Stops ∷ es) are = absurd are.0
  issues_ask key (Crashes ∷ es) are = absurd are.0
