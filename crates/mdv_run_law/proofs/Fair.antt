-- Lines that add no places where an earlier one dropped some let no boot meet a stale vote.
use Rattle.std.proofs.Common.{◌≡◌, ◌⊎◌, ℕ, inl, inr, ⊎_elim, ◌||◌, Bool, true, false, cond, if◌then◌else◌, List, [], ◌∷◌, ◌++◌, Some, None, Contains, refl, sym, ◌∙◌, ap, subst, append_assoc, arith}
use Rattle.std.specs.Str.{bytes_eq}
use Rattle.std.proofs.lemmas.List.{append-nil}
use Rattle.std.proofs.lemmas.List.Elements.{All-nil, Contains-append_cases, Contains-append_left, Contains-append_right}
use Rattle.mdv_base.specs.declared.refusal.Refusal.TheVariants.{IoFault}
use Rattle.mdv_shelf.proofs.Blocks.{both_ways}
use Rattle.mdv_databases.proofs.Lists.{current_key, key_is, some_same}
use Rattle.mdv_engine_law.proofs.Going.{may_course}
use Rattle.mdv_engine_law.specs.Line.{deeds}
use Rattle.mdv_engine_law.specs.Standing.{AddsThese, MeetsStaleAt}
use Rattle.mdv_run_law.specs.Below.{Ask, Change, Changed, Created, Database, Deed, Deleted, Event, Geometry, History, Host, Image, IsCourse, IsLog, IsOfRun, Key, Local, Log, MayHappen, Nothing, Saw, Script, SliceName, Tale, ToBoot, ToDo, ToMake, ToMakeListed, ToSee, Wrote, at_end, empty_log, history_after, history_after_all, is_front_of, issuable, issuable_front, key_of, left_in, line, log_of, new_history, ok_line, own_view, refusal_line, replies_in, same_key, site_of, spent, too_long}
use Rattle.mdv_engine_law.specs.Line.{ToDrop}
use Rattle.mdv_run_law.specs.Lives.{AddsNoneAgain, AddsTo, AreAsked, AreOfRuns, DropsFrom, FairLinesMeetNone, IsBetween, IsHistoryOf, LinesAddNoneAgain, MayHaveDropped, OfHost, Ran, host_of}
use Rattle.mdv_run_law.specs.Standing.{AreBegun, AreOfRun, AreOfRunBy, AtBoot, ComeOf, Context, HasMetInRun, InWork}
use Rattle.mdv_run_law.proofs.Dropped.{Fits, Kept, log_fresh, log_kept, places_lie}
use Rattle.mdv_standing.proofs.Voting.{none_stale}
use Rattle.mdv_store_law.specs.Anew.{HasNoneAgain, IsFresh}
use Rattle.mdv_store_law.specs.Below.{Place}
use Rattle.mdv_store_law.specs.Changes.{AddListed, AddPlaces, DropPlaces, FirstPlace, OfPlan}
use Rattle.mdv_store_law.specs.Log as log
use Rattle.mdv_store_law.specs.Machine.{AreAll}
use Rattle.mdv_store_law.proofs.Anew.{none_again_after}
use Rattle.mdv_store_law.proofs.Logs.{empty_is_log, is_log_after, is_log_after_all}
use Rattle.mdv_store_law.proofs.Machine.{after_more}
use Rattle.mdv_volumes.specs.Databases.{current_of, is_current, log_in, with_event, with_over}
use Rattle.mdv_volumes.specs.Happening.{IsIssue}
use Rattle.mdv_volumes.specs.History.{Acknowledges, Boots, Crashes, Creation, Deletes, OfDatabase, OfVolume, Reads, Shows, Stops, Unsettles, databases_after}
use Rattle.mdv_volumes.specs.HistoryLaws.{log_events_at, log_events_of}
use Rattle.mdv_volumes.proofs.Keys.{databases_live}
use Rattle.mdv_volumes.proofs.Lists.{contains_behind, contains_first, course_front, course_rest, first_or_behind}

-- Of each database of the key no place was formatted again that a version dropped, and what the current one ever listed it lists still, or it was dropped from such a slice.
module _ (g : Geometry) (key : Key) where
  abbrev NoneAgain : List Database → Type 0
  NoneAgain ds = (d : Database) → Contains ds d → d.key ≡ key → HasNoneAgain d.log

  record Covered (Gone : SliceName → Type 0) (h : History) : Type 0 where
    none : NoneAgain h.databases
    is_log : IsLog g (log_of h.databases key)
    kept : Kept g Gone (log_of h.databases key).family

  one_more : (x : Database) (ds : List Database) → (x.key ≡ key → HasNoneAgain x.log) → NoneAgain ds → NoneAgain (x ∷ ds)
  one_more x ds own each d has = elim (first_or_behind x d ds has) [
    | inl here ↦ subst (λ (y : Database). y.key ≡ key → HasNoneAgain y.log) here own
    | inr there ↦ each d there
  ]

  rest_of : (x : Database) (ds : List Database) → NoneAgain (x ∷ ds) → NoneAgain ds
  rest_of x ds each d has = each d (contains_behind x d ds has)

  over_none : (other : Key) (ds : List Database) → NoneAgain ds → NoneAgain (with_over other ds)
  over_none other [] each = each
  over_none other (x ∷ ds) each = by (is_current other x) (over_none other ds (rest_of x ds each)) where
    by : (is : Bool) → NoneAgain (with_over other ds) → NoneAgain (if is then record x { over = true } ∷ ds else x ∷ with_over other ds)
    by true rest = one_more (record x { over = true }) ds (each x (contains_first x ds)) (rest_of x ds each)
    by false rest = one_more x (with_over other ds) (each x (contains_first x ds)) rest

  event_none : (other : Key) (e : log.Event) (ds : List Database) (d : Database) → current_of ds other ≡ Some d → (d.key ≡ key → IsFresh d.log e) → NoneAgain ds → NoneAgain (with_event other e ds)
  event_none other e [] d is fresh each = each
  event_none other e (x ∷ ds) d is fresh each = by (is_current other x) is (λ behind. event_none other e ds d behind fresh (rest_of x ds each)) where
    by : (b : Bool) → (if b then Some x else current_of ds other) ≡ Some d → (current_of ds other ≡ Some d → NoneAgain (with_event other e ds)) → NoneAgain (if b then record x { log = log.log_after x.log e } ∷ ds else x ∷ with_event other e ds)
    by true same rest =
        one_more (record x { log = log.log_after x.log e }) ds
        (λ of_key. none_again_after x.log e (each x (contains_first x ds) of_key) (subst (λ (y : Database). y.key ≡ key → IsFresh y.log e) (sym (some_same x d same)) fresh of_key)) (rest_of x ds each)
    by false same rest = one_more x (with_event other e ds) (each x (contains_first x ds)) (rest same)

  -- what an event of the key's database asks is so
  abbrev EventFits : (SliceName → Type 0) → Event → Type 0
  EventFits Gone (Creation other identity) = Unit {0}
  EventFits Gone (OfDatabase other identity e) = other ≡ key → Fits g Gone e
  EventFits Gone (OfVolume other volume e) = Unit {0}
  EventFits Gone (Reads other volume at blocks) = Unit {0}
  EventFits Gone (Acknowledges place other volume at blocks) = Unit {0}
  EventFits Gone (Shows place other volume at blocks) = Unit {0}
  EventFits Gone (Deletes place other) = Unit {0}
  EventFits Gone (Boots other up) = Unit {0}
  EventFits Gone (Unsettles other drive) = Unit {0}
  EventFits Gone Stops = Unit {0}
  EventFits Gone Crashes = Unit {0}

  log_fits : (Gone : SliceName → Type 0) (e : Event) → EventFits Gone e → AreAll (Fits g Gone) (log_events_at key e ++ [])
  log_fits Gone (Creation other identity) fits = elim (both_ways (same_key key other)) [ inl does ↦ rw does (tt, tt) | inr never ↦ rw never tt ]
  log_fits Gone (OfDatabase other identity e) fits = elim (both_ways (same_key key other)) [ inl does ↦ rw does (fits (sym (key_is key other does)), tt) | inr never ↦ rw never tt ]
  log_fits Gone (OfVolume other volume e) fits = tt
  log_fits Gone (Reads other volume at blocks) fits = tt
  log_fits Gone (Acknowledges place other volume at blocks) fits = tt
  log_fits Gone (Shows place other volume at blocks) fits = tt
  log_fits Gone (Deletes place other) fits = tt
  log_fits Gone (Boots other up) fits = tt
  log_fits Gone (Unsettles other drive) fits = tt
  log_fits Gone Stops fits = tt
  log_fits Gone Crashes fits = tt

  module _ (Gone : SliceName → Type 0) where
    kept_all : (lg : Log) (es : List log.Event) → IsLog g lg → log.IsCourse g lg es → AreAll (Fits g Gone) es → Kept g Gone lg.family → Kept g Gone (log.log_after_all lg es).family
    kept_all lg [] is course fits kept = kept
    kept_all lg (e ∷ es) is course fits kept = kept_all (log.log_after lg e) es (is_log_after g lg e is course.0) course.1 fits.1 (log_kept g Gone lg e is course.0 fits.0 kept)

    module _ (h : History) (c : Covered Gone h) where
      -- an event of the key's database formats nothing again
      database_none : (other : Key) (e : log.Event) (d : Database) → current_of h.databases other ≡ Some d → log.MayHappen g d.log e → (other ≡ key → Fits g Gone e) → NoneAgain (with_event other e h.databases)
      database_none other e d is may fits = event_none other e h.databases d is fresh c.none where
        fresh : d.key ≡ key → IsFresh d.log e
        fresh of_key =
            let same : other ≡ key = sym (current_key other h.databases d is) ∙ of_key in
            let own : log_of h.databases key ≡ d.log = ap log_in (subst (λ (k : Key). current_of h.databases k ≡ Some d) same is) in
            subst (λ (l : Log). IsFresh l e) own (log_fresh g Gone (log_of h.databases key) e c.is_log (subst (λ (l : Log). log.MayHappen g l e) (sym own) may) (fits same) c.kept)

      none_after : (e : Event) → MayHappen g h e → EventFits Gone e → NoneAgain (databases_after h.databases e)
      none_after (Creation other identity) may fits =
          one_more (record { key = other; identity = identity; log = log.log_after log.empty_log (log.Issued identity); over = false }) (with_over other h.databases) (λ of_key. All-nil (λ (a : log.Again). a.number ≡ 0)) (over_none other h.databases c.none)
      none_after (OfDatabase other identity e) may fits = database_none other e may.database may.current may.may fits
      none_after (OfVolume other volume e) may fits = c.none
      none_after (Reads other volume at blocks) may fits = c.none
      none_after (Acknowledges place other volume at blocks) may fits = c.none
      none_after (Shows place other volume at blocks) may fits = c.none
      none_after (Deletes place other) may fits = c.none
      none_after (Boots other up) may fits = c.none
      none_after (Unsettles other drive) may fits = c.none
      none_after Stops may fits = c.none
      none_after Crashes may fits = c.none

      covered_after : (e : Event) → MayHappen g h e → EventFits Gone e → Covered Gone (history_after h e)
      covered_after e may fits =
          let is = databases_live.is key g h (e ∷ []) (may, tt) in
          let course = databases_live.may key g h (e ∷ []) (may, tt) in
          record {
            none = none_after e may fits;
            is_log = subst (IsLog g) (sym is) (is_log_after_all g (log_of h.databases key) (log_events_of key (e ∷ [])) c.is_log course);
            kept = subst (λ (l : Log). Kept g Gone l.family) (sym is) (kept_all (log_of h.databases key) (log_events_of key (e ∷ [])) c.is_log course (log_fits Gone e fits) c.kept);
          }

    covered_all : (h : History) (es : List Event) → IsCourse g h es → AreAll (EventFits Gone) es → Covered Gone h → Covered Gone (history_after_all h es)
    covered_all h [] course fits c = c
    covered_all h (e ∷ es) course fits c = covered_all (history_after h e) es course.1 fits.1 (covered_after h c e course.0 fits.0)

  -- more may have been dropped
  covered_weaker : (Gone More : SliceName → Type 0) (h : History) → ((s : SliceName) → Gone s → More s) → Covered Gone h → Covered More h
  covered_weaker Gone More h weaker c = record {
    none = c.none;
    is_log = c.is_log;
    kept = λ v w found has written p begins. ⊎_elim (λ listed. inl listed) (λ gone. inr (weaker p.slice gone)) (c.kept v w found has written p begins);
  }

-- What a line asks of places fits what was dropped before, and by it.
adds_to : (change : Change) (places : List Place) (p : Place) → AddsThese change places → Contains places p → AddsTo change p.slice
adds_to (OfPlan change) places p is has = absurd (let none : Contains [] p = subst (λ (l : List Place). Contains l p) is has in omega (arith, none.1))
adds_to (AddPlaces slices count blocks) places p is has = places_lie slices count blocks p (subst (λ (l : List Place). Contains l p) is has)
adds_to (AddListed number) places p is has = tt
adds_to (DropPlaces slices) places p is has = absurd (let none : Contains [] p = subst (λ (l : List Place). Contains l p) is has in omega (arith, none.1))
adds_to FirstPlace places p is has = absurd (let none : Contains [] p = subst (λ (l : List Place). Contains l p) is has in omega (arith, none.1))

split_at : {X : Type 0} (xs : List X) (x : X) → Contains xs x → (front : List X) × (rest : List X) × (xs ≡ front ++ x ∷ rest)
split_at [] x has = absurd (omega (arith, has.1))
split_at {X} (y ∷ xs) x has = elim (first_or_behind y x xs has) [
  | inl here ↦ ([], xs, ap (λ (z : X). z ∷ xs) here)
  | inr behind ↦ (let parts = split_at xs x behind in (y ∷ parts.0, parts.1, ap (λ (l : List X). y ∷ l) parts.2))
]

-- of what is asked at once either no change adds places, or none drops some
abbrev IsOneWay : Key → List Deed → Type 0
IsOneWay key asked =
    ((change : Change) (s : SliceName) → Contains asked (Changed key change) → AddsTo change s → ⊥) ⊎ ((change : Change) (s : SliceName) → Contains asked (Changed key change) → DropsFrom change s → ⊥)

module _ (host : Host) where
  abbrev its : Key
  its = key_of host

  module _ (Gone : SliceName → Type 0) (asks : List Deed) (drops : (change : Change) (s : SliceName) → Contains asks (Changed its change) → DropsFrom change s → Gone s) (adds : (change : Change) (s : SliceName) → Contains asks (Changed its change) → AddsTo change s → Gone s → ⊥) where
    issue_fits : (e : log.Event) → log.IsIssue (IsOfRun host asks) e → Fits host.drives Gone e
    issue_fits (log.Issued identity) is = tt
    issue_fits (log.Writing mark None before table) is = tt
    issue_fits (log.Writing mark (Some change) before table) is = λ s dropped. drops change s is dropped
    issue_fits log.Written is = tt
    issue_fits (log.Told which before) is = tt
    issue_fits (log.Placing places) is = λ p has gone. adds is.0 p.slice is.1 (adds_to is.0 places p is.2 has) gone
    issue_fits log.Clearing is = tt
    issue_fits log.Gone is = tt

    events_fit : (es : List Event) → AreAll (IsIssue (IsOfRun host asks)) es → AreAll (EventFits host.drives its Gone) es
    events_fit [] are = tt
    events_fit (Creation key identity ∷ es) are = (tt, events_fit es are.1)
    events_fit (OfDatabase key identity e ∷ es) are = (λ same. issue_fits e are.0, events_fit es are.1)
    events_fit (OfVolume key volume e ∷ es) are = (tt, events_fit es are.1)
    events_fit (Reads key volume at blocks ∷ es) are = (tt, events_fit es are.1)
    events_fit (Acknowledges place key volume at blocks ∷ es) are = (tt, events_fit es are.1)
    events_fit (Shows place key volume at blocks ∷ es) are = (tt, events_fit es are.1)
    events_fit (Deletes place key ∷ es) are = (tt, events_fit es are.1)
    events_fit (Boots key up ∷ es) are = (tt, events_fit es are.1)
    events_fit (Unsettles key drive ∷ es) are = (tt, events_fit es are.1)
    events_fit (Stops ∷ es) are = absurd are.0
    events_fit (Crashes ∷ es) are = absurd are.0

  -- Events that are asked so lead from what was dropped before to what was dropped then.
  abbrev Leads : List Event → List Deed → Type 0
  Leads es asked = (before behind : List Deed) (h : History) → IsCourse host.drives h es → AddsNoneAgain its (before ++ (asked ++ behind)) → Covered host.drives its (MayHaveDropped its before) h
      → Covered host.drives its (MayHaveDropped its (before ++ asked)) (history_after_all h es)

  dropped_front : (before more : List Deed) (s : SliceName) → MayHaveDropped its before s → MayHaveDropped its (before ++ more) s
  dropped_front before more s dropped = (dropped.0, Contains-append_left before more (Changed its dropped.0) dropped.1, dropped.2)

  leads_line : (asks : List Deed) → IsOneWay its asks → (es : List Event) → AreAll (IsIssue (IsOfRun host asks)) es → Leads es asks
  leads_line asks way es are before behind h course fair c =
      covered_all host.drives its (MayHaveDropped its (before ++ asks)) h es course
      (events_fit (MayHaveDropped its (before ++ asks)) asks (λ change s has drops. (change, Contains-append_right before asks (Changed its change) has, drops)) (λ change s has adds gone. never way change s has adds gone) es are)
      (covered_weaker host.drives its (MayHaveDropped its before) (MayHaveDropped its (before ++ asks)) h (λ s dropped. dropped_front before asks s dropped) c)
    where
      earlier : (change : Change) (s : SliceName) → Contains asks (Changed its change) → AddsTo change s → MayHaveDropped its before s → ⊥
      earlier change s has adds dropped =
          let parts = split_at asks (Changed its change) has in
          let same : before ++ (asks ++ behind) ≡ (before ++ parts.0) ++ Changed its change ∷ (parts.1 ++ behind) =
          ap (λ (l : List Deed). before ++ (l ++ behind)) parts.2 ∙ ap (λ (l : List Deed). before ++ l) (append_assoc parts.0 (Changed its change ∷ parts.1) behind) ∙ sym (append_assoc before parts.0 (Changed its change ∷ (parts.1 ++ behind))) in
          fair (before ++ parts.0) (parts.1 ++ behind) change s same adds (dropped_front before parts.0 s dropped)

      never : IsOneWay its asks → (change : Change) (s : SliceName) → Contains asks (Changed its change) → AddsTo change s → MayHaveDropped its (before ++ asks) s → ⊥
      never (inl none) change s has adds gone = none change s has adds
      never (inr none) change s has adds gone = elim (Contains-append_cases before asks (Changed its gone.0) gone.1) [
        | inl early ↦ earlier change s has adds (gone.0, early, gone.2)
        | inr here ↦ none gone.0 s here gone.2
      ]

  leads_more : (es fs : List Event) (asked more : List Deed) → Leads es asked → Leads fs more → Leads (es ++ fs) (asked ++ more)
  leads_more es fs asked more one two before behind h course fair c =
      let next = one before (more ++ behind) h (course_front history_after (MayHappen host.drives) h es fs course) (subst (λ (l : List Deed). AddsNoneAgain its (before ++ l)) (append_assoc asked more behind) fair) c in
      let last = two (before ++ asked) behind (history_after_all h es) (course_rest history_after (MayHappen host.drives) h es fs course)
      (subst (AddsNoneAgain its) (ap (λ (l : List Deed). before ++ l) (append_assoc asked more behind) ∙ sym (append_assoc before asked (more ++ behind))) fair) next in
      subst (λ (x : History). Covered host.drives its (MayHaveDropped its (before ++ (asked ++ more))) x) (sym (after_more history_after h es fs))
      (subst (λ (l : List Deed). Covered host.drives its (MayHaveDropped its l) (history_after_all (history_after_all h es) fs)) (append_assoc before asked more) last)

  -- where nothing is asked
  none_in : (deed : Deed) → Contains [] deed → ⊥
  none_in deed has = omega (arith, has.1)

  way_none : IsOneWay its []
  way_none = inl (λ change s has adds. none_in (Changed its change) has)

  leads_idle : (es : List Event) → AreAll (IsIssue (IsOfRun host [])) es → Leads es []
  leads_idle es are = leads_line [] way_none es are

  leads_nothing : (es : List Event) → es ≡ [] → Leads es []
  leads_nothing es none = subst (λ (l : List Event). Leads l []) (sym none) (leads_idle [] tt)

  -- between two runs
  leads_between : (end : List Event) → IsBetween end → Leads end []
  leads_between end between before behind h course fair c =
      covered_all host.drives its (MayHaveDropped its (before ++ [])) h end course (fits between) (covered_weaker host.drives its (MayHaveDropped its before) (MayHaveDropped its (before ++ [])) h (λ s dropped. dropped_front before [] s dropped) c)
    where
      fits : IsBetween end → AreAll (EventFits host.drives its (MayHaveDropped its (before ++ []))) end
      fits (inl is) = subst (AreAll (EventFits host.drives its (MayHaveDropped its (before ++ [])))) (sym is) (tt, tt)
      fits (inr is) = subst (AreAll (EventFits host.drives its (MayHaveDropped its (before ++ [])))) (sym is) (tt, (tt, tt))

  -- what a line asks goes one way
  changed_is : (key : Key) (change other : Change) (asked : List Deed) → Contains (Changed key change ∷ asked) (Changed its other) → (change ≡ other) ⊎ Contains asked (Changed its other)
  changed_is key change other asked has = elim (first_or_behind (Changed key change) (Changed its other) asked has) [ inl same ↦ inl (cc (same)) | inr behind ↦ inr behind ]

  way_made : (key : Key) (change : Change) → ((s : SliceName) → DropsFrom change s → ⊥) → IsOneWay its (Created key ∷ Changed key change ∷ [])
  way_made key change none = inr (λ other s has drops. elim (first_or_behind (Created key) (Changed its other) (Changed key change ∷ []) has) [
    | inl same ↦ absurd (cc (same))
    | inr behind ↦ elim (changed_is key change other [] behind) [ inl is ↦ none s (subst (λ (c : Change). DropsFrom c s) (sym is) drops) | inr nothing ↦ none_in (Changed its other) nothing ]
  ])

  way_dropped : (key : Key) (change : Change) (force : Bool) → ((s : SliceName) → AddsTo change s → ⊥) → IsOneWay its (Changed key change ∷ (if force then Changed key FirstPlace ∷ Deleted key ∷ [] else []))
  way_dropped key change true none = inl (λ other s has adds. elim (changed_is key change other (Changed key FirstPlace ∷ Deleted key ∷ []) has) [
    | inl is ↦ none s (subst (λ (c : Change). AddsTo c s) (sym is) adds)
    | inr behind ↦ elim (changed_is key FirstPlace other (Deleted key ∷ []) behind) [
      | inl is ↦ absurd (subst (λ (c : Change). AddsTo c s) (sym is) adds)
      | inr last ↦ elim (first_or_behind (Deleted key) (Changed its other) [] last) [ inl same ↦ absurd (cc (same)) | inr nothing ↦ none_in (Changed its other) nothing ]
    ]
  ])
  way_dropped key change false none = inl (λ other s has adds. elim (changed_is key change other [] has) [ inl is ↦ none s (subst (λ (c : Change). AddsTo c s) (sym is) adds) | inr nothing ↦ none_in (Changed its other) nothing ])

  way_changed : (key : Key) (change : Change) → IsOneWay its (Changed key change ∷ [])
  way_changed key (OfPlan change) = way_dropped key (OfPlan change) false (λ s none. none)
  way_changed key (AddPlaces slices count blocks) = inr (λ other s has drops. elim (changed_is key (AddPlaces slices count blocks) other [] has) [ inl is ↦ absurd (subst (λ (c : Change). DropsFrom c s) (sym is) drops) | inr nothing ↦ none_in (Changed its other) nothing ])
  way_changed key (AddListed number) = inr (λ other s has drops. elim (changed_is key (AddListed number) other [] has) [ inl is ↦ absurd (subst (λ (c : Change). DropsFrom c s) (sym is) drops) | inr nothing ↦ none_in (Changed its other) nothing ])
  way_changed key (DropPlaces slices) = way_dropped key (DropPlaces slices) false (λ s none. none)
  way_changed key FirstPlace = way_dropped key FirstPlace false (λ s none. none)

  way_other : (deed : Deed) → ((change : Change) → deed ≡ Changed its change → ⊥) → IsOneWay its (deed ∷ [])
  way_other deed never = inl (λ change s has adds. elim (first_or_behind deed (Changed its change) [] has) [ inl same ↦ never change same | inr nothing ↦ none_in (Changed its change) nothing ])

  way_done : (deed : Deed) → IsOneWay its (deed ∷ [])
  way_done (Created key) = way_other (Created key) (λ change same. absurd (cc (same)))
  way_done (Changed key change) = way_changed key change
  way_done (Deleted key) = way_other (Deleted key) (λ change same. absurd (cc (same)))
  way_done (Wrote key volume at blocks) = way_other (Wrote key volume at blocks) (λ change same. absurd (cc (same)))
  way_done (Saw key volume at blocks) = way_other (Saw key volume at blocks) (λ change same. absurd (cc (same)))

  way_asked : (ask : Ask) → IsOneWay its (deeds ask)
  way_asked Nothing = way_none
  way_asked ToBoot = way_none
  way_asked (ToMake key lines count blocks) = way_made key _ (λ s none. none)
  way_asked (ToMakeListed key number) = way_made key (AddListed number) (λ s none. none)
  way_asked (ToDrop key slices force) = way_dropped key (DropPlaces slices) force (λ s none. none)
  way_asked (ToDo deed) = way_done deed
  way_asked (ToSee key volume at count) = way_none

  way_either : (lets : Bool) (asked : List Deed) → IsOneWay its asked → IsOneWay its (cond lets asked [])
  way_either true asked way = way
  way_either false asked way = way_none

  -- The events of some lines, what these may have begun, and that they lead so.
  record Went (Asked : List Deed → Type 0) (es : List Event) : Type 0 where
    asked : List Deed
    are_asked : Asked asked
    leads : Leads es asked

  work_went : (front : List ℕ) (down : Context) (script : Script) (es : List Event) → InWork host front down script es → Went (AreBegun host script [] front) es
  work_went front down at_end es work = record { asked = []; are_asked = refl; leads = leads_idle es work.issues }
  work_went front down (spent lines bytes) es work = record { asked = []; are_asked = refl; leads = leads_idle es work.issues }
  work_went front down (too_long more) es work = record { asked = []; are_asked = refl; leads = leads_idle es work.issues }
  work_went front down (line text more) es (inl none) = record { asked = []; are_asked = inl refl; leads = leads_nothing es none.1 }
  work_went front down (line text more) es (inr (known, work)) = record {
    asked = issuable_front work.ask front;
    are_asked = inr (work.ask, work.asks, refl);
    leads = leads_line (issuable_front work.ask front) (way_either (is_front_of ok_line front || is_front_of (refusal_line IoFault) front) (deeds work.ask) (way_asked work.ask)) es work.does.issues;
  }

  boot_went : (front : List ℕ) (down : Context) (script : Script) (es : List Event) → AtBoot down script es → Went (AreBegun host script [] front) es
  boot_went front down at_end es at = absurd at
  boot_went front down (spent lines bytes) es at = absurd at
  boot_went front down (too_long more) es at = absurd at
  boot_went front down (line text more) es at = record { asked = []; are_asked = inl refl; leads = leads_nothing es at.0 }

  both_went : (One Two Both : List Deed → Type 0) (es first rest : List Event) → es ≡ first ++ rest → (one : Went One first) (two : Went Two rest) → Both (one.asked ++ two.asked) → Went Both es
  both_went One Two Both es first rest is one two are = record { asked = one.asked ++ two.asked; are_asked = are; leads = subst (λ (l : List Event). Leads l (one.asked ++ two.asked)) (sym is) (leads_more first rest one.asked two.asked one.leads two.leads) }

  module _ (Left : Context → Script → List Event → Type 0) (front : List ℕ) (left : (down : Context) (script : Script) (es : List Event) → Left down script es → Went (AreBegun host script [] front) es) where
    come_went : (down : Context) (script : Script) (replies : List (List ℕ)) (es : List Event) → ComeOf host Left down script replies es → Went (AreBegun host script replies front) es
    come_went down script [] es come = left down script es come
    come_went down at_end (reply ∷ replies) es come = (let went = left down at_end es come in record { asked = went.asked; are_asked = went.are_asked; leads = went.leads })
    come_went down (spent lines bytes) (reply ∷ replies) es come = (let went = left down (spent lines bytes) es come in record { asked = went.asked; are_asked = went.are_asked; leads = went.leads })
    come_went down (too_long more) (reply ∷ replies) es come =
        let rest = come_went down more replies come.1 come.4 in
        both_went (λ asked. asked ≡ []) (AreBegun host more replies front) (AreBegun host (too_long more) (reply ∷ replies) front) es come.0 come.1 come.2 (record { asked = []; are_asked = refl; leads = leads_idle come.0 come.3.issues }) rest rest.are_asked
    come_went down (line text more) (reply ∷ replies) es come =
        let own = come.4 in
        let rest = come_went come.3 more replies come.1 come.6 in
        let asks = issuable own.ask reply in
        both_went (λ asked. asked ≡ asks) (AreBegun host more replies front) (AreBegun host (line text more) (reply ∷ replies) front) es come.0 come.1 come.2
        (record { asked = asks; are_asked = refl; leads = leads_line asks (way_either (bytes_eq reply ok_line || bytes_eq reply (refusal_line IoFault)) (deeds own.ask) (way_asked own.ask)) come.0 own.does.issues }) rest
        (own.ask, own.asks, rest.asked, rest.are_asked, refl)

    run_went : (script : Script) (replies : List (List ℕ)) (es : List Event) → AreOfRunBy host Left script replies es → Went (AreBegun host script replies front) es
    run_went script replies es run =
        let lines = come_went (Some []) script replies run.lines run.come in
        both_went (λ asked. asked ≡ []) (AreBegun host script replies front) (AreBegun host script replies front) es run.boot run.lines run.both (record { asked = []; are_asked = refl; leads = leads_idle run.boot run.idle.issues }) lines lines.are_asked

module _ (drives : Geometry) (name : List ℕ) where
  abbrev own : Host
  own = host_of drives name 0

  abbrev BegunBy : Ran → List Deed → Type 0
  BegunBy ran asked = OfHost name ran (AreBegun (host_of drives name ran.fresh) ran.script (replies_in ran.bytes) (left_in ran.bytes) asked) (asked ≡ [])

  host_went : (ran : Ran) (es : List Event) → OfHost name ran (AreOfRun (host_of drives name ran.fresh) ran.script ran.bytes es) (es ≡ []) → Went own (BegunBy ran) es
  host_went ran es (inl (same, run)) =
      let its_host = host_of drives name ran.fresh in
      let went = run_went its_host (InWork its_host (left_in ran.bytes)) (left_in ran.bytes) (work_went its_host (left_in ran.bytes)) ran.script (replies_in ran.bytes) es run in
      record { asked = went.asked; are_asked = inl (same, went.are_asked); leads = went.leads }
  host_went ran es (inr (differ, none)) = record { asked = []; are_asked = inr (differ, refl); leads = leads_nothing own es none }

  runs_went : (ran : List Ran) (es : List Event) → AreOfRuns drives name ran es → Went own (AreAsked drives name ran) es
  runs_went [] es none = record { asked = []; are_asked = refl; leads = leads_nothing own es none }
  runs_went (run ∷ before) es are =
      let old = runs_went before are.0 are.4 in
      let new = host_went run are.1 are.5 in
      let end : Went own (λ asked. asked ≡ []) are.2 = record { asked = []; are_asked = refl; leads = leads_between own are.2 are.6 } in
      let last = both_went own (BegunBy run) (λ asked. asked ≡ []) (BegunBy run) (are.1 ++ are.2) are.1 are.2 refl new end (subst (BegunBy run) (sym (append-nil new.asked)) new.are_asked) in
      both_went own (AreAsked drives name before) (BegunBy run) (AreAsked drives name (run ∷ before)) es are.0 (are.1 ++ are.2) are.3 old last (old.asked, old.are_asked, last.asked, last.are_asked, refl)

  abbrev view : Geometry
  view = own_view drives name

  abbrev key : Key
  key = Local name

  new_covered : Covered view key (MayHaveDropped key []) new_history
  new_covered = record { none = λ d has. absurd (omega (arith, has.1)); is_log = empty_is_log view; kept = λ v w found has. absurd (omega (arith, has.1)) }

  -- a boot of a covered history meets no stale vote
  never_meets : (Gone : SliceName → Type 0) (fresh : ℕ) (h : History) (t : Tale) → Covered view key Gone h → MeetsStaleAt (host_of drives name fresh) h t → ⊥
  never_meets Gone fresh h t c met =
      let stale = met.1 in
      none_stale (site_of view key) stale.database.log stale.seen stale.mark (c.none stale.database stale.one_of stale.of_key) stale.stale

  module _ (ran : List Ran) (fresh : ℕ) (script : Script) (t m : Tale) (fair : LinesAddNoneAgain drives name ran fresh script t m) (made : Image) (history : IsHistoryOf drives name made ran t) where
    abbrev earlier : Went own (AreAsked drives name ran) history.es
    earlier = runs_went ran history.es history.come

    abbrev then_history : History
    then_history = history_after_all new_history history.es

    covered : Covered view key (MayHaveDropped key earlier.asked) then_history
    covered = earlier.leads [] [] new_history (may_course own new_history history.es history.course) (subst (AddsNoneAgain key) (sym (append-nil earlier.asked)) (fair earlier.asked earlier.are_asked).0) new_covered

    met_none : HasMetInRun (host_of drives name fresh) script t m then_history → ⊥
    met_none (inl met) = never_meets (MayHaveDropped key earlier.asked) fresh then_history t covered met
    met_none (inr behind) =
        let its_host = host_of drives name fresh in
        let went = run_went its_host AtBoot (left_in behind.bytes) (boot_went its_host (left_in behind.bytes)) script (replies_in behind.bytes) behind.met.es behind.met.come in
        let none = (fair earlier.asked earlier.are_asked).1 behind.began behind.bytes went.asked behind.since behind.before behind.is_told went.are_asked in
        let same : earlier.asked ++ went.asked ≡ earlier.asked ++ (went.asked ++ []) = ap (λ (l : List Deed). earlier.asked ++ l) (sym (append-nil went.asked)) in
        never_meets (MayHaveDropped key (earlier.asked ++ went.asked)) fresh (history_after_all then_history behind.met.es) behind.began
        (went.leads earlier.asked [] then_history (may_course its_host then_history behind.met.es behind.met.course) (subst (AddsNoneAgain key) same none) covered) behind.met.after

pub fair_lines_meet_none : FairLinesMeetNone
fair_lines_meet_none = λ drives name ran fresh script t m fair made history. met_none drives name ran fresh script t m fair made history
