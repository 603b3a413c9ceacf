-- As long as no end of a key's database begins, it lives, and what was answered stays firm.
use Rattle.std.proofs.Common.{◌≡◌, inl, inr, true, List, [], ◌∷◌, ◌++◌, sym, subst, Contains}
use Rattle.std.proofs.lemmas.List.Elements.{Contains-append_left, Contains-append_right}
use Rattle.mdv_shelf.proofs.Blocks.{both_ways}
use Rattle.mdv_store_law.specs.Log as log
use Rattle.mdv_store_law.specs.Machine.{AreAll}
use Rattle.mdv_store_law.proofs.Fates.{BeginsNoEnd, stays_alive_all}
use Rattle.mdv_store_law.proofs.Logs.{firm_stays_all}
use Rattle.mdv_store_law.proofs.Machine.{all_more}
use Rattle.mdv_databases.proofs.Lists.{key_is}
use Rattle.mdv_volumes.specs.Below.{Geometry, Key, Log, is_firm}
use Rattle.mdv_volumes.specs.Databases.{log_of, same_key}
use Rattle.mdv_volumes.specs.Happening.{IsCourse, begins, begun_at, issued_by}
use Rattle.mdv_volumes.specs.History.{Acknowledges, Boots, Crashes, Creation, Deed, Deleted, Deletes, Event, History, OfDatabase, OfVolume, Reads, Shows, Stops, Unsettles, history_after_all}
use Rattle.mdv_volumes.specs.HistoryLaws.{HasFirm, KeepDatabase, log_events_at, log_events_of}
use Rattle.mdv_volumes.proofs.Keys.{databases_live}
use Rattle.mdv_volumes.proofs.Lists.{all_both, contains_first}

-- what is begun by some events is begun by more
pub begun_front : (es fs : List Event) (deed : Deed) → Contains (issued_by es) deed → Contains (issued_by (es ++ fs)) deed
begun_front es fs deed has = subst (λ (l : List Deed). Contains l deed) (sym (all_more begins es fs)) (Contains-append_left (issued_by es) (issued_by fs) deed has)

pub begun_rest : (es fs : List Event) (deed : Deed) → Contains (issued_by fs) deed → Contains (issued_by (es ++ fs)) deed
begun_rest es fs deed has = subst (λ (l : List Deed). Contains l deed) (sym (all_more begins es fs)) (Contains-append_right (issued_by es) (issued_by fs) deed has)

module _ (key : Key) where
  pub own_begins : (e : log.Event) → (Contains (begun_at key e) (Deleted key) → ⊥) → BeginsNoEnd e
  own_begins (log.Issued identity) keep = tt
  own_begins (log.Writing mark asked before table) keep = tt
  own_begins log.Written keep = tt
  own_begins (log.Told which before) keep = tt
  own_begins (log.Placing places) keep = tt
  own_begins log.Clearing keep = keep (contains_first (Deleted key) [])
  own_begins log.Gone keep = tt

  one_begins : (e : Event) → (Contains (begins e) (Deleted key) → ⊥) → AreAll BeginsNoEnd (log_events_at key e)
  one_begins (Creation other identity) keep = elim (both_ways (same_key key other)) [ inl does ↦ rw does (tt, tt) | inr never ↦ rw never tt ]
  one_begins (OfDatabase other identity e) keep = elim (both_ways (same_key key other)) [
    | inl does ↦ rw does (own_begins e (subst (λ (k : Key). Contains (begun_at k e) (Deleted key) → ⊥) (sym (key_is key other does)) keep), tt)
    | inr never ↦ rw never tt
  ]
  one_begins (OfVolume other volume e) keep = tt
  one_begins (Reads other volume at blocks) keep = tt
  one_begins (Acknowledges place other volume at blocks) keep = tt
  one_begins (Shows place other volume at blocks) keep = tt
  one_begins (Deletes place other) keep = tt
  one_begins (Boots other up) keep = tt
  one_begins (Unsettles other drive) keep = tt
  one_begins Stops keep = tt
  one_begins Crashes keep = tt

  pub keep_front : (es fs : List Event) → KeepDatabase key (es ++ fs) → KeepDatabase key es
  keep_front es fs keep has = keep (begun_front es fs (Deleted key) has)

  pub keep_rest : (es fs : List Event) → KeepDatabase key (es ++ fs) → KeepDatabase key fs
  keep_rest es fs keep has = keep (begun_rest es fs (Deleted key) has)

  -- so it is of the events of its log
  pub none_begins : (es : List Event) → KeepDatabase key es → AreAll BeginsNoEnd (log_events_of key es)
  none_begins [] keep = tt
  none_begins (e ∷ es) keep =
      all_both BeginsNoEnd (log_events_at key e) (log_events_of key es) (one_begins e (λ has. keep (Contains-append_left (begins e) (issued_by es) (Deleted key) has)))
      (none_begins es (λ has. keep (Contains-append_right (begins e) (issued_by es) (Deleted key) has)))

  -- a database of which a table was answered is there
  pub firm_lasts : (g : Geometry) (h : History) (es : List Event) → IsCourse g h es → KeepDatabase key es → HasFirm key h → HasFirm key (history_after_all h es)
  firm_lasts g h es course keep firm =
      let own = log_of h.databases key in
      let events = log_events_of key es in
      let may = databases_live.may key g h es course in
      subst (λ (l : Log). (l.fate ≡ log.Lives) × (is_firm l ≡ true)) (sym (databases_live.is key g h es course))
      (stays_alive_all g own events may (none_begins es keep) firm.0, firm_stays_all g own events may (none_begins es keep) firm.0 firm.1)
