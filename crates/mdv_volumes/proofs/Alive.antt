-- As long as no end of a key's database begins, none that was ever begun of the key is about to be deleted, or was.
use Rattle.std.proofs.Common.{◌≡◌, inl, inr, Bool, true, false, not, if◌then◌else◌, List, [], ◌∷◌, Some, Contains, refl, sym, ◌∙◌, subst}
use Rattle.std.proofs.lemmas.Bool.{and_parts}
use Rattle.std.proofs.lemmas.List.Elements.{Contains-append_left, Contains-append_right}
use Rattle.mdv_store_law.specs.Log as log
use Rattle.mdv_store_law.proofs.Fates.{BeginsNoEnd, stays_alive}
use Rattle.mdv_databases.specs.Booting.{AllLive}
use Rattle.mdv_databases.proofs.Lists.{key_is, some_same}
use Rattle.mdv_volumes.specs.Below.{Geometry, Key}
use Rattle.mdv_volumes.specs.Databases.{Database, current_of, is_current, same_key, with_event, with_over}
use Rattle.mdv_volumes.specs.Happening.{IsCourse, MayHappen, begins, begun_at, issued_by}
use Rattle.mdv_volumes.specs.History.{Acknowledges, Boots, Crashes, Creation, Deleted, Deletes, Event, History, OfDatabase, OfVolume, Reads, Shows, Stops, Unsettles, databases_after, history_after, history_after_all}
use Rattle.mdv_volumes.specs.HistoryLaws.{KeepDatabase}
use Rattle.mdv_volumes.proofs.Ending.{own_begins}
use Rattle.mdv_volumes.proofs.Lists.{contains_behind, contains_first, first_or_behind}

module _ (key : Key) where
  one_more : (x : Database) (ds : List Database) → (x.key ≡ key → x.log.fate ≡ log.Lives) → AllLive ds key → AllLive (x ∷ ds) key
  one_more x ds own each d has = elim (first_or_behind x d ds has) [
    | inl here ↦ subst (λ (y : Database). y.key ≡ key → y.log.fate ≡ log.Lives) here own
    | inr there ↦ each d there
  ]

  rest_of : (x : Database) (ds : List Database) → AllLive (x ∷ ds) key → AllLive ds key
  rest_of x ds each d has = each d (contains_behind x d ds has)

  pub over_lives : (other : Key) (ds : List Database) → AllLive ds key → AllLive (with_over other ds) key
  over_lives other [] each = each
  over_lives other (x ∷ ds) each = by (is_current other x) (over_lives other ds (rest_of x ds each)) where
    by : (is : Bool) → AllLive (with_over other ds) key → AllLive (if is then record x { over = true } ∷ ds else x ∷ with_over other ds) key
    by true rest = one_more (record x { over = true }) ds (each x (contains_first x ds)) (rest_of x ds each)
    by false rest = one_more x (with_over other ds) (each x (contains_first x ds)) rest

  module _ (g : Geometry) (other : Key) (e : log.Event) (none : other ≡ key → BeginsNoEnd e) where
    event_lives : (ds : List Database) (d : Database) → current_of ds other ≡ Some d → log.MayHappen g d.log e → AllLive ds key → AllLive (with_event other e ds) key
    event_lives [] d is may each = each
    event_lives (x ∷ ds) d is may each = by (is_current other x) refl is (λ behind. event_lives ds d behind may (rest_of x ds each)) where
      by : (b : Bool) → is_current other x ≡ b → (if b then Some x else current_of ds other) ≡ Some d → (current_of ds other ≡ Some d → AllLive (with_event other e ds) key)
          → AllLive (if b then record x { log = log.log_after x.log e } ∷ ds else x ∷ with_event other e ds) key
      by true does same rest =
          let here : x ≡ d = some_same x d same in
          let of_other : other ≡ x.key = key_is other x.key (and_parts (same_key other x.key) (not x.over) does).0 in
          one_more (record x { log = log.log_after x.log e }) ds
          (λ of_key. stays_alive g x.log e (subst (λ (y : Database). log.MayHappen g y.log e) (sym here) may) (none (of_other ∙ of_key)) (each x (contains_first x ds) of_key)) (rest_of x ds each)
      by false never same rest = one_more x (with_event other e ds) (each x (contains_first x ds)) (rest same)

  step_lives : (g : Geometry) (h : History) (e : Event) → MayHappen g h e → (Contains (begins e) (Deleted key) → ⊥) → AllLive h.databases key → AllLive (databases_after h.databases e) key
  step_lives g h (Creation other identity) may keep each =
      one_more (record { key = other; identity = identity; log = log.log_after log.empty_log (log.Issued identity); over = false }) (with_over other h.databases) (λ of_key. refl) (over_lives other h.databases each)
  step_lives g h (OfDatabase other identity e) may keep each =
      event_lives g other e (λ same. own_begins key e (subst (λ (k : Key). Contains (begun_at k e) (Deleted key) → ⊥) same keep)) h.databases may.database may.current may.may each
  step_lives g h (OfVolume other volume e) may keep each = each
  step_lives g h (Reads other volume at blocks) may keep each = each
  step_lives g h (Acknowledges place other volume at blocks) may keep each = each
  step_lives g h (Shows place other volume at blocks) may keep each = each
  step_lives g h (Deletes place other) may keep each = each
  step_lives g h (Boots other up) may keep each = each
  step_lives g h (Unsettles other drive) may keep each = each
  step_lives g h Stops may keep each = each
  step_lives g h Crashes may keep each = each

  pub each_lives : (g : Geometry) (h : History) (es : List Event) → IsCourse g h es → KeepDatabase key es → AllLive h.databases key → AllLive (history_after_all h es).databases key
  each_lives g h [] course keep each = each
  each_lives g h (e ∷ es) course keep each =
      each_lives g (history_after h e) es course.1 (λ has. keep (Contains-append_right (begins e) (issued_by es) (Deleted key) has))
      (step_lives g h e course.0 (λ has. keep (Contains-append_left (begins e) (issued_by es) (Deleted key) has)) each)
