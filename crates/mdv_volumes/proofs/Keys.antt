-- What a history says of one key's log is what happened to that log.
use Rattle.std.proofs.Common.{append_assoc, ◌≡◌, ◌⊎◌, inl, inr, true, false, List, [], ◌∷◌, ◌++◌, Option, Some, None, map, refl, sym, ◌∙◌, ap, subst}
use Rattle.mdv_shelf.proofs.Blocks.{both_ways}
use Rattle.mdv_store_law.specs.Log as log
use Rattle.mdv_store_law.proofs.Machine.{after_more, course_more}
use Rattle.mdv_databases.proofs.Creating.{creation_elsewhere, creation_here}
use Rattle.mdv_databases.proofs.Lists.{events_elsewhere, events_log, key_differs, key_is}
use Rattle.mdv_volumes.specs.Below.{Change, Geometry, Identity, Key, Log, VolId, is_firm}
use Rattle.mdv_volumes.specs.Databases.{Database, current_of, log_in, log_of, same_key, with_creation, with_event}
use Rattle.mdv_volumes.specs.Happening.{IsCourse, IsOfCurrent, IsOver, MayHappen, ends_of, begun_at, deed_of, issued_by, told_by}
use Rattle.mdv_volumes.specs.History.{Acknowledges, Boots, Crashes, Creation, Deed, Deletes, Event, History, OfDatabase, OfVolume, Reads, Shows, Stops, Unsettles, databases_after, history_after, history_after_all}
use Rattle.mdv_volumes.specs.HistoryLaws.{DatabasesLive, database_deeds, log_events_at, log_events_of}
use Rattle.mdv_volumes.specs.Happening.{begun_of}
use Rattle.mdv_volumes.specs.Events.{Answers, Begins, Flushes, Issues, VolumeEvent, Woke}
use Rattle.mdv_volumes.specs.Events as lives

module _ (key : Key) where
  other_key : (other : Key) → same_key key other ≡ false → other ≡ key → ⊥
  other_key other never same = key_differs key other never (sym same)

  its_creation : (other : Key) (identity : Identity) → same_key key other ≡ true → log_events_at key (Creation other identity) ≡ log.Issued identity ∷ []
  its_creation other identity is = rw is refl

  no_creation : (other : Key) (identity : Identity) → same_key key other ≡ false → log_events_at key (Creation other identity) ≡ []
  no_creation other identity never = rw never refl

  created_log : (ds : List Database) (other : Key) (identity : Identity) → log_of (with_creation other identity ds) key ≡ log.log_after_all (log_of ds key) (log_events_at key (Creation other identity))
  created_log ds other identity = elim (both_ways (same_key key other)) [
    | inl does ↦
        subst (λ (k : Key). log_of (with_creation k identity ds) key ≡ log.log_after (log_of ds key) (log.Issued identity)) (key_is key other does) (ap log_in (creation_here key identity ds))
        ∙ ap (λ (l : List log.Event). log.log_after_all (log_of ds key) l) (sym (its_creation other identity does))
    | inr never ↦
        ap log_in (creation_elsewhere other identity ds key (other_key other never)) ∙ ap (λ (l : List log.Event). log.log_after_all (log_of ds key) l) (sym (no_creation other identity never))
  ]

  event_log : (ds : List Database) (other : Key) (identity : Identity) (e : log.Event) (d : Database) → current_of ds other ≡ Some d → log_of (with_event other e ds) key ≡ log.log_after_all (log_of ds key) (log_events_at key (OfDatabase other identity e))
  event_log ds other identity e d is = elim (both_ways (same_key key other)) [
    | inl does ↦
        let same = key_is key other does in
        let here : current_of ds key ≡ Some d = subst (λ (k : Key). current_of ds k ≡ Some d) (sym same) is in
        rw does (subst (λ (k : Key). log_of (with_event k e ds) key ≡ log.log_after (log_of ds key) e) same (events_log key (e ∷ []) ds d here))
    | inr never ↦ rw never (ap log_in (events_elsewhere other (e ∷ []) ds key (other_key other never)))
  ]

  log_step : (g : Geometry) (h : History) (e : Event) → MayHappen g h e → log_of (databases_after h.databases e) key ≡ log.log_after_all (log_of h.databases key) (log_events_at key e)
  log_step g h (Creation other identity) may = created_log h.databases other identity
  log_step g h (OfDatabase other identity e) may = event_log h.databases other identity e may.database may.current
  log_step g h (OfVolume other volume e) may = refl
  log_step g h (Reads other volume at blocks) may = refl
  log_step g h (Acknowledges place other volume at blocks) may = refl
  log_step g h (Shows place other volume at blocks) may = refl
  log_step g h (Deletes place other) may = refl
  log_step g h (Boots other up) may = refl
  log_step g h (Unsettles other drive) may = refl
  log_step g h Stops may = refl
  log_step g h Crashes may = refl

  log_all : (g : Geometry) (h : History) (es : List Event) → IsCourse g h es → log_of (history_after_all h es).databases key ≡ log.log_after_all (log_of h.databases key) (log_events_of key es)
  log_all g h [] course = refl
  log_all g h (e ∷ es) course =
      log_all g (history_after h e) es course.1 ∙ ap (λ (l : Log). log.log_after_all l (log_events_of key es)) (log_step g h e course.0)
      ∙ sym (after_more log.log_after (log_of h.databases key) (log_events_at key e) (log_events_of key es))

  module _ (g : Geometry) where
    event_may : (h : History) (other : Key) (identity : Identity) (e : log.Event) → IsOfCurrent g h.databases other identity e → log.IsCourse g (log_of h.databases key) (log_events_at key (OfDatabase other identity e))
    event_may h other identity e may = elim (both_ways (same_key key other)) [
      | inl does ↦
          let same = key_is key other does in
          let here : log_of h.databases key ≡ may.database.log = ap (λ (k : Key). log_of h.databases k) same ∙ ap log_in may.current in
          rw does (subst (λ (l : Log). log.MayHappen g l e) (sym here) may.may, tt)
      | inr never ↦ rw never tt
    ]

    may_step : (h : History) (e : Event) → MayHappen g h e → log.IsCourse g (log_of h.databases key) (log_events_at key e)
    may_step h (Creation other identity) may = elim (both_ways (same_key key other)) [
      | inl does ↦ rw does (subst (λ (k : Key). (is_firm (log_of h.databases k) ≡ false) ⊎ IsOver h.databases k) (sym (key_is key other does)) may.free, tt)
      | inr never ↦ rw never tt
    ]
    may_step h (OfDatabase other identity e) may = event_may h other identity e may
    may_step h (OfVolume other volume e) may = tt
    may_step h (Reads other volume at blocks) may = tt
    may_step h (Acknowledges place other volume at blocks) may = tt
    may_step h (Shows place other volume at blocks) may = tt
    may_step h (Deletes place other) may = tt
    may_step h (Boots other up) may = tt
    may_step h (Unsettles other drive) may = tt
    may_step h Stops may = tt
    may_step h Crashes may = tt

    may_all : (h : History) (es : List Event) → IsCourse g h es → log.IsCourse g (log_of h.databases key) (log_events_of key es)
    may_all h [] course = tt
    may_all h (e ∷ es) course =
        course_more log.log_after (log.MayHappen g) (log_of h.databases key) (log_events_at key e) (log_events_of key es) (may_step h e course.0)
        (subst (λ (l : Log). log.IsCourse g l (log_events_of key es)) (log_step g h e course.0) (may_all (history_after h e) es course.1))

  -- what is told of one database, or begun, and more behind it
  deeds_more : (other : Key) (some : List (Option Change)) (deeds : List Deed) → same_key key other ≡ true → database_deeds key (map (deed_of other) some ++ deeds) ≡ some ++ database_deeds key deeds
  deeds_more other [] deeds is = refl
  deeds_more other (None ∷ some) deeds is = rw is (ap (λ (l : List (Option Change)). None ∷ l) (deeds_more other some deeds is))
  deeds_more other (Some change ∷ some) deeds is = rw is (ap (λ (l : List (Option Change)). Some change ∷ l) (deeds_more other some deeds is))

  deeds_none : (other : Key) (some : List (Option Change)) (deeds : List Deed) → same_key key other ≡ false → database_deeds key (map (deed_of other) some ++ deeds) ≡ database_deeds key deeds
  deeds_none other [] deeds is = refl
  deeds_none other (None ∷ some) deeds is = rw is (deeds_none other some deeds is)
  deeds_none other (Some change ∷ some) deeds is = rw is (deeds_none other some deeds is)

  tells_all : (es : List Event) → log.told_by (log_events_of key es) ≡ database_deeds key (told_by es)
  tells_all [] = refl
  tells_all (Creation other identity ∷ es) = elim (both_ways (same_key key other)) [ inl does ↦ rw does (tells_all es) | inr never ↦ rw never (tells_all es) ]
  tells_all (OfDatabase other identity e ∷ es) = elim (both_ways (same_key key other)) [
    | inl does ↦ rw does (ap (λ (l : List (Option Change)). log.tells e ++ l) (tells_all es) ∙ sym (deeds_more other (log.tells e) (told_by es) does))
    | inr never ↦ rw never (tells_all es ∙ sym (deeds_none other (log.tells e) (told_by es) never))
  ]
  tells_all (OfVolume other volume e ∷ es) = tells_all es
  tells_all (Reads other volume at blocks ∷ es) = tells_all es
  tells_all (Acknowledges place other volume at blocks ∷ es) = tells_all es
  tells_all (Shows place other volume at blocks ∷ es) = tells_all es
  tells_all (Deletes place other ∷ es) = tells_all es
  tells_all (Boots other up ∷ es) = tells_all es
  tells_all (Unsettles other drive ∷ es) = tells_all es
  tells_all (Stops ∷ es) = tells_all es
  tells_all (Crashes ∷ es) = tells_all es

  -- a volume's events begin no deed of a database
  of_volume : (other : Key) (volume : VolId) (e : VolumeEvent) (deeds : List Deed) → database_deeds key (begun_of other volume e ++ deeds) ≡ database_deeds key deeds
  of_volume other volume (Issues at blocks) deeds = refl
  of_volume other volume (Answers at blocks) deeds = refl
  of_volume other volume (Flushes at count) deeds = refl
  of_volume other volume (Begins from logs) deeds = refl
  of_volume other volume lives.Crashes deeds = refl
  of_volume other volume (Woke count content) deeds = refl

  -- nor is its end a creation or a change
  of_end : (other : Key) (e : log.Event) (deeds : List Deed) → database_deeds key (ends_of other e ++ deeds) ≡ database_deeds key deeds
  of_end other (log.Issued identity) deeds = refl
  of_end other (log.Writing mark asked before table) deeds = refl
  of_end other log.Written deeds = refl
  of_end other (log.Told which before) deeds = refl
  of_end other (log.Placing places) deeds = refl
  of_end other log.Clearing deeds = refl
  of_end other log.Gone deeds = refl

  -- what an event of a database begins, and more behind it
  begun_more : (other : Key) (e : log.Event) (deeds : List Deed) → database_deeds key (begun_at other e ++ deeds) ≡ database_deeds key (map (deed_of other) (log.begins e) ++ (ends_of other e ++ deeds))
  begun_more other e deeds = ap (database_deeds key) (append_assoc (map (deed_of other) (log.begins e)) (ends_of other e) deeds)

  begins_all : (es : List Event) → log.begun_by (log_events_of key es) ≡ database_deeds key (issued_by es)
  begins_all [] = refl
  begins_all (Creation other identity ∷ es) = elim (both_ways (same_key key other)) [
    | inl does ↦ rw does (ap (λ (l : List (Option Change)). None ∷ l) (begins_all es))
    | inr never ↦ rw never (begins_all es)
  ]
  begins_all (OfDatabase other identity e ∷ es) = elim (both_ways (same_key key other)) [
    | inl does ↦
        let its = begun_more other e (issued_by es) ∙ deeds_more other (log.begins e) (ends_of other e ++ issued_by es) does ∙ ap (λ (l : List (Option Change)). log.begins e ++ l) (of_end other e (issued_by es)) in
        rw does (ap (λ (l : List (Option Change)). log.begins e ++ l) (begins_all es) ∙ sym its)
    | inr never ↦
        let its = begun_more other e (issued_by es) ∙ deeds_none other (log.begins e) (ends_of other e ++ issued_by es) never ∙ of_end other e (issued_by es) in
        rw never (begins_all es ∙ sym its)
  ]
  begins_all (OfVolume other volume e ∷ es) = begins_all es ∙ sym (of_volume other volume e (issued_by es))
  begins_all (Reads other volume at blocks ∷ es) = begins_all es
  begins_all (Acknowledges place other volume at blocks ∷ es) = begins_all es
  begins_all (Shows place other volume at blocks ∷ es) = begins_all es
  begins_all (Deletes place other ∷ es) = begins_all es
  begins_all (Boots other up ∷ es) = begins_all es
  begins_all (Unsettles other drive ∷ es) = begins_all es
  begins_all (Stops ∷ es) = begins_all es
  begins_all (Crashes ∷ es) = begins_all es

pub databases_live : DatabasesLive
databases_live = record {
  is = λ key g h es course. log_all key g h es course;
  may = λ key g h es course. may_all key g h es course;
  tells = λ key es. tells_all key es;
  begins = λ key es. begins_all key es;
}
