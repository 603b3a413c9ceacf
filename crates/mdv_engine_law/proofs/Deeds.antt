-- Telling a deed is one event, which leaves the open database open: what was known is known.
use Rattle.std.proofs.Common.{◌≡◌, inl, inr, List, [], ◌∷◌, Option, Some, None, refl, sym, ◌∙◌, ap, subst, arith}
use Rattle.mdv_databases.proofs.Lists.{current_in, events_cases, events_elsewhere, key_differs, key_is}
use Rattle.mdv_databases.proofs.Telling.{told_open, told_stand}
use Rattle.mdv_databases.specs.Going.{IsCurrentOf, with_events}
use Rattle.mdv_databases.specs.Standing.{IsFree, Stand}
use Rattle.mdv_shelf.proofs.Everywhere.{last_image}
use Rattle.mdv_databases.specs.Lasting.{AreFreed}
use Rattle.mdv_engine_law.specs.Below.{last, Acknowledges, CanTell, Change, Changed, Created, Database, Deed, Deleted, Deletes, Drives, Event, Geometry, Happens, History, IsOpenIn, Key, KeptOutside, OfDatabase, Opened, Saw, Shows, Tale, VolId, Wrote, history_after, nowhere, site_area, site_of}
use Rattle.mdv_shelf.proofs.Blocks.{both_ways}
use Rattle.mdv_shelf.proofs.Frame.{kept_outside_same}
use Rattle.mdv_store_law.specs.Log as log
use Rattle.mdv_plan.specs.declared.table.Table.{Table}
use Rattle.mdv_volumes.specs.Databases.{current_of, log_in, same_key, with_event}
use Rattle.mdv_volumes.specs.Happening.{IsIssue, deed_of}
use Rattle.mdv_volumes.specs.HistoryLaws.{IsAsked, IsTellable, identity_in}
use Rattle.mdv_volumes.proofs.Databases.{current_some}
use Rattle.mdv_volumes.proofs.Lifting.{databases_go}
use Rattle.mdv_volumes.proofs.Telling.{one_deed}
use Rattle.mdv_engine_law.specs.declared.host.Host.{Host}
use Rattle.mdv_engine_law.specs.Awake.{IsAwakeAt}
use Rattle.mdv_engine_law.specs.Hosts.{key_of}
use Rattle.mdv_engine_law.specs.Line.{Memory}
use Rattle.mdv_engine_law.specs.Standing.{AreOwn, StandsAt, Goes, IsKnown, IsOfRun, CanTellAll}
use Rattle.mdv_engine_law.proofs.Going.{goes_none, happened, happened_stands}
use Rattle.mdv_engine_law.proofs.Knowing.{stands_kept, known_kept, known_on}
use Rattle.mdv_engine_law.proofs.Owning.{own_gone, own_still}

-- an open database stays open where another one's log goes on
open_beside : (g : Geometry) (all : List Database) (o : Opened) (key : Key) (e : log.Event) (m : Tale) → (key ≡ o.key → ⊥) → IsOpenIn g o all m → IsOpenIn g o (with_event key e all) m
open_beside g all o key e m differ is =
    let same = events_elsewhere key (e ∷ []) all o.key differ in
    record {
      its = record { database = is.its.database; current = same ∙ is.its.current; as_begun = is.its.as_begun };
      lives = rw (ap log_in same) is.lives;
      newest = rw (ap log_in same) is.newest;
      ready = rw (ap log_in same) is.ready;
      opened = is.opened;
    }

-- and where it is told of
open_told : (g : Geometry) (all : List Database) (o : Opened) (key : Key) (which before : List Change) (m : Tale) → IsOpenIn g o all m → IsOpenIn g o (with_event key (log.Told which before) all) m
open_told g all o key which before m is = elim (both_ways (same_key key o.key)) [
  | inl does ↦ subst (λ (k : Key). IsOpenIn g o (with_event k (log.Told which before) all) m) (sym (key_is key o.key does)) (told_open which before g all o m is)
  | inr never ↦ open_beside g all o key (log.Told which before) m (key_differs key o.key never) is
]

-- what is told of a database changes nothing about whether another one may be created
told_freed : (g : Geometry) (all : List Database) (key other : Key) (which before : List Change) (v : Tale) (d : Database) → Stand g all v → current_of all key ≡ Some d → AreFreed g all other v → AreFreed g (with_events key (log.Told which before ∷ []) all) other v
told_freed g all key other which before v d stand current free x has keyed = elim (events_cases key (log.Told which before ∷ []) all d (stand.worlds (last v) (last_image v)).once current x has) [
  | inl here ↦ subst (λ (z : Database). IsFree g z v) here (free d (current_in key all d current) (ap (λ (z : Database). z.key) here ∙ keyed))
  | inr was ↦ free x was.0 keyed
]

module _ (host : Host) (memory : Memory) (u v : Tale) (kept : KeptOutside nowhere u v) (h : History) (known : IsKnown host memory h u) where
  abbrev pub Known : List Event → History → Type 0
  Known es after = IsKnown host memory after v

  here : StandsAt host h v
  here = stands_kept host u v kept h known.stands

  -- one event that tells a deed
  tells : (deed : Deed) (e : Event) → Happens host.drives h (e ∷ []) [] (deed ∷ []) v → IsAwakeAt host.drives h e → IsIssue (IsOfRun host []) e → AreOwn host memory.begun (history_after h e) → ((o : Opened) → IsOpenIn host.drives o h.databases v → IsOpenIn host.drives o (history_after h e).databases v)
      → (AreFreed host.drives h.databases (key_of host) v → AreFreed host.drives (history_after h e).databases (key_of host) v) → (history_after h e).woken ≡ h.woken → (history_after h e).up ≡ h.up → Goes host [] (deed ∷ []) Known v h
  tells deed e happens awake issue its still freed woken up =
      happened host [] [] (deed ∷ []) v h (e ∷ []) happens (issue, tt) Known (awake, tt) tt
      (known_on host memory h (history_after h e) v (happened_stands host [] [] (deed ∷ []) v h (e ∷ []) happens (issue, tt)) its still freed (ap (λ (drives : Key → Drives). drives (key_of host)) up) (λ volume. ap (λ (w : Key → VolId → _). w (key_of host) volume) woken) (known_kept host u v kept memory h known))

  -- what came to the newest table of some key
  newest_told : (key : Key) (asked : Option Change) → IsTellable host.drives h key asked → Goes host [] (deed_of key asked ∷ []) Known v h
  newest_told key asked can =
      let which = log.with_asked asked [] in
      let before = can.may.before in
      let one = current_some h.databases key can.may.may.newest can.may.may.older can.may.may.family in
      let its : IsCurrentOf h.databases key one.0.identity = record { database = one.0; current = one.1; as_begun = refl } in
      let is = databases_go host.drives h key one.0.identity (log.Told which before ∷ []) v v here its (tt, tt) (can.may.may, tt) (told_stand which before host.drives h.databases key v one.0.identity here.databases its can.may.may)
      (kept_outside_same (site_area (site_of host.drives key)) v) (λ table none. absurd (never which before table none)) in
      tells (deed_of key asked) (OfDatabase key (identity_in (current_of h.databases key)) (log.Told which before)) (record { course = is.happens.course; begins = is.happens.begins; tells = is.happens.tells ∙ one_deed key asked before; stands = is.happens.stands }) tt tt
      (own_gone host memory.begun h known.its key (log.Told which before ∷ []) memory.begun (history_after h (OfDatabase key (identity_in (current_of h.databases key)) (log.Told which before))) (omega arith) refl)
      (λ o is_open. open_told host.drives h.databases o key which before v is_open) (told_freed host.drives h.databases key (key_of host) which before v one.0 here.databases one.1) is.woken is.up
    where
      never : (which before : List Change) (table : Table) → IsAsked (log.Told which before ∷ []) table → ⊥
      never which before table (inl none) = none
      never which before table (inr none) = none

  told_one : (deed : Deed) → CanTell host.drives deed h → Goes host [] (deed ∷ []) Known v h
  told_one (Created key) can = newest_told key None can
  told_one (Changed key change) can = newest_told key (Some change) can
  told_one (Deleted key) can = tells (Deleted key) (Deletes can.0.0 key) (record {
    course = (((can.0.1, can.0.2), can.1), tt);
    begins = refl;
    tells = refl;
    stands = record { databases = here.databases; laid = here.laid; apart = here.apart; volumes = here.volumes };
  }) tt tt (own_still host memory.begun h known.its memory.begun (history_after h (Deletes can.0.0 key)) (omega arith) refl) (λ o is_open. is_open) (λ free. free) refl refl
  told_one (Wrote key volume at blocks) can = tells (Wrote key volume at blocks) (Acknowledges can.untold.0 key volume at blocks) (record {
    course = (((can.untold.1, can.untold.2), can.range, can.only), tt);
    begins = refl;
    tells = refl;
    stands = record { databases = here.databases; laid = here.laid; apart = here.apart; volumes = here.volumes };
  }) tt tt (own_still host memory.begun h known.its memory.begun (history_after h (Acknowledges can.untold.0 key volume at blocks)) (omega arith) refl) (λ o is_open. is_open) (λ free. free) refl refl
  told_one (Saw key volume at blocks) can = tells (Saw key volume at blocks) (Shows can.0 key volume at blocks) (record {
    course = ((can.1, can.2), tt);
    begins = refl;
    tells = refl;
    stands = record { databases = here.databases; laid = here.laid; apart = here.apart; volumes = here.volumes };
  }) tt tt (own_still host memory.begun h known.its memory.begun (history_after h (Shows can.0 key volume at blocks)) (omega arith) refl) (λ o is_open. is_open) (λ free. free) refl refl

  -- once all that was done was told, what was known is known
  pub told_all : (done : List Deed) → CanTellAll host done h → Goes host [] done Known v h
  told_all [] can = goes_none host [] Known v h here (known_kept host u v kept memory h known)
  told_all (deed ∷ []) can = told_one deed can
  told_all (deed ∷ other ∷ more) can = absurd can
