-- A block of a volume that the newest table has, whose write was answered: every table that a boot may find since has it, until a change takes the volume away, so its log begins no more.
use Rattle.std.proofs.Common.{inl, inr, ℕ, ◌+◌, ◌<◌, List, [], ◌∷◌, Option, sym, subst, arith}
use Rattle.mdv_shelf.proofs.Blocks.{both_ways}
use Rattle.mdv_store_law.specs.Changes.{AddListed, AddPlaces, DropPlaces, FirstPlace, OfPlan}
use Rattle.mdv_store_law.specs.Log as log
use Rattle.mdv_store_law.specs.Log.{IsAskable, IsMade, Issue}
use Rattle.mdv_store_law.proofs.Logs.{is_log_after_all}
use Rattle.mdv_volumes.specs.Below.{Change, Geometry, Key, Map, Table, VolId}
use Rattle.mdv_volumes.specs.Databases.{is_volume, log_of}
use Rattle.mdv_volumes.specs.Events.{AllGoOn, Answers, Begins, Flushes, GoesOn, Issues, VolumeEvent, Woke}
use Rattle.mdv_volumes.specs.Events as lives
use Rattle.mdv_volumes.specs.Happening.{HasRange, IsCourse, IsNamed, IsPlaced, MayHappen}
use Rattle.mdv_volumes.specs.History.{Acknowledges, Boots, Changed, Crashes, Creation, Deletes, Event, History, OfDatabase, OfVolume, Reads, Shows, Stops, Unsettles, events_at, events_of, history_after, history_after_all}
use Rattle.mdv_volumes.specs.HistoryLaws.{HasLogs, KeepDatabase, KeepVolume, log_events_of}
use Rattle.mdv_volumes.specs.Tables.{IsMapOf}
use Rattle.mdv_volumes.proofs.Databases.{volume_key, volume_number}
use Rattle.mdv_volumes.proofs.Ending.{begun_front, begun_rest, keep_front, keep_rest, none_begins}
use Rattle.mdv_volumes.proofs.Found.{AreLasting, lasting_at, lasting_where, some_lasts}
use Rattle.mdv_volumes.proofs.Keys.{databases_live}
use Rattle.mdv_volumes.proofs.Listed.{ChangesAre, changes_are}
use Rattle.mdv_volumes.proofs.Lists.{all_both}
use Rattle.mdv_volumes.proofs.Made.{VolumeStays, map_stays}

-- the logs of a history stay logs
pub still_logs : (g : Geometry) (h : History) (es : List Event) → IsCourse g h es → HasLogs g h → HasLogs g (history_after_all h es)
still_logs g h es course logs key = subst (log.IsLog g) (sym (databases_live.is key g h es course))
    (is_log_after_all g (log_of h.databases key) (log_events_of key es) (logs key) (databases_live.may key g h es course))

-- the table has the volume, with the block
abbrev HasBlock : Geometry → VolId → ℕ → Table → Type 0
HasBlock g volume b table = (v : Map) × IsMapOf g table volume v × (b < v.blocks)

-- it stays, unless a change takes the volume away
block_stays : (g : Geometry) (volume : VolId) (b : ℕ) (asked : Option Change) (old next : Table) → IsAskable (VolumeStays volume) asked → IsMade g asked old next → HasBlock g volume b old → HasBlock g volume b next
block_stays g volume b asked old next stays made has =
    let later = map_stays g volume has.0 asked old next stays made has.1 in
    let front = later.2.blocks in
    let below = has.2 in (later.0, later.1, omega (arith, front, below))

-- What no change that these events begin takes from a table stays so of each that a boot may find, as long as they begin no end of the database.
pub lasts_over : (g : Geometry) (key : Key) (P : Table → Type 0) (Which : Issue → Type 0) → ((asked : Option Change) (old next : Table) → IsAskable Which asked → IsMade g asked old next → P old → P next) → (h : History) (es : List Event) → IsCourse g h es
    → KeepDatabase key es → ChangesAre key Which es → AreLasting g P (log_of h.databases key) → AreLasting g P (log_of (history_after_all h es).databases key)
lasts_over g key P Which stays h es course keep changes are = subst (AreLasting g P) (sym (databases_live.is key g h es course))
    (lasting_where g P Which stays (log_of h.databases key) (log_events_of key es) (databases_live.may key g h es course) (none_begins key es keep) (changes_are key Which es changes) are)

-- events that keep a volume
pub volume_kept : (key : Key) (volume : VolId) (es : List Event) → KeepVolume key volume es → ChangesAre key (VolumeStays volume) es
volume_kept key volume es stay (OfPlan change) has = stay change has
volume_kept key volume es stay (AddPlaces slices count blocks) has = tt
volume_kept key volume es stay (AddListed number) has = tt
volume_kept key volume es stay (DropPlaces slices) has = tt
volume_kept key volume es stay FirstPlace has = tt

module _ (g : Geometry) (key : Key) (volume : VolId) (b : ℕ) where
  -- each table that a boot may find has it
  abbrev Lasts : History → Type 0
  Lasts h = AreLasting g (HasBlock g volume b) (log_of h.databases key)

  step_lasts : (h : History) (e : Event) → MayHappen g h e → KeepDatabase key (e ∷ []) → KeepVolume key volume (e ∷ []) → Lasts h → Lasts (history_after h e)
  step_lasts h e may keep stay are = lasts_over g key (HasBlock g volume b) (VolumeStays volume) (block_stays g volume b) h (e ∷ []) (may, tt) keep (volume_kept key volume (e ∷ []) stay) are

  -- one of them
  some_named : (h : History) → Lasts h → (v : Map) × IsNamed g h.databases key volume v × (b < v.blocks)
  some_named h are =
      let found = some_lasts g (HasBlock g volume b) (log_of h.databases key) are in
      let has = found.2 in (has.0, record { version = found.0; found = found.1; map = has.1 }, has.2)

  -- so a log begins behind the block
  own_goes : (h : History) (e : VolumeEvent) → IsPlaced g h key volume e → Lasts h → GoesOn b e
  own_goes h (Issues at blocks) placed are = tt
  own_goes h (Answers at blocks) placed are = tt
  own_goes h (Flushes at count) placed are = tt
  own_goes h (Begins from logs) placed are =
      let named = some_named h are in
      let lt = named.2 in
      let le = placed named.0 named.1 in omega (arith, lt, le)
  own_goes h lives.Crashes placed are = tt
  own_goes h (Woke count content) placed are = tt

  volume_goes : (h : History) (other : Key) (beside : VolId) (e : VolumeEvent) → IsPlaced g h other beside e → Lasts h → AllGoOn b (events_at key volume (OfVolume other beside e))
  volume_goes h other beside e placed are = elim (both_ways (is_volume key volume other beside)) [
    | inl does ↦
        let here = subst (λ (k : Key). IsPlaced g h k beside e) (sym (volume_key key volume other beside does)) placed in
        rw does (own_goes h e (subst (λ (v : VolId). IsPlaced g h key v e) (sym (volume_number key volume other beside does)) here) are, tt)
    | inr never ↦ rw never tt
  ]

  step_goes : (h : History) (e : Event) → MayHappen g h e → Lasts h → AllGoOn b (events_at key volume e)
  step_goes h (Creation other identity) may are = tt
  step_goes h (OfDatabase other identity e) may are = tt
  step_goes h (OfVolume other beside e) may are = volume_goes h other beside e may.1 are
  step_goes h (Reads other beside at blocks) may are = tt
  step_goes h (Acknowledges place other beside at blocks) may are = tt
  step_goes h (Shows place other beside at blocks) may are = tt
  step_goes h (Deletes place other) may are = tt
  step_goes h (Boots other up) may are = tt
  step_goes h (Unsettles other drive) may are = tt
  step_goes h Stops may are = tt
  step_goes h Crashes may are = (tt, tt)

  all_go : (h : History) (es : List Event) → IsCourse g h es → KeepDatabase key es → KeepVolume key volume es → Lasts h → AllGoOn b (events_of key volume es)
  all_go h [] course keep stay are = tt
  all_go h (e ∷ es) course keep stay are =
      all_both (GoesOn b) (events_at key volume e) (events_of key volume es) (step_goes h e course.0 are)
      (all_go (history_after h e) es course.1 (keep_rest key (e ∷ []) es keep) (λ change has. stay change (begun_rest (e ∷ []) es (Changed key (OfPlan change)) has))
      (step_lasts h e course.0 (keep_front key (e ∷ []) es keep) (λ change has. stay change (begun_front (e ∷ []) es (Changed key (OfPlan change)) has)) are))

-- the log of no block of the range begins anew
pub range_goes : (g : Geometry) (h : History) (es : List Event) (key : Key) (volume : VolId) (at count k : ℕ) → HasLogs g h → HasRange g h.databases key volume at count → k < count
    → IsCourse g h es → KeepDatabase key es → KeepVolume key volume es → AllGoOn (at + k) (events_of key volume es)
range_goes g h es key volume at count k logs range lt course keep stay =
    let there = range.there in
    let within = range.within in
    let start = lasting_at g (HasBlock g volume (at + k)) (log_of h.databases key) there.newest there.older (logs key) there.family there.written there.lives (range.map, there.map, omega (arith, within, lt)) in
    all_go g key volume (at + k) h es course keep stay start
