-- What a read and a write of blocks of a volume leave of a host's history.
use Rattle.std.proofs.Common.{◌≡◌, inl, inr, ◌+◌, ◌<◌, ◌==◌, ◌&&◌, ◌||◌, not, ℕ, Bool, true, false, List, [], ◌∷◌, length, slice_index_or, refl, sym, ◌∙◌, ap, subst, arith}
use Rattle.std.specs.List.{list_any}
use Rattle.std.proofs.lemmas.Bool.{and_parts, false≢true}
use Rattle.mdv_databases.proofs.Lasting.{freed_elsewhere, open_elsewhere, opened_elsewhere}
use Rattle.mdv_databases.specs.Lasting.{AreFreed, IsElsewhere}
use Rattle.mdv_dev.proofs.Copies.{drive_is, has_copy, one_place, one_reading}
use Rattle.mdv_dev.proofs.Counting.{has_at}
use Rattle.mdv_dev.specs.Pieces.{LiesAt, drive_of, has_drive}
use Rattle.mdv_engine_law.specs.Below.{Answers, AreOnDisk, AreWoken, Created, Deed, DriveNo, Drives, Event, Flushes, HasDriveBlock, HasRange, History, IoFault, IsMapOf, IsOpenIn, IsOpenedAt, IsThere, Issues, KeptOutside, Key, Map, OfVolume, Opened, Reads, Saw, Table, Tale, Version, VolId, Wrote, history_after, history_after_all, last, log_of, values_reply}
use Rattle.mdv_map.proofs.Covering.{areas_cover}
use Rattle.mdv_map.specs.Maps.{area_of_map}
use Rattle.mdv_map.specs.Requests.{AllRead, OnDrives, Rewriting}
use Rattle.mdv_shelf.proofs.Blocks.{both_ways}
use Rattle.mdv_store.specs.Commit.{IsNewestWritten}
use Rattle.mdv_store_law.proofs.Parts.{part_itself}
use Rattle.mdv_volumes.proofs.Drives.{up_without}
use Rattle.mdv_volumes.proofs.Maps.{same_map}
use Rattle.mdv_volumes.proofs.Transfers.{reads_go, writes_go}
use Rattle.mdv_volumes.specs.Databases.{Database, is_volume}
use Rattle.mdv_volumes.specs.Events.{VolumeEvent}
use Rattle.mdv_volumes.specs.History.{woken_by}
use Rattle.mdv_volumes.specs.HistoryLaws.{IsUpon, write_of}
use Rattle.mdv_volumes.specs.Standing.{HaveCopies}
use Rattle.mdv_engine_law.specs.Awake.{AreFound}
use Rattle.mdv_engine_law.specs.declared.answer.Answer.TheVariants.{Said}
use Rattle.mdv_engine_law.specs.declared.answer.Outcome.TheVariants as outcome
use Rattle.mdv_engine_law.specs.declared.host.Host.{Host}
use Rattle.mdv_engine_law.specs.Hosts.{IsReady, StaysHome, key_of}
use Rattle.mdv_engine_law.specs.Line.{AreSeen, HasBlocks, HasUnsettled, Memory, ToDo, ToSee, contents, is_in}
use Rattle.mdv_engine_law.specs.Standing.{CarriedTo, CarryMoment, Goes, IsKnown, IsKnownAfter, Knows, Reached, StandsAt, is_steady}
use Rattle.mdv_engine_law.proofs.Beside.{lies_at, lies_beside}
use Rattle.mdv_engine_law.proofs.Going.{happened, happened_stands, not_among, not_other}
use Rattle.mdv_engine_law.proofs.Knowing.{known_on, some_more}
use Rattle.mdv_engine_law.proofs.Owning.{own_still}
use Rattle.mdv_engine_law.proofs.Refusing.{IsFree, known_lives, known_newest, knows_its, knows_opened, opened_has}
use Rattle.mdv_engine_law.proofs.Unsettling.{databases_kept, failed_are, failed_drives, failed_have, one_or_off, unsettled, unsettled_awake, unsettled_issues, woken_kept}
use Rattle.mdv_engine_law.proofs.Writing.{put_by}

-- what happens to a volume, but for a boot's waking, leaves all counts
count_kept : (h : History) (key : Key) (volume : VolId) (e : VolumeEvent) → ((n : ℕ) → woken_by e n ≡ n) → (other : Key) (beside : VolId) → (history_after h (OfVolume key volume e)).woken other beside ≡ h.woken other beside
count_kept h key volume e keeps other beside = elim (both_ways (is_volume key volume other beside)) [
  | inl does ↦ rw does (keeps (h.woken other beside))
  | inr never ↦ rw never refl
]

-- blocks of a volume of the open database
module _ (host : Host) (sizes : List ℕ) (ready : IsReady host sizes) (memory : Memory) (volume : VolId) (at count : ℕ) (v : Map) (some : 0 < count) (there : HasBlocks host memory volume at count v) where
  abbrev newest : Opened
  newest = there.o

  is_opened : (t : Tale) → Knows host memory t → IsOpenedAt host.drives newest t
  is_opened t knows = (knows_its host memory newest there.opened t knows).1

  -- each lies in one place
  place_at : (t : Tale) → Knows host memory t → (k : ℕ) → k < count → (drive : ℕ) × (block : ℕ) × LiesAt v (at + k) drive block
  place_at t knows = lies_at host ready.sound memory volume at count v there (is_opened t knows).of_geometry

  -- where no boot looks for replicas
  blocks_beside : (t : Tale) → Knows host memory t → IsElsewhere host.drives (area_of_map v)
  blocks_beside t knows = lies_beside host ready.sound memory volume at count v there (is_opened t knows).of_geometry

  -- the history has them
  pub has_range : (h : History) (t : Tale) → IsKnown host memory h t → HasRange host.drives h.databases (key_of host) volume at count
  has_range h t known =
      let is : IsNewestWritten (log_of h.databases (key_of host)) newest.mark newest.table = known_newest host memory newest there.opened t h known in
      record {
        map = v;
        there = record {
          lives = known_lives host memory newest there.opened t h known;
          newest = is.newest.version;
          older = is.newest.older;
          family = is.newest.family;
          written = is.written;
          map = subst (λ (table : Table). IsMapOf host.drives table volume v) (sym is.newest.same) there.lies;
        };
        some = some;
        within = there.within;
      }

  -- the history has no other map of the volume
  map_is : (h : History) (t : Tale) → IsKnown host memory h t → (w : Map) → IsThere host.drives h.databases (key_of host) volume w → w ≡ v
  map_is h t known w is =
      let newest_is : IsNewestWritten (log_of h.databases (key_of host)) newest.mark newest.table = known_newest host memory newest there.opened t h known in
      let families : is.newest ∷ is.older ≡ newest_is.newest.version ∷ newest_is.newest.older = sym is.family ∙ newest_is.newest.family in
      let version : is.newest ≡ newest_is.newest.version = cc (families) in
      let table : is.newest.table ≡ newest.table = ap (λ (w : Version). w.table) version ∙ newest_is.newest.same in
      same_map host.drives newest.table volume w v (subst (λ (x : Table). IsMapOf host.drives x volume w) table is.map) there.lies

  -- and one value of each was found, where its drive is steady
  pub are_found : (h : History) (t : Tale) → IsKnown host memory h t → AreFound host.drives h (key_of host) volume at count
  are_found h t known w is upon =
      let woken : AreWoken host.drives newest.table (is_steady memory) h (key_of host) = opened_has memory newest (λ n. AreWoken host.drives n.table (is_steady memory) h (key_of host)) there.opened known.woken in
      let on : IsUpon (is_steady memory) w = λ b drive block lt has. sym (known.up drive) ∙ upon b drive block lt has in
      let all : h.woken (key_of host) volume ≡ v.blocks = woken volume v there.lies (subst (λ (x : Map). IsUpon (is_steady memory) x) (map_is h t known w is) on) in
      let within = there.within in omega (arith, all, within)

-- blocks of a volume that were read
module _ (host : Host) (sizes : List ℕ) (ready : IsReady host sizes) (memory : Memory) (volume : VolId) (at : ℕ) (v : Map) (blocks : List (List ℕ)) (some : 0 < length blocks)
    (there : HasBlocks host memory volume at (length blocks) v) (t : Tale) (seen : AreSeen v at blocks (contents t)) where
  -- each from its one copy
  copy_at : Knows host memory t → (k : ℕ) → k < length blocks → (drive : ℕ) × (block : ℕ) × LiesAt v (at + k) drive block
  copy_at = place_at host sizes ready memory volume at (length blocks) v some there t

  copies : Knows host memory t → HaveCopies v at (length blocks)
  copies knows k lt = let place = copy_at knows k lt in (place.0, place.1, has_copy v (at + k) place.0 place.1 place.2)

  all_read : Knows host memory t → AllRead v at blocks t
  all_read knows k x lt reading =
      let place = copy_at knows k lt in
      one_reading v (at + k) place.0 place.1 place.2 (last t) x reading ∙ sym (one_reading v (at + k) place.0 place.1 place.2 (last t) (slice_index_or blocks k []) (seen.each k lt))

  saw_all : (text : List ℕ) → text ≡ values_reply at blocks → CarriedTo host (ToSee (key_of host) volume at (length blocks)) memory (Said (outcome.Values text)) memory t t
  unfolding has_range
  saw_all text is = record {
    done = Saw (key_of host) volume at blocks ∷ [];
    acks = inr (record { blocks = blocks; counted = refl; told = is; seen = refl });
    free = λ has. absurd (not_other (Saw (key_of host) volume at blocks) (Created (key_of host)) (λ same. cc (same)) has);
    goes = λ h known. inr
        (let read = reads_go host.drives h (key_of host) volume at blocks t (has_range host sizes ready memory volume at (length blocks) v some there h t known) known.stands (copies known.knows) (all_read known.knows) in
        let event : Event = Reads (key_of host) volume at blocks in
        let stands = happened_stands host [] [] [] t h (event ∷ []) read.happens (tt, tt) in
        happened host [] [] [] t h (event ∷ []) read.happens (tt, tt) (λ es g. IsKnownAfter host (Saw (key_of host) volume at blocks ∷ []) (Said (outcome.Values text)) memory g t)
        (are_found host sizes ready memory volume at (length blocks) v some there h t known, tt) tt (
          known_on host memory h (history_after h event) t stands (own_still host memory.begun h known.its memory.begun (history_after h event) (omega arith) refl) (λ o is_open. is_open) (λ free. free) refl (λ other. refl) known,
          read.untold,
        ));
    knows = λ knows. knows;
  }

-- they were read, so many of them
pub saw : (host : Host) (sizes : List ℕ) → IsReady host sizes → (memory : Memory) (volume : VolId) (at count : ℕ) (v : Map) → 0 < count → HasBlocks host memory volume at count v → (t : Tale) (text : List ℕ) (blocks : List (List ℕ)) → length blocks ≡ count → AreSeen v at blocks (contents t)
    → text ≡ values_reply at blocks → CarriedTo host (ToSee (key_of host) volume at count) memory (Said (outcome.Values text)) memory t t
saw host sizes ready memory volume at count v some there t text blocks counted seen is =
    let within = there.within in
    let has : HasBlocks host memory volume at (length blocks) v = record { o = there.o; opened = there.opened; lies = there.lies; within = omega (arith, within, counted) } in
    subst (λ (n : ℕ). CarriedTo host (ToSee (key_of host) volume at n) memory (Said (outcome.Values text)) memory t t) counted (saw_all host sizes ready memory volume at v blocks (omega (arith, some, counted)) has t seen text is)

-- blocks of a volume that are written
module _ (host : Host) (sizes : List ℕ) (ready : IsReady host sizes) (memory : Memory) (volume : VolId) (at : ℕ) (v : Map) (blocks : List (List ℕ)) (some : 0 < length blocks)
    (there : HasBlocks host memory volume at (length blocks) v) (t m : Tale) (rewriting : Rewriting v at blocks t m) where
  abbrev wrote : Deed
  wrote = Wrote (key_of host) volume at blocks

  -- no block beside those of the volume is touched
  kept : KeptOutside (area_of_map v) t m
  kept = areas_cover.kept v at blocks t m there.within rewriting

  place : Knows host memory t → (k : ℕ) → k < length blocks → (drive : ℕ) × (block : ℕ) × LiesAt v (at + k) drive block
  place = place_at host sizes ready memory volume at (length blocks) v some there t

  -- each of its places is on a drive that they lie on
  on_drive : Knows host memory t → (k drive b : ℕ) → k < length blocks → HasDriveBlock (v.places (at + k)) drive b → drive_of (v.copies (at + k)) ≡ drive
  on_drive knows k drive b lt has = let at_k = place knows k lt in drive_is v (at + k) at_k.0 at_k.1 at_k.2 ∙ sym (one_place v (at + k) at_k.0 at_k.1 at_k.2 drive b has).0

  -- the blocks of steady drives stay so, where they are on the disk with all that their drives were given
  free_settled : AreOnDisk v at blocks m → Knows host memory t → IsFree host memory m
  free_settled settled knows drive b on plain x left = elim (both_ways (has_drive v at (length blocks) drive)) [
    | inl its ↦ settled.synced drive its b x left
    | inr other ↦
        let same = rewriting.outside drive b (λ k lt has. false≢true (sym other ∙ has_at v at (length blocks) k drive lt (on_drive knows k drive b lt has))) in
        knows.steady drive b on plain x (same.left x left) ∙ sym same.last
  ]

  elsewhere : Knows host memory t → IsElsewhere host.drives (area_of_map v)
  elsewhere knows = blocks_beside host sizes ready memory volume at (length blocks) v some there t knows

  -- memory behind a write, by the drives that are unsteady then
  abbrev then_in : Drives → Memory
  then_in unsteady = record memory { unsteady = unsteady }

  -- what is known of the open database stays
  knows_written : (unsteady : Drives) → (Knows host memory t → IsFree host (then_in unsteady) m) → Knows host memory t → Knows host (then_in unsteady) m
  knows_written unsteady free knows =
      let n = there.o in
      let its = knows_its host memory n there.opened t knows in
      knows_opened host (then_in unsteady) n m there.opened its.0 (opened_elsewhere host.drives (area_of_map v) (elsewhere knows) t m kept n its.1) (free knows)

  knows_settled : AreOnDisk v at blocks m → Knows host memory t → Knows host memory m
  knows_settled settled = knows_written memory.unsteady (free_settled settled)

  module _ (h : History) (known : IsKnown host memory h t) where
    abbrev own : HasRange host.drives h.databases (key_of host) volume at (length blocks)
    own = has_range host sizes ready memory volume at (length blocks) v some there h t known

    found : AreFound host.drives h (key_of host) volume at (length blocks)
    found = are_found host sizes ready memory volume at (length blocks) v some there h t known

    -- what was known is known, but for the drives that are unsteady
    still : (unsteady : Drives) → ((drive : ℕ) → is_steady (then_in unsteady) drive ≡ true → is_steady memory drive ≡ true) → Knows host (then_in unsteady) m → (g : History) → StandsAt host g m → g.databases ≡ h.databases
        → ((drive : ℕ) → is_in (g.up (key_of host)) drive ≡ is_steady (then_in unsteady) drive) → ((other : VolId) → g.woken (key_of host) other ≡ h.woken (key_of host) other) → IsKnown host (then_in unsteady) g m
    still unsteady fewer knows g stands same up counts = record {
      stands = stands;
      its = own_still host memory.begun h known.its memory.begun g (omega arith) same;
      free = λ none clean. subst (λ (ds : List Database). AreFreed host.drives ds (key_of host) m) (sym same) (freed_elsewhere host.drives (area_of_map v) (elsewhere known.knows) t m kept h.databases (key_of host) (known.free none clean));
      up = up;
      is_open = some_more memory.opened (λ o. IsOpenIn host.drives o h.databases t) (λ o. IsOpenIn host.drives o g.databases m)
          (λ o is. subst (λ (ds : List Database). IsOpenIn host.drives o ds m) (sym same) (open_elsewhere host.drives (area_of_map v) (elsewhere known.knows) t m kept o h.databases is)) known.is_open;
      woken = some_more memory.opened (λ n. AreWoken host.drives n.table (is_steady memory) h (key_of host)) (λ n. AreWoken host.drives n.table (is_steady (then_in unsteady)) g (key_of host))
          (λ n are other w lies upon. counts other ∙ are other w lies (λ b drive block lt has. fewer drive (upon b drive block lt has))) known.woken;
      knows = knows;
    }

    abbrev issued_then : History
    issued_then = history_after h (OfVolume (key_of host) volume (Issues at blocks))

    -- its values were issued
    issued_by : Goes host (wrote ∷ []) [] Reached m h
    unfolding has_range
    issued_by =
        let issued = writes_go.issued host.drives h (key_of host) volume at blocks t m own known.stands rewriting in
        happened host (wrote ∷ []) (wrote ∷ []) [] m h (OfVolume (key_of host) volume (Issues at blocks) ∷ []) issued (tt, tt) Reached (found, tt) (part_itself (wrote ∷ [])) tt

    -- they are on the disk
    written_by : AreOnDisk v at blocks m → Goes host (wrote ∷ []) [] (λ es g. IsKnownAfter host (wrote ∷ []) (Said outcome.Ok) memory g m) m h
    unfolding has_range
    written_by settled =
        let done = writes_go.done host.drives h (key_of host) volume at blocks t m own known.stands rewriting settled.read settled.on_disk in
        let es = write_of (key_of host) volume at blocks in
        let second = history_after issued_then (OfVolume (key_of host) volume (Answers at blocks)) in
        let stands = happened_stands host [] (wrote ∷ []) [] m h es done.happens (tt, (tt, (tt, tt))) in
        happened host (wrote ∷ []) (wrote ∷ []) [] m h es done.happens (tt, (tt, (tt, tt))) (λ es g. IsKnownAfter host (wrote ∷ []) (Said outcome.Ok) memory g m) (found, (tt, (tt, tt))) (part_itself (wrote ∷ [])) (
          still memory.unsteady (λ drive on. on) (knows_settled settled known.knows) (history_after_all h es) stands refl known.up (λ other.
              count_kept second (key_of host) volume (Flushes at (length blocks)) (λ n. refl) (key_of host) other ∙ count_kept issued_then (key_of host) volume (Answers at blocks) (λ n. refl) (key_of host) other
              ∙ count_kept h (key_of host) volume (Issues at blocks) (λ n. refl) (key_of host) other),
          done.can_tell,
        )

  pub writing_moment : StaysHome host t m → CarryMoment host (ToDo wrote) memory t m
  writing_moment home = record { home = home; within = inr (v, there, put_by v at blocks t m rewriting); quiet = rewriting.quiet; goes = λ h known. inr (issued_by h known) }

  -- they are on the disk, and the `ok` may be told
  pub wrote_blocks : AreOnDisk v at blocks m → CarriedTo host (ToDo wrote) memory (Said outcome.Ok) memory t m
  wrote_blocks settled = record { done = wrote ∷ []; acks = refl; free = λ has. absurd (not_other wrote (Created (key_of host)) (λ same. cc (same)) has); goes = λ h known. inr (written_by h known settled); knows = knows_settled settled }

  -- Calls failed on drives of these blocks, which are unsteady then; of the copies on the others a crash leaves what a read gives.
  module _ (failing : ℕ → Bool) (on : (drive : ℕ) → failing drive ≡ true → has_drive v at (length blocks) drive ≡ true) (others : OnDrives v (λ drive. not (failing drive)) at (length blocks) m) (unsteady : Drives)
      (each : (drive : ℕ) → is_in unsteady drive ≡ (failing drive || is_in memory.unsteady drive)) where
    abbrev torn : Memory
    torn = then_in unsteady

    -- so those are steady that were, and on which none failed
    steady_then : (drive : ℕ) → is_steady memory drive && not (failing drive) ≡ is_steady torn drive
    steady_then drive = less (is_in memory.up drive) (is_in memory.unsteady drive) (failing drive) ∙ ap (λ (b : Bool). is_in memory.up drive && not b) (sym (each drive)) where
      less : (up off fails : Bool) → (up && not off) && not fails ≡ up && not (fails || off)
      less true true true = refl
      less true true false = refl
      less true false true = refl
      less true false false = refl
      less false off fails = refl

    fewer : (drive : ℕ) → is_steady torn drive ≡ true → is_steady memory drive ≡ true
    fewer drive on_then = (and_parts (is_steady memory drive) (not (failing drive)) (steady_then drive ∙ on_then)).0

    not_failed : (drive : ℕ) → is_steady torn drive ≡ true → not (failing drive) ≡ true
    not_failed drive on_then = (and_parts (is_steady memory drive) (not (failing drive)) (steady_then drive ∙ on_then)).1

    free_torn : Knows host memory t → IsFree host torn m
    free_torn knows drive b on_then plain x left = elim (one_or_off v at (length blocks) (place knows) drive b (length blocks) (omega arith)) [
      | inl one ↦ others one.0 drive b x one.1 one.2 (not_failed drive on_then) left
      | inr off ↦ let same = rewriting.outside drive b off in knows.steady drive b (fewer drive on_then) plain x (same.left x left) ∙ sym same.last
    ]

    knows_torn : Knows host memory t → Knows host torn m
    knows_torn = knows_written unsteady free_torn

    module _ (h : History) (known : IsKnown host memory h t) where
      -- the history takes it so
      abbrev lost : List DriveNo
      lost = failed_drives v at (length blocks) (place known.knows) failing on

      abbrev events : List Event
      events = OfVolume (key_of host) volume (Issues at blocks) ∷ unsettled (key_of host) lost

      up_then : (drive : ℕ) → is_in ((history_after_all h events).up (key_of host)) drive ≡ is_steady torn drive
      up_then drive =
          up_without (key_of host) lost (issued_then h known) (record { 0 = drive })
          ∙ ap (λ (b : Bool). b && not (list_any (λ (d : DriveNo). drive == d.0) lost)) (known.up drive)
          ∙ ap (λ (b : Bool). is_steady memory drive && not b) (failed_are v at (length blocks) (place known.knows) failing on drive)
          ∙ steady_then drive

      torn_by : Goes host (wrote ∷ []) [] (λ es g. IsKnownAfter host [] (Said (outcome.Refused IoFault)) torn g m) m h
      unfolding has_range
      torn_by =
          let goes = writes_go.torn host.drives h (key_of host) volume at blocks t m (own h known) lost known.stands rewriting (failed_have v at (length blocks) (place known.knows) failing on) in
          let stands = happened_stands host [] (wrote ∷ []) [] m h events goes (tt, unsettled_issues (key_of host) host [] lost) in
          happened host (wrote ∷ []) (wrote ∷ []) [] m h events goes (tt, unsettled_issues (key_of host) host (wrote ∷ []) lost) (λ es g. IsKnownAfter host [] (Said (outcome.Refused IoFault)) torn g m)
          (found h known, unsettled_awake (key_of host) host lost (issued_then h known)) (part_itself (wrote ∷ []))
          (still h known unsteady fewer (knows_torn known.knows) (history_after_all h events) stands (databases_kept (key_of host) lost (issued_then h known)) up_then (λ other.
          woken_kept (key_of host) lost (issued_then h known) (key_of host) other ∙ count_kept h (key_of host) volume (Issues at blocks) (λ n. refl) (key_of host) other))

    torn_carried : CarriedTo host (ToDo wrote) memory (Said (outcome.Refused IoFault)) torn t m
    torn_carried = record { done = []; acks = refl; free = λ has. absurd (not_among (Created (key_of host)) has); goes = λ h known. inr (torn_by h known); knows = knows_torn }

  pub wrote_some : (next : Memory) (failing : ℕ → Bool) → ((drive : ℕ) → failing drive ≡ true → has_drive v at (length blocks) drive ≡ true) → OnDrives v (λ drive. not (failing drive)) at (length blocks) m
      → HasUnsettled failing memory next → CarriedTo host (ToDo wrote) memory (Said (outcome.Refused IoFault)) next t m
  wrote_some next failing on others unsettled =
      subst (λ (n : Memory). CarriedTo host (ToDo wrote) memory (Said (outcome.Refused IoFault)) n t m) (sym unsettled.beside) (torn_carried failing on others next.unsteady unsettled.each)
