-- A whole write: all of its pieces, or those up to the first that failed, and then the syncs of its drives.
use Rattle.std.proofs.Common.{◌≡◌, inl, inr, ℕ, zero, suc, ◌+◌, ◌-◌, ◌<◌, ◌≤◌, Bool, true, false, not, ◌||◌, ◌==◌, List, [], length, Option, None, Some, Result, Ok, Err, refl, sym, ◌∙◌, ap, subst, arith}
use Rattle.std.specs.Prelude.{OnOk}
use Rattle.std.proofs.lemmas.Bool.{and_from, and_parts, and_right, false_from_ne_true, not-true, or_parts}
use Rattle.mdv_base.specs.DriveSet.{Drives, has_drive as has}
use Rattle.mdv_base.specs.declared.drive.Failed.{Failed}
use Rattle.mdv_base.proofs.Causes.{calm_before, within_calm}
use Rattle.mdv_shelf.specs.Tale.{Tale}
use Rattle.mdv_shelf.specs.Calls.{OnDrive}
use Rattle.mdv_shelf.specs.Shelves.{AtEachTale, AtEnd, DriveFailures, MadeCalls}
use Rattle.mdv_shelf.specs.declared.shelf.Shelf.{Ghosts}
use Rattle.mdv_shelf.proofs.Between.{between_of, between_then, between_wider}
use Rattle.mdv_shelf.proofs.Moments.{ends_both, ends_more, moments_end}
use Rattle.mdv_map.specs.Maps.{Map}
use Rattle.mdv_map.specs.Requests.{AllRead, AreRead, OnDrives, Rewriting}
use Rattle.mdv_map.proofs.Covering.{either_of, one_of, true_false}
use Rattle.mdv_map.proofs.Standing.{requests_stand}
use Rattle.mdv_dev.specs.Below.{AreCalm, DriveNo, IsSynced, TookBetween}
use Rattle.mdv_dev.specs.Drives.{KeptOnDrives}
use Rattle.mdv_dev.specs.Pieces.{IsOneCopy, drive_of, drives, has_drive, is_new, is_start, pieces}
use Rattle.mdv_dev.specs.Syncs.{MadeSyncs, is_due, is_lost, is_sync, syncs}
use Rattle.mdv_dev.specs.Works.{AreOnDisk, Carries, IsFinished, MakesTurns, TookExactly}
use Rattle.mdv_dev.specs.Writing.{AreAdded, IsTold, IsTorn, TakesWrite}
use Rattle.mdv_dev.specs.declared.work.Work.{Work}
use Rattle.mdv_dev.specs.declared.work.WorkKind.TheVariants.{Write}
use Rattle.mdv_dev.proofs.Counting.{count_below, count_fewer, has_at, not_true, number_test, same_number, true_not}
use Rattle.mdv_dev.proofs.Drives.{where_then}
use Rattle.mdv_dev.proofs.Failing.{differ}
use Rattle.mdv_dev.proofs.Requesting.{copy_drive, fresh, none_counted}
use Rattle.mdv_dev.proofs.Syncs.{HasSyncedAll, either_turned, syncs_behind}

abbrev TakesWithin : {S : Type 0} → Ghosts S → S → S → ℕ → ℕ → Type 0
TakesWithin shelf a c most blocks = TookBetween shelf.calls shelf.written a c 1 most blocks

-- syncs behind so many calls, told from both sides
synced_exactly : {S : Type 0} (shelf : Ghosts S) (a b c : S) (j k most blocks : ℕ) → 0 < j → j + k ≤ most → TookExactly shelf a b j blocks → MadeSyncs shelf b c k → TakesWithin shelf a c most blocks
synced_exactly {S} shelf a b c j zero most blocks some few took same =
    subst (λ (s : S). TakesWithin shelf a s most blocks) (sym same) (between_wider shelf.calls shelf.written a b j j blocks 1 most blocks (omega (arith, some)) (omega (arith, few)) (omega arith) took)
synced_exactly {S} shelf a b c j (suc k) most blocks some few took made =
    between_then shelf.calls shelf.written a b c j j blocks (suc k) (suc k) 0 1 most blocks (omega (arith, some)) (omega (arith, few)) (omega arith) took
    (between_of shelf.calls shelf.written b c (suc k) 0 (suc k) (suc k) 0 (omega arith) (omega arith) (omega arith) made)

module _ {S : Type 0} (shelf : Ghosts S) (v : Map) (at : ℕ) (blocks : List (List ℕ)) (one : IsOneCopy v) (within : at + length blocks ≤ v.blocks) (some : 0 < length blocks) (a b c : S) where
  abbrev count : ℕ
  count = length blocks

  -- of drives that are synced a crash leaves what a read gives
  on_synced : (u : Tale) (passes : ℕ → Bool) → ((drive : ℕ) → has_drive v at count drive ≡ true → passes drive ≡ true → IsSynced drive u) → OnDrives v passes at count u
  on_synced u passes synced k drive block x lt has on left = synced drive (has_at v at count k drive lt (copy_drive v (at + k) drive block one (omega arith) has)) on block x left

  stays_read : (t m : Tale) → Rewriting v at [] t m → AllRead v at blocks t → AllRead v at blocks m
  stays_read t m calm = requests_stand.reads v at count blocks t m (λ k drive block lt has. calm.outside drive block (λ j none owned. absurd (omega arith)))

  least : 1 ≤ pieces v at count
  least = let below = count_below (is_start v at) 0 count some refl in omega (arith, below)

  module _ (lost : Option DriveNo) (set after : Drives) (y : Result (Unit {0}) Failed) (so : HasSyncedAll shelf b c v at (is_due v at lost count) (syncs v at lost count) set after y) where
    -- where a drive is neither lost nor failing it is synced
    others_synced : (failing : ℕ → Bool) → ((drive : ℕ) → failing drive ≡ false → (is_lost lost drive ≡ false) × (so.synced.failing drive ≡ false)) → AtEachTale shelf (Rewriting v at blocks) a b → AtEnd shelf (λ _ u. OnDrives v (λ drive. not (failing drive)) at count u) a c
    others_synced failing fine moments =
        ends_more (Rewriting v at blocks) (λ _ u. (drive : ℕ) → is_due v at lost count drive ≡ true → so.synced.failing drive ≡ false → IsSynced drive u) (λ _ u. OnDrives v (λ drive. not (failing drive)) at count u) (shelf.tale a) (shelf.tale b) (shelf.tale c)
        (λ t u m was synced. on_synced m (λ drive. not (failing drive)) (λ drive has on.
        let known = fine drive (not-true (failing drive) on) in
        synced drive (and_from (has_drive v at count drive) (not (is_lost lost drive)) has (true_not (is_lost lost drive) known.0)) known.1))
        (moments_end (Rewriting v at blocks) (shelf.tale a) (shelf.tale b) moments) so.synced.synced

    due_has : (drive : ℕ) → is_due v at lost count drive ≡ true → has_drive v at count drive ≡ true
    due_has drive due = (and_parts (has_drive v at count drive) (not (is_lost lost drive)) due).0

    -- the syncs go on with the drives on which none failed
    pub writes_kept : ((drive : ℕ) → is_due v at lost count drive ≡ true → (DriveFailures shelf a b drive).none) → KeptOnDrives shelf a b v at count → KeptOnDrives shelf a c v at count
    writes_kept calm kept = where_then shelf a b c (has_drive v at count) (is_due v at lost count) (has_drive v at count) (λ drive is. is) due_has calm kept so.kept

    few_syncs : syncs v at lost count ≤ drives v at count
    few_syncs = count_fewer (is_sync v at lost) (is_new v at) (λ k is. (and_parts (is_new v at k) (not (is_lost lost (drive_of (v.copies (at + k))))) is).0) count

  -- where all pieces were written
  module _ {T : Type 0} (x : T) (work : Work) (buffer : List (List ℕ)) (moments : AtEachTale shelf (Rewriting v at blocks) a b) (carried : AtEnd shelf (Carries v (fresh Write at count) blocks work buffer) a b)
      (finished : IsFinished {T = T} v (DriveFailures shelf a b) (fresh Write at count) blocks work buffer (Ok x)) (made : MakesTurns {T = T} {E = DriveNo} shelf a b v (fresh Write at count) work (Ok x)) (set after : Drives) where
    calm : AreCalm (DriveFailures shelf a b)
    calm = finished.whole.1

    all_due : (drive : ℕ) → has_drive v at count drive ≡ true → is_due v at None count drive ≡ true
    all_due drive has = and_from (has_drive v at count drive) true has refl

    put : (y : Result (Unit {0}) Failed) (so : HasSyncedAll shelf b c v at (is_due v at None count) (syncs v at None count) set after y) → ((drive : ℕ) → so.synced.failing drive ≡ false) → AtEnd shelf (λ _ u. AreOnDisk v at blocks u) a c
    put y so fine =
        let is_written : work ≡ record (fresh Write at count) { done = count } = finished.same ∙ ap (λ (n : ℕ). let w : Work = record (fresh Write at count) { done = n } in w) finished.whole.0 in
        let one_end = subst (λ (u : Work). AtEnd shelf (Carries v (fresh Write at count) blocks u buffer) a b) is_written carried in
        let both = ends_both (λ _ u. (drive : ℕ) → is_due v at None count drive ≡ true → so.synced.failing drive ≡ false → IsSynced drive u) (Rewriting v at [])
        (λ u m. ((drive : ℕ) → is_due v at None count drive ≡ true → so.synced.failing drive ≡ false → IsSynced drive m) × Rewriting v at [] u m) (shelf.tale b) (shelf.tale c) (λ u m synced still. (synced, still))
        so.synced.synced (moments_end (Rewriting v at []) (shelf.tale b) (shelf.tale c) so.moments) in
        ends_more (Carries v (fresh Write at count) blocks (record (fresh Write at count) { done = count }) buffer)
        (λ u m. ((drive : ℕ) → is_due v at None count drive ≡ true → so.synced.failing drive ≡ false → IsSynced drive m) × Rewriting v at [] u m) (λ _ u. AreOnDisk v at blocks u) (shelf.tale a) (shelf.tale b) (shelf.tale c)
        (λ t u m has_done done.
        let read = subst (λ (xs : List (List ℕ)). AreRead v at count xs u) finished.buffer (has_done.done (λ k z lt reading. absurd (omega arith))) in
        let synced : (drive : ℕ) → has_drive v at count drive ≡ true → IsSynced drive m = λ drive has. done.0 drive (all_due drive has) (fine drive) in
        record { read = stays_read u m done.1 read; on_disk = λ k drive block z lt has left. on_synced m (λ _. true) (λ d on passes. synced d on) k drive block z lt has refl left; synced = synced })
        one_end both

    pub write_ends : (y : Result (Unit {0}) Failed) → HasSyncedAll shelf b c v at (is_due v at None count) (syncs v at None count) set after y → OnOk y (AtEnd shelf (λ _ u. AreOnDisk v at blocks u) a c)
    write_ends (Ok z) so = put (Ok z) so so.synced.whole.1
    write_ends (Err e) so = tt

    pub write_told : (y : Result (Unit {0}) Failed) → HasSyncedAll shelf b c v at (is_due v at None count) (syncs v at None count) set after y → IsTold shelf a c v at count set after y
    write_told (Ok z) so = (so.synced.whole.0, λ drive. so.synced.calm drive (so.synced.whole.1 drive) ∙ calm drive)
    write_told (Err e) so = record {
      failing = so.synced.failing;
      have = record {
        some = so.synced.some;
        on = λ drive is. (and_parts (has_drive v at count drive) true (so.synced.among drive is)).0;
        failed = λ drive is. (calm_before (shelf.faults a (OnDrive drive)) (shelf.faults b (OnDrive drive)) (shelf.faults c (OnDrive drive)) (calm drive)).some (so.synced.failed drive is);
        calm = λ drive is. so.synced.calm drive is ∙ calm drive;
      };
      told = so.synced.told;
      others = others_synced None set after (Err e) so so.synced.failing (λ drive fine. (refl, fine)) moments;
    }

    all_made : (y : Result (Unit {0}) Failed) → HasSyncedAll shelf b c v at (is_due v at None count) (syncs v at None count) set after y → MadeCalls shelf a c (pieces v at count + drives v at count) count
    all_made y so =
        let blocks_all : count - 0 ≡ count = omega arith in
        let first = subst (λ (n : ℕ). MadeCalls shelf a b n count) (none_counted (is_start v at) count) (subst (λ (n : ℕ). MadeCalls shelf a b (pieces v at count - pieces v at 0) n) blocks_all made.done) in
        let fewer = few_syncs None set after y so in
        let more = count_fewer (is_new v at) (is_sync v at None) (λ k is. and_from (is_new v at k) true is refl) count in
        let all : pieces v at count + syncs v at None count ≡ pieces v at count + drives v at count = omega (arith, fewer, more) in
        syncs_behind shelf a b c (pieces v at count) (syncs v at None count) (pieces v at count + drives v at count) count all first so.counted

    pub write_counted : (y : Result (Unit {0}) Failed) → HasSyncedAll shelf b c v at (is_due v at None count) (syncs v at None count) set after y → TakesWrite shelf a c v at count y
    write_counted (Ok z) so = record { done = all_made (Ok z) so; failed = tt }
    write_counted (Err e) so = record {
      done = tt;
      failed =
          between_of shelf.calls shelf.written a c (pieces v at count + drives v at count) count 1 (pieces v at count + drives v at count) count (let one_piece = least in omega (arith, one_piece)) (omega arith) (omega arith) (all_made (Err e) so);
    }

  -- where one failed
  module _ {T : Type 0} (drive : DriveNo) (work : Work) (buffer : List (List ℕ)) (moments : AtEachTale shelf (Rewriting v at blocks) a b) (finished : IsFinished {T = T} v (DriveFailures shelf a b) (fresh Write at count) blocks work buffer (Err drive))
      (made : MakesTurns {T = T} {E = DriveNo} shelf a b v (fresh Write at count) work (Err drive)) (before set after : Drives) (added : AreAdded (λ d. d == drive.0) before set) (y : Result (Unit {0}) Failed)
      (so : HasSyncedAll shelf b c v at (is_due v at (Some drive) count) (syncs v at (Some drive) count) set after y) where
    abbrev failing_too : ℕ → Bool
    failing_too d = d == drive.0 || so.synced.failing d

    -- what comes of the other drives says nothing of this one
    not_due : is_due v at (Some drive) count drive.0 ≡ false
    not_due = and_right (has_drive v at count drive.0) (not (drive.0 == drive.0)) (not_true (drive.0 == drive.0) (number_test drive.0 drive.0 refl))

    not_failing : so.synced.failing drive.0 ≡ false
    not_failing = false_from_ne_true (so.synced.failing drive.0) (λ is. true_false (is_due v at (Some drive) count drive.0) (so.synced.among drive.0 is) not_due)

    away : (d : ℕ) → is_due v at (Some drive) count d ≡ true → d == drive.0 ≡ false
    away d due = false_from_ne_true (d == drive.0) (λ same. true_false (is_due v at (Some drive) count d) due (and_right (has_drive v at count d) (not (d == drive.0)) (not_true (d == drive.0) same)))

    calm_there : (d : ℕ) → d == drive.0 ≡ false → (DriveFailures shelf a b d).none
    calm_there d differs = finished.stayed.1.failed.others d (differ d drive.0 differs)

    has_failing : (d : ℕ) → failing_too d ≡ true → has_drive v at count d ≡ true
    has_failing d is = elim (one_of (d == drive.0) (so.synced.failing d) is) [
      | inl same ↦
          let here = has_at v at count work.done drive.0 finished.stayed.1.below (sym finished.stayed.1.on) in
          subst (λ (n : ℕ). has_drive v at count n ≡ true) (sym (same_number d drive.0 same)) here
      | inr other ↦ (and_parts (has_drive v at count d) (not (d == drive.0)) (so.synced.among d other)).0
    ]

    some_failed : (d : ℕ) → failing_too d ≡ true → (DriveFailures shelf a c d).some
    some_failed d is = elim (one_of (d == drive.0) (so.synced.failing d) is) [
      | inl same ↦
          let here = (within_calm (shelf.faults a (OnDrive drive.0)) (shelf.faults b (OnDrive drive.0)) (shelf.faults c (OnDrive drive.0)) (so.synced.calm drive.0 not_failing)).some finished.stayed.1.failed.here in
          subst (λ (n : ℕ). (DriveFailures shelf a c n).some) (sym (same_number d drive.0 same)) here
      | inr other ↦
          let still = calm_there d (away d (so.synced.among d other)) in
          (calm_before (shelf.faults a (OnDrive d)) (shelf.faults b (OnDrive d)) (shelf.faults c (OnDrive d)) still).some (so.synced.failed d other)
    ]

    pub torn : IsTorn shelf a c v at count before after
    torn = record {
      failing = failing_too;
      have = record {
        some = (drive.0, either_of (drive.0 == drive.0) (so.synced.failing drive.0) (inl (number_test drive.0 drive.0 refl)));
        on = has_failing;
        failed = some_failed;
        calm = λ d is. let neither = or_parts (d == drive.0) (so.synced.failing d) is in so.synced.calm d neither.1 ∙ calm_there d neither.0;
      };
      told = λ d. so.synced.told d ∙ ap (λ (t : Bool). so.synced.failing d || t) (added d) ∙ either_turned (so.synced.failing d) (d == drive.0) (has before (record { 0 = d }));
      others = others_synced (Some drive) set after y so failing_too (λ d is. or_parts (d == drive.0) (so.synced.failing d) is) moments;
    }

    pub torn_counted : (e : Failed) → TakesWrite shelf a c v at count (Err e)
    torn_counted e =
        let none = none_counted (is_start v at) work.done in
        let calls : pieces v at work.done - pieces v at 0 + 1 ≡ pieces v at work.done + 1 = omega (arith, none) in
        let blocks_all : count - 0 ≡ count = omega arith in
        let took = subst (λ (n : ℕ). TookExactly shelf a b (pieces v at work.done + 1) n) blocks_all (subst (λ (n : ℕ). TookExactly shelf a b n (count - 0)) calls made.failed) in
        let below = count_below (is_start v at) work.done count finished.stayed.1.below finished.stayed.1.begins in
        let fewer = few_syncs (Some drive) set after y so in
        record { done = tt; failed = synced_exactly shelf a b c (pieces v at work.done + 1) (syncs v at (Some drive) count) (pieces v at count + drives v at count) count (omega arith) (omega (arith, below, fewer)) took so.counted }

    pub torn_kept : KeptOnDrives shelf a b v at count → KeptOnDrives shelf a c v at count
    torn_kept kept = writes_kept (Some drive) set after y so (λ d due. calm_there d (away d due)) kept
