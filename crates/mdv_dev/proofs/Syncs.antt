-- Drives that are synced one after another, whatever came of those before.
use Rattle.std.proofs.Common.{◌≡◌, ◌≢◌, inl, inr, ℕ, zero, suc, ◌+◌, ◌-◌, ◌<◌, ◌≤◌, Bool, true, false, not, ◌&&◌, ◌||◌, ◌==◌, nat_lt, [], Option, Result, Ok, Err, refl, sym, ◌∙◌, ap, subst, arith}
use Rattle.std.specs.Prelude.{OnOk, OnErr, if◌then◌else◌}
use Rattle.std.proofs.Math.Bool.{and-or_distrib_right, or_assoc, or_comm}
use Rattle.std.proofs.lemmas.Bool.{and_from, and_parts, and_right, false_from_ne_true, or_parts}
use Rattle.std.specs.Result.{result_and}
use Rattle.mdv_base.specs.DriveSet.{Drives, has_drive as has}
use Rattle.mdv_base.specs.declared.drive.Failed.{Failed}
use Rattle.mdv_base.proofs.Causes.{calm_before, within_calm}
use Rattle.mdv_shelf.specs.Tale.{Synced, Tale, Then}
use Rattle.mdv_shelf.specs.Calls.{OnDrive, and_then}
use Rattle.mdv_shelf.specs.Shelves.{AtEachTale, DriveFailures, MadeCalls}
use Rattle.mdv_shelf.specs.declared.shelf.Shelf.{Ghosts}
use Rattle.mdv_shelf.proofs.Blocks.{both_ways}
use Rattle.mdv_shelf.proofs.Counts.{took_more}
use Rattle.mdv_shelf.proofs.Moments.{ends_both, ends_more, moments_end, moments_more, moments_none}
use Rattle.mdv_shelf.proofs.Settled.{synced_drive, synced_still}
use Rattle.mdv_map.specs.Maps.{Map}
use Rattle.mdv_map.specs.Requests.{Rewriting}
use Rattle.mdv_map.proofs.Copies.{le_of_test, lt_of_test}
use Rattle.mdv_map.proofs.Covering.{either_of, one_of, true_false}
use Rattle.mdv_map.proofs.Joining.{rewritings_join}
use Rattle.mdv_dev.specs.Below.{AreCalm, DriveNo, FailedOn, IsSynced}
use Rattle.mdv_dev.specs.Drives.{KeptWhere}
use Rattle.mdv_dev.specs.Pieces.{IsPiece, count_to, drive_of, has_drive, is_new}
use Rattle.mdv_dev.specs.Syncs.{AreSynced, MadeSyncs, is_due, is_lost, is_sync, is_that, syncs}
use Rattle.mdv_dev.specs.Writing.{AreAdded}
use Rattle.mdv_dev.specs.declared.piece.Piece.{Piece}
use Rattle.mdv_dev.proofs.Counting.{count_still, count_turn, first_is_new, has_at, has_back, has_grows, no_drive, not_true, number_test, same_number, true_not}
use Rattle.mdv_dev.proofs.Drives.{not_passing, where_none, where_then}
use Rattle.mdv_dev.proofs.Failing.{differ}
use Rattle.mdv_dev.proofs.Lying.{drive_here, seen_until}

pub either_turned : (a b c : Bool) → a || (b || c) ≡ (b || a) || c
either_turned a b c = sym (or_assoc a b c) ∙ ap (λ (t : Bool). t || c) (or_comm a b)

same_answer : (a b : Bool) → (a ≡ true → b ≡ true) → (b ≡ true → a ≡ true) → a ≡ b
same_answer true b one other = sym (one refl)
same_answer false true one other = other refl
same_answer false false one other = refl

-- two answers, one after the other
both_done : {P Q R : Type 0} (x y : Result (Unit {0}) Failed) → (P → Q → R) → OnOk x P → OnOk y Q → OnOk (result_and x y) R
both_done (Ok x) (Ok y) then_ one other = then_ one other
both_done (Ok x) (Err e) then_ one other = tt
both_done (Err e) y then_ one other = tt

some_missed : {P Q R : Type 0} (x y : Result (Unit {0}) Failed) → (P → R) → (Q → R) → OnErr x P → OnErr y Q → OnErr (result_and x y) R
some_missed (Ok x) (Ok y) first second one other = tt
some_missed (Ok x) (Err e) first second one other = second other
some_missed (Err e) y first second one other = first one

-- where no block is rewritten a synced drive stays so
still_synced : (v : Map) (at : ℕ) (t m : Tale) → Rewriting v at [] t m → (drive : ℕ) → IsSynced drive t → IsSynced drive m
still_synced v at t m calm drive was = synced_still drive t m (λ block. calm.outside drive block (λ j none owned. absurd (omega arith))) was

-- the drive that is lost is none to sync, and another one is
pub none_that : (lost : Option DriveNo) (one : ℕ) → is_lost lost one ≡ true → (drive : ℕ) → is_that lost one drive ≡ false
none_that lost one left drive = false_from_ne_true (is_that lost one drive) (λ that.
    let same = same_number drive one (and_parts (drive == one) (not (is_lost lost drive)) that).0 in
    true_false (is_that lost one drive) that (and_right (drive == one) (not (is_lost lost drive)) (not_true (is_lost lost drive) (ap (is_lost lost) same ∙ left))))

pub is_itself : (lost : Option DriveNo) (one : ℕ) → is_lost lost one ≡ false → is_that lost one one ≡ true
is_itself lost one kept = and_from (one == one) (not (is_lost lost one)) (number_test one one refl) (true_not (is_lost lost one) kept)

-- a drive is added to a set
pub added_one : (before after : Drives) (drive : DriveNo) → has after drive ≡ true → ((other : DriveNo) → other ≢ drive → has after other ≡ has before other) → AreAdded (λ d. d == drive.0) before after
added_one before after drive added others d = elim (both_ways (d == drive.0)) [
  | inl same ↦
      let here : has after (record { 0 = d }) ≡ true = subst (λ (n : ℕ). has after (record { 0 = n }) ≡ true) (sym (same_number d drive.0 same)) added in
      rw same here
  | inr differs ↦ rw differs (others (record { 0 = d }) (λ e. differ d drive.0 differs (ap (λ (n : DriveNo). n.0) e)))
]

-- one drive
module _ {S : Type 0} (shelf : Ghosts S) (a b : S) where
  pub synced_none : (due : ℕ → Bool) (set : Drives) (x : Unit {0}) → b ≡ a → ((drive : ℕ) → due drive ≡ false) → AreSynced shelf a b due set set (Ok x)
  synced_none due set x same none = record {
    failing = λ _. false;
    among = λ drive is. absurd (cc (is));
    failed = λ drive is. absurd (cc (is));
    calm = λ drive is. ap (λ (s : S). shelf.faults s (OnDrive drive)) same;
    told = λ drive. refl;
    synced = λ t told. (t, ap shelf.tale same ∙ told, λ drive does fine. absurd (true_false (due drive) does (none drive)));
    whole = (refl, λ drive. refl);
    some = tt;
  }

  module _ (drive : DriveNo) (lost : Option DriveNo) where
    pub synced_well : (set : Drives) (x : Unit {0}) → AreCalm (DriveFailures shelf a b) → shelf.tale b ≡ and_then (shelf.tale a) (Synced drive.0) → AreSynced shelf a b (is_that lost drive.0) set set (Ok x)
    synced_well set x calm synced = record {
      failing = λ _. false;
      among = λ other is. absurd (cc (is));
      failed = λ other is. absurd (cc (is));
      calm = λ other is. calm other;
      told = λ other. refl;
      synced = λ t told. (
        Then t (Synced drive.0),
        synced ∙ ap (λ (o : Option Tale). and_then o (Synced drive.0)) told,
        λ other does fine. subst (λ (d : ℕ). IsSynced d (Then t (Synced drive.0))) (sym (same_number other drive.0 (and_parts (other == drive.0) (not (is_lost lost other)) does).0)) (synced_drive t drive.0),
      );
      whole = (refl, λ other. refl);
      some = tt;
    }

    pub synced_badly : (before after : Drives) (e : Failed) → FailedOn drive.0 (DriveFailures shelf a b) → shelf.tale b ≡ shelf.tale a → is_lost lost drive.0 ≡ false → AreAdded (λ d. d == drive.0) before after → AreSynced shelf a b (is_that lost drive.0) before after (Err e)
    synced_badly before after e failed same kept told = record {
      failing = λ d. d == drive.0;
      among = λ other is.
          let here = same_number other drive.0 is in
          and_from (other == drive.0) (not (is_lost lost other)) is (true_not (is_lost lost other) (ap (is_lost lost) here ∙ kept));
      failed = λ other is. subst (λ (d : ℕ). (DriveFailures shelf a b d).some) (sym (same_number other drive.0 is)) failed.here;
      calm = λ other is. failed.others other (differ other drive.0 is);
      told = told;
      synced = λ t is. (t, same ∙ is, λ other does fine. absurd (true_false (other == drive.0) (and_parts (other == drive.0) (not (is_lost lost other)) does).0 fine));
      whole = tt;
      some = (drive.0, number_test drive.0 drive.0 refl);
    }

-- more drives behind others
module _ {S : Type 0} (shelf : Ghosts S) (a b c : S) (v : Map) (at : ℕ) (one two all : ℕ → Bool) (whole : (drive : ℕ) → all drive ≡ (one drive || two drive)) (fresh : (drive : ℕ) → two drive ≡ true → one drive ≡ false)
    (before mid after : Drives) (x y : Result (Unit {0}) Failed) (first : AreSynced shelf a b one before mid x) (second : AreSynced shelf b c two mid after y) (calm : AtEachTale shelf (Rewriting v at []) b c) where
  abbrev failing_all : ℕ → Bool
  failing_all drive = first.failing drive || second.failing drive

  -- a call on the first ones is none on the others
  first_alone : (drive : ℕ) → one drive ≡ true → second.failing drive ≡ false
  first_alone drive is = false_from_ne_true (second.failing drive) (λ failing. true_false (one drive) is (fresh drive (second.among drive failing)))

  second_alone : (drive : ℕ) → two drive ≡ true → first.failing drive ≡ false
  second_alone drive is = false_from_ne_true (first.failing drive) (λ failing. true_false (one drive) (first.among drive failing) (fresh drive is))

  all_failed : (drive : ℕ) → failing_all drive ≡ true → (DriveFailures shelf a c drive).some
  all_failed drive is = elim (one_of (first.failing drive) (second.failing drive) is) [
    | inl here ↦
        let still = second.calm drive (first_alone drive (first.among drive here)) in
        (within_calm (shelf.faults a (OnDrive drive)) (shelf.faults b (OnDrive drive)) (shelf.faults c (OnDrive drive)) still).some (first.failed drive here)
    | inr there ↦
        let still = first.calm drive (second_alone drive (second.among drive there)) in
        (calm_before (shelf.faults a (OnDrive drive)) (shelf.faults b (OnDrive drive)) (shelf.faults c (OnDrive drive)) still).some (second.failed drive there)
  ]

  all_synced : (t u m : Tale) → ((drive : ℕ) → one drive ≡ true → first.failing drive ≡ false → IsSynced drive u) → ((drive : ℕ) → two drive ≡ true → second.failing drive ≡ false → IsSynced drive m) → Rewriting v at [] u m
      → (drive : ℕ) → all drive ≡ true → failing_all drive ≡ false → IsSynced drive m
  all_synced t u m had more still drive does fine =
      let neither = or_parts (first.failing drive) (second.failing drive) fine in
      elim (one_of (one drive) (two drive) (sym (whole drive) ∙ does)) [
        | inl here ↦ still_synced v at u m still drive (had drive here neither.0)
        | inr there ↦ more drive there neither.1
      ]

  pub synced_more : AreSynced shelf a c all before after (result_and x y)
  synced_more = record {
    failing = failing_all;
    among = λ drive is. whole drive ∙ either_of (one drive) (two drive) (elim (one_of (first.failing drive) (second.failing drive) is) [
      | inl here ↦ inl (first.among drive here)
      | inr there ↦ inr (second.among drive there)
    ]);
    failed = all_failed;
    calm = λ drive is. let neither = or_parts (first.failing drive) (second.failing drive) is in second.calm drive neither.1 ∙ first.calm drive neither.0;
    told = λ drive. second.told drive ∙ ap (λ (t : Bool). second.failing drive || t) (first.told drive) ∙ either_turned (second.failing drive) (first.failing drive) (has before (record { 0 = drive }));
    synced =
        let both = ends_both (λ _ u. (drive : ℕ) → two drive ≡ true → second.failing drive ≡ false → IsSynced drive u) (Rewriting v at [])
        (λ u m. ((drive : ℕ) → two drive ≡ true → second.failing drive ≡ false → IsSynced drive m) × Rewriting v at [] u m) (shelf.tale b) (shelf.tale c) (λ u m more still. (more, still)) second.synced (moments_end (Rewriting v at []) (shelf.tale b) (shelf.tale c) calm) in
        ends_more (λ _ u. (drive : ℕ) → one drive ≡ true → first.failing drive ≡ false → IsSynced drive u) (λ u m. ((drive : ℕ) → two drive ≡ true → second.failing drive ≡ false → IsSynced drive m) × Rewriting v at [] u m)
        (λ _ u. (drive : ℕ) → all drive ≡ true → failing_all drive ≡ false → IsSynced drive u) (shelf.tale a) (shelf.tale b) (shelf.tale c) (λ t u m had more. all_synced t u m had more.0 more.1) first.synced both;
    whole = both_done x y (λ one other. (other.0 ∙ one.0, λ drive. rw (one.1 drive, other.1 drive) refl)) first.whole second.whole;
    some = some_missed x y (λ one. (one.0, either_of (first.failing one.0) (second.failing one.0) (inl one.1))) (λ other. (other.0, either_of (first.failing other.0) (second.failing other.0) (inr other.1))) first.some second.some;
  }

-- syncs behind calls, and behind syncs
module _ {S : Type 0} (shelf : Ghosts S) (a b c : S) where
  pub syncs_behind : (j k m blocks : ℕ) → j + k ≡ m → MadeCalls shelf a b j blocks → MadeSyncs shelf b c k → MadeCalls shelf a c m blocks
  syncs_behind j zero m blocks all first same =
      let count : j ≡ m = omega (arith, all) in
      subst (λ (s : S). MadeCalls shelf a s m blocks) (sym same) (subst (λ (n : ℕ). MadeCalls shelf a b n blocks) count first)
  syncs_behind j (suc k) m blocks all first took = took_more shelf.calls shelf.written a b c j (suc k) blocks 0 m blocks all (omega arith) first took

  pub syncs_more : (j k m : ℕ) → j + k ≡ m → MadeSyncs shelf a b j → MadeSyncs shelf b c k → MadeSyncs shelf a c m
  syncs_more zero k m all same second =
      let count : k ≡ m = omega (arith, all) in
      subst (λ (s : S). MadeSyncs shelf s c m) same (subst (λ (n : ℕ). MadeSyncs shelf b c n) count second)
  syncs_more (suc j) k m all first second =
      let count : suc (j + k) ≡ m = omega (arith, all) in
      let both : MadeSyncs shelf a c (suc (j + k)) = syncs_behind (suc j) k (suc (j + k)) 0 (omega arith) first second in
      subst (λ (n : ℕ). MadeSyncs shelf a c n) count both

-- the drives that are synced up to the next one
module _ (v : Map) (at place count : ℕ) (piece : Piece) (is : IsPiece v (at + place) (count - place) piece) (more : place < count) (begins : is_new v at place ≡ true) (lost : Option DriveNo)
    (end : ℕ) (behind : place + piece.count ≤ end) (seen : (k : ℕ) → place + piece.count ≤ k → k < end → is_new v at k ≡ false) where
  further : place < end
  further = let some = is.some in omega arith

  here : drive_of (v.copies (at + place)) ≡ piece.drive.0
  here = drive_here v at place count piece is place (omega arith) (let some = is.some in omega arith)

  later : (j : ℕ) → place < j → j < end → is_new v at j ≡ false
  later = seen_until v at place count piece is end seen

  -- it is on a drive of none before
  not_yet : has_drive v at place piece.drive.0 ≡ false
  not_yet = false_from_ne_true (has_drive v at place piece.drive.0) (λ was. true_false (is_new v at place) begins (not_true (has_drive v at place (drive_of (v.copies (at + place)))) (ap (has_drive v at place) here ∙ was)))

  drives_then : (drive : ℕ) → has_drive v at end drive ≡ (has_drive v at place drive || drive == piece.drive.0)
  drives_then drive = same_answer (has_drive v at end drive) (has_drive v at place drive || drive == piece.drive.0)
      (λ has. either_of (has_drive v at place drive) (drive == piece.drive.0) (elim (has_back v at place end drive further later has) [
        | inl first ↦ inr (number_test drive piece.drive.0 (sym first ∙ here))
        | inr earlier ↦ inl earlier
      ]))
      (λ has. elim (one_of (has_drive v at place drive) (drive == piece.drive.0) has) [
        | inl earlier ↦ has_grows v at place end drive (let lt = further in omega arith) earlier
        | inr first ↦ has_at v at end place drive further (here ∙ sym (same_number drive piece.drive.0 first))
      ])

  pub due_then : (drive : ℕ) → is_due v at lost end drive ≡ (is_due v at lost place drive || is_that lost piece.drive.0 drive)
  due_then drive = ap (λ (h : Bool). h && not (is_lost lost drive)) (drives_then drive) ∙ and-or_distrib_right (has_drive v at place drive) (drive == piece.drive.0) (not (is_lost lost drive))

  pub due_fresh : (drive : ℕ) → is_that lost piece.drive.0 drive ≡ true → is_due v at lost place drive ≡ false
  due_fresh drive that =
      let first = same_number drive piece.drive.0 (and_parts (drive == piece.drive.0) (not (is_lost lost drive)) that).0 in
      ap (λ (h : Bool). h && not (is_lost lost drive)) (ap (has_drive v at place) first ∙ not_yet)

  pub syncs_then : syncs v at lost place + (if is_lost lost piece.drive.0 then 0 else 1) ≡ syncs v at lost end
  syncs_then = elim (both_ways (is_lost lost piece.drive.0)) [
    | inl left ↦
        let none = count_still (is_sync v at lost) place end (let lt = further in omega arith) (λ j above below. skipped left j above below) in
        rw left (omega (arith, none))
    | inr kept ↦
        let first : is_sync v at lost place ≡ true = and_from (is_new v at place) (not (is_lost lost (drive_of (v.copies (at + place))))) begins (true_not (is_lost lost (drive_of (v.copies (at + place)))) (ap (is_lost lost) here ∙ kept)) in
        let turn = count_turn (is_sync v at lost) place end further first (λ j above below. ap (λ (n : Bool). n && not (is_lost lost (drive_of (v.copies (at + j))))) (later j above below)) in
        rw kept (sym turn)
  ]
    where
      first_skipped : is_lost lost piece.drive.0 ≡ true → is_sync v at lost place ≡ false
      first_skipped left = and_right (is_new v at place) (not (is_lost lost (drive_of (v.copies (at + place))))) (not_true (is_lost lost (drive_of (v.copies (at + place)))) (ap (is_lost lost) here ∙ left))

      skipped : is_lost lost piece.drive.0 ≡ true → (j : ℕ) → place ≤ j → j < end → is_sync v at lost j ≡ false
      skipped left j above below = elim (both_ways (nat_lt place j)) [
        | inl does ↦ ap (λ (n : Bool). n && not (is_lost lost (drive_of (v.copies (at + j))))) (later j (lt_of_test place j does) below)
        | inr not_behind ↦
            let le = le_of_test place j not_behind in
            let same : place ≡ j = omega arith in subst (λ (i : ℕ). is_sync v at lost i ≡ false) same (first_skipped left)
      ]

-- all that is known of the syncs of these drives
pub record HasSyncedAll {S : Type 0} (shelf : Ghosts S) (old new : S) (v : Map) (at : ℕ) (due : ℕ → Bool) (calls : ℕ) (before after : Drives) (result : Result (Unit {0}) Failed) : Type 0 where
  pub moments : AtEachTale shelf (Rewriting v at []) old new
  pub synced : AreSynced shelf old new due before after result
  pub counted : MadeSyncs shelf old new calls
  pub kept : KeptWhere shelf old new due

-- the drives of the first blocks are synced, up to one that is on another
pub record SoFar {S : Type 0} (shelf : Ghosts S) (old now : S) (v : Map) (at : ℕ) (lost : Option DriveNo) (count place : ℕ) (before after : Drives) (result : Result (Unit {0}) Failed) : Type 0 where
  pub so : HasSyncedAll shelf old now v at (is_due v at lost place) (syncs v at lost place) before after result
  pub within : place ≤ count
  pub begins : place < count → is_new v at place ≡ true

module _ {S : Type 0} (shelf : Ghosts S) (old : S) (v : Map) (at : ℕ) (lost : Option DriveNo) (count : ℕ) (before : Drives) where
  none_due : (drive : ℕ) → is_due v at lost 0 drive ≡ false
  none_due drive = ap (λ (h : Bool). h && not (is_lost lost drive)) (no_drive v at drive)

  none_made : MadeSyncs shelf old old (syncs v at lost 0)
  unfolding count_to
  none_made = refl

  pub so_far_none : (x : Unit {0}) → SoFar shelf old old v at lost count 0 before before (Ok x)
  so_far_none x = record {
    so = record {
      moments = moments_none (Rewriting v at []) (shelf.tale old) (shelf.tale old) refl (rewritings_join.still v at []);
      synced = synced_none shelf old old (is_due v at lost 0) before x refl none_due;
      counted = none_made;
      kept = where_none shelf old (is_due v at lost 0);
    };
    within = omega arith;
    begins = λ below. first_is_new v at;
  }

  module _ (now next : S) (place : ℕ) (mid after : Drives) (x y : Result (Unit {0}) Failed) (so_far : SoFar shelf old now v at lost count place before mid x)
      (piece : Piece) (is : IsPiece v (at + place) (count - place) piece) (more : place < count)
      (end : ℕ) (behind : place + piece.count ≤ end) (until : end ≤ count) (seen : (k : ℕ) → place + piece.count ≤ k → k < end → is_new v at k ≡ false) (first : end < count → is_new v at end ≡ true)
      (one : HasSyncedAll shelf now next v at (is_that lost piece.drive.0) (if is_lost lost piece.drive.0 then 0 else 1) mid after y) where
    new : is_new v at place ≡ true
    new = so_far.begins more

    due : (drive : ℕ) → is_due v at lost end drive ≡ (is_due v at lost place drive || is_that lost piece.drive.0 drive)
    due = due_then v at place count piece is more new lost end behind seen

    fresh : (drive : ℕ) → is_that lost piece.drive.0 drive ≡ true → is_due v at lost place drive ≡ false
    fresh = due_fresh v at place count piece is more new lost end behind seen

    pub so_far_more : SoFar shelf old next v at lost count end before after (result_and x y)
    so_far_more = record {
      so = record {
        moments = moments_more (Rewriting v at []) (Rewriting v at []) (Rewriting v at []) (shelf.tale old) (shelf.tale now) (shelf.tale next) (λ t m is. is) (λ t u m one two. rewritings_join.more v at [] t u m one two) so_far.so.moments one.moments;
        synced = synced_more shelf old now next v at (is_due v at lost place) (is_that lost piece.drive.0) (is_due v at lost end) due fresh before mid after x y so_far.so.synced one.synced one.moments;
        counted = syncs_more shelf old now next (syncs v at lost place) (if is_lost lost piece.drive.0 then 0 else 1) (syncs v at lost end) (syncs_then v at place count piece is more new lost end behind seen) so_far.so.counted one.counted;
        kept = where_then shelf old now next (is_due v at lost place) (is_that lost piece.drive.0) (is_due v at lost end)
            (λ drive does. due drive ∙ either_of (is_due v at lost place drive) (is_that lost piece.drive.0 drive) (inl does))
            (λ drive does. due drive ∙ either_of (is_due v at lost place drive) (is_that lost piece.drive.0 drive) (inr does))
            (λ drive that. so_far.so.kept.others (OnDrive drive) (not_passing (is_due v at lost place) drive (fresh drive that)))
            so_far.so.kept one.kept;
      };
      within = until;
      begins = first;
    }
