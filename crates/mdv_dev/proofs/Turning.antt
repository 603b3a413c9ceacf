-- The moments and the end of a turn.
use Rattle.std.proofs.Common.{◌≡◌, ◌⊎◌, inl, inr, ℕ, ◌+◌, ◌-◌, ◌<◌, ◌≤◌, true, false, nat_lt, List, [], length, take, drop, slice_index_or, Option, Some, Result, Ok, Err, refl, sym, ◌∙◌, ap, subst, arith}
use Rattle.mdv_shelf.specs.Tale.{Tale, Then, Wrote, Tore, Synced, covers, last}
use Rattle.mdv_shelf.specs.Calls.{Writes, Syncs, IsCounted, Took, and_then}
use Rattle.mdv_shelf.specs.Moments.{Moments, Ends}
use Rattle.mdv_shelf.specs.Settle.{IsOldOrNew, IsSynced, Settling}
use Rattle.mdv_shelf.specs.declared.shelf.Shelf.{Ghosts}
use Rattle.mdv_shelf.proofs.Between.{between_one, between_wider}
use Rattle.mdv_shelf.proofs.Blocks.{both_ways, kept_unwritten, last_written}
use Rattle.mdv_shelf.proofs.Counts.{took_one}
use Rattle.mdv_shelf.proofs.Moments.{moments_end, moments_none, moments_weaker}
use Rattle.mdv_shelf.proofs.Noted.{AfterSyncing, AfterWriting, moments_sync, moments_write}
use Rattle.mdv_shelf.proofs.Settled.{covered, settling_starts, settling_tore, settling_wrote, synced_drive, synced_still, told_synced}
use Rattle.mdv_map.specs.Maps.{HasDriveBlock, IsDisjoint, Map}
use Rattle.mdv_map.specs.Requests.{AreCopiesKept, AreRead, OnDrives, Rewriting}
use Rattle.mdv_map.proofs.Copies.{copy_of, le_of_test, lt_of_test}
use Rattle.mdv_map.proofs.Covering.{drive_of, from_of, to_of}
use Rattle.mdv_map.proofs.Joining.{rewritings_join}
use Rattle.mdv_map.proofs.Standing.{requests_stand}
use Rattle.mdv_dev.specs.Below.{AreCalm, DriveNo, FailedOn, Outcomes}
use Rattle.mdv_dev.specs.Pieces.{IsPiece, has_drive, is_new, is_start}
use Rattle.mdv_dev.specs.Pieces as pieces
use Rattle.mdv_dev.specs.Works.{Carries, HasDone, HasSynced, IsRewriting, IsTurned, IsTurnCounted, LeavesBuffer, is_turn, news, written_of}
use Rattle.mdv_dev.specs.declared.piece.Piece.{Piece}
use Rattle.mdv_dev.specs.declared.work.Work.{Work}
use Rattle.mdv_dev.proofs.Counting.{count_turn, has_back}
use Rattle.mdv_dev.proofs.Lying.{copied, drive_here, owned, owns}

-- the next piece of a request of which so many blocks are done
module _ (v : Map) (at done count : ℕ) (piece : Piece) (is : IsPiece v (at + done) (count - done) piece) (one : IsDisjoint v) (within : at + count ≤ v.blocks) (more : done < count) where
  -- what is done to the piece is done to its blocks
  rewrites : (xs : List (List ℕ)) → length xs ≡ piece.count → (t m : Tale) → Settling piece.drive.0 piece.block xs t m → Rewriting v (at + done) xs t m
  rewrites xs long t m settling = record {
    inside = λ k drive block lt has.
        let there = owned v (at + done) (count - done) piece is k drive block (omega arith) has in
        let here = settling.inside (piece.block + k) (covered piece.drive.0 piece.block (length xs) k lt) in
        let index : (piece.block + k) - piece.block ≡ k = omega arith in
        rw (there.0, there.1) (subst (λ (i : ℕ). IsOldOrNew t m piece.drive.0 (piece.block + k) (slice_index_or xs i [])) index here);
    outside = λ drive block off. settling.outside drive block (out drive block off);
    quiet = settling.quiet;
  }
    where
      out : (drive block : ℕ) → ((k : ℕ) → k < length xs → HasDriveBlock (v.places (at + done + k)) drive block → ⊥) → covers piece.drive.0 piece.block (length xs) drive block ≡ false
      out drive block off = elim (both_ways (covers piece.drive.0 piece.block (length xs) drive block)) [
        | inl does ↦
            let on = drive_of piece.drive.0 piece.block (length xs) drive block does in
            let from = from_of piece.drive.0 piece.block (length xs) drive block does in
            let to = to_of piece.drive.0 piece.block (length xs) drive block does in
            absurd (off (block - piece.block) (omega arith) (owns v (at + done) (count - done) piece is (block - piece.block) drive block (omega arith) (sym on) (omega arith)))
        | inr not ↦ not
      ]

  -- the blocks before it are kept
  front_kept : (xs : List (List ℕ)) → length xs ≡ piece.count → (t m : Tale) → Rewriting v (at + done) xs t m → AreCopiesKept v at done t m
  front_kept xs long t m rewriting = let few = is.within in requests_stand.beside v at done (at + done) xs t m one (omega arith) (omega arith) (inl (omega arith)) rewriting

  -- what is read of the piece, beside what was read before it
  pub more_read : (blocks : List (List ℕ)) (t : Tale) → AreRead v at done blocks t → ((j : ℕ) → j < piece.count → last t piece.drive.0 (piece.block + j) ≡ slice_index_or blocks (done + j) []) → AreRead v at (done + piece.count) blocks t
  more_read blocks t had here k x lt reading = elim (both_ways (nat_lt k done)) [
    | inl does ↦ had k x (lt_of_test k done does) reading
    | inr not ↦
        let le = le_of_test k done not in
        let same : at + k ≡ at + done + (k - done) = omega arith in
        let copy = copy_of (last t) (v.copies (at + k)) x reading in
        let there = copied v (at + done) (count - done) piece is (k - done) copy.drive copy.block (omega arith) (subst (λ (b : ℕ). HasDriveBlock (v.copies b) copy.drive copy.block) same copy.has) in
        let index : done + (k - done) ≡ k = omega arith in
        copy.is ∙ ap (λ (d : ℕ). last t d copy.block) there.0 ∙ ap (λ (b : ℕ). last t piece.drive.0 b) there.1 ∙ here (k - done) (omega arith) ∙ ap (λ (i : ℕ). slice_index_or blocks i []) index
  ]

  module _ (xs blocks : List (List ℕ)) (long : length xs ≡ piece.count) (room : length blocks ≡ count) (same : (k : ℕ) → k < length xs → slice_index_or xs k [] ≡ slice_index_or blocks (done + k) []) where
    after_piece : (t m : Tale) → AfterWriting piece.drive.0 piece.block xs t m → Rewriting v (at + done) xs t m
    after_piece t m (inl still) = subst (λ (u : Tale). Rewriting v (at + done) xs t u) (sym still) (rewrites xs long t t (settling_starts t piece.drive.0 piece.block xs))
    after_piece t m (inr (inl wrote)) = subst (λ (u : Tale). Rewriting v (at + done) xs t u) (sym wrote) (rewrites xs long t (Then t (Wrote piece.drive.0 piece.block xs)) (settling_wrote t piece.drive.0 piece.block xs))
    after_piece t m (inr (inr (took, tore))) =
        subst (λ (u : Tale). Rewriting v (at + done) xs t u) (sym tore) (rewrites xs long t (Then t (Tore piece.drive.0 piece.block xs took)) (settling_tore t piece.drive.0 piece.block xs took))

    pub write_moments : {T E : Type 0} (old new : Option Tale) (result : Result T E) → Writes old piece.drive.0 piece.block xs result new → Moments (Rewriting v at blocks) old new
    write_moments old new result writes =
        moments_weaker (AfterWriting piece.drive.0 piece.block xs) (Rewriting v at blocks) old new
        (λ t m after. let few = is.within in rewritings_join.slice v at done xs blocks t m one (omega arith) (omega arith) same (after_piece t m after))
        (moments_write old new piece.drive.0 piece.block xs result writes)

    pub write_keeps : {T E : Type 0} (old new : Option Tale) (result : Result T E) → Writes old piece.drive.0 piece.block xs result new → Ends (λ t u. AreRead v at done blocks t → AreRead v at done blocks u) old new
    write_keeps old new result writes =
        moments_end (λ t u. AreRead v at done blocks t → AreRead v at done blocks u) old new
        (moments_weaker (AfterWriting piece.drive.0 piece.block xs) (λ t u. AreRead v at done blocks t → AreRead v at done blocks u) old new
        (λ t m after had. requests_stand.reads v at done blocks t m (front_kept xs long t m (after_piece t m after)) had)
        (moments_write old new piece.drive.0 piece.block xs result writes))

    pub write_reads : (old new : Option Tale) → new ≡ and_then old (Wrote piece.drive.0 piece.block xs) → Ends (λ t u. AreRead v at done blocks t → AreRead v at (done + piece.count) blocks u) old new
    write_reads old new wrote t told = (
      Then t (Wrote piece.drive.0 piece.block xs),
      wrote ∙ ap (λ (o : Option Tale). and_then o (Wrote piece.drive.0 piece.block xs)) told,
      λ had. more_read blocks (Then t (Wrote piece.drive.0 piece.block xs))
          (requests_stand.reads v at done blocks t (Then t (Wrote piece.drive.0 piece.block xs)) (front_kept xs long t (Then t (Wrote piece.drive.0 piece.block xs)) (after_piece t (Then t (Wrote piece.drive.0 piece.block xs)) (inr (inl refl)))) had)
          (λ j lt.
          let here = covered piece.drive.0 piece.block (length xs) j (omega arith) in
          let index : (piece.block + j) - piece.block ≡ j = omega arith in
          last_written t (Wrote piece.drive.0 piece.block xs) piece.drive.0 (piece.block + j) here ∙ ap (λ (i : ℕ). slice_index_or xs i []) index ∙ same j (omega arith)),
    )

-- a sync: no block is changed
module _ (v : Map) (at drive : ℕ) where
  after_sync : (t m : Tale) → AfterSyncing drive t m → Rewriting v at [] t m
  after_sync t m (inl still) = subst (λ (u : Tale). Rewriting v at [] t u) (sym still) (rewritings_join.still v at [] t)
  after_sync t m (inr synced) = subst (λ (u : Tale). Rewriting v at [] t u) (sym synced) (record {
    inside = λ k drive block lt has. absurd (omega arith);
    outside = λ other block off. kept_unwritten t (Synced drive) other block refl;
    quiet = told_synced t drive;
  })

  pub sync_moments : {T E : Type 0} (old new : Option Tale) (result : Result T E) → Syncs old drive result new → Moments (Rewriting v at []) old new
  sync_moments old new result syncs = moments_weaker (AfterSyncing drive) (Rewriting v at []) old new after_sync (moments_sync old new drive result syncs)

module _ (v : Map) (at done count : ℕ) (piece : Piece) (is : IsPiece v (at + done) (count - done) piece) (more : done < count) (end : ℕ) (behind : done + piece.count ≤ end) (seen : (j : ℕ) → done < j → j < end → is_new v at j ≡ false) where
  -- a drive of its blocks up to there is the one that is synced, or one of those before
  synced_or_before : (t : Tale) (drive : ℕ) → has_drive v at end drive ≡ true → IsSynced drive (Then t (Synced piece.drive.0)) ⊎ (has_drive v at done drive ≡ true)
  synced_or_before t drive on =
      let some = is.some in
      elim (has_back v at done end drive (omega arith) seen on) [
        | inl first ↦
            let here : piece.drive.0 ≡ drive = sym (drive_here v at done count piece is done (omega arith) (omega arith)) ∙ first in inl (subst (λ (d : ℕ). IsSynced d (Then t (Synced piece.drive.0))) here (synced_drive t piece.drive.0))
        | inr earlier ↦ inr earlier
      ]

  pub sync_ends : (old new : Option Tale) → new ≡ and_then old (Synced piece.drive.0)
      → Ends (λ t u. (OnDrives v (has_drive v at done) at count t → OnDrives v (has_drive v at end) at count u) × ((drive : ℕ) → (has_drive v at done drive ≡ true → IsSynced drive t) → has_drive v at end drive ≡ true → IsSynced drive u)) old new
  sync_ends old new synced t told = (
    Then t (Synced piece.drive.0),
    synced ∙ ap (λ (o : Option Tale). and_then o (Synced piece.drive.0)) told,
    (
      λ had k drive block x lt has on left. elim (synced_or_before t drive on) [
        | inl now ↦ now block x left
        | inr earlier ↦ let kept = kept_unwritten t (Synced piece.drive.0) drive block refl in had k drive block x lt has earlier (kept.left x left) ∙ sym kept.last
      ],
      λ drive had on. elim (synced_or_before t drive on) [
        | inl now ↦ now
        | inr earlier ↦ synced_still drive t (Then t (Synced piece.drive.0)) (λ block. kept_unwritten t (Synced piece.drive.0) drive block refl) (had earlier)
      ],
    ),
  )

-- what a turn is, at its end
module _ (v : Map) (calls : Outcomes) (work : Work) (before after : List (List ℕ)) (buffer : LeavesBuffer work.kind before after) (front : take work.done after ≡ take work.done before) where
  pub turned : {T : Type 0} (x : T) (end : ℕ) → drop end after ≡ drop end before → work.done < end → end ≤ work.count → is_turn v work.kind work.at work.done ≡ true → ((j : ℕ) → work.done < j → j < end → is_turn v work.kind work.at j ≡ false)
      → (end < work.count → is_turn v work.kind work.at end ≡ true) → AreCalm calls → IsTurned {T = T} v calls work before (record work { done = end }) after (Ok x)
  turned x end behind lt le first none next calm = record {
    same = refl;
    buffer = buffer;
    front = front;
    behind = behind;
    within = le;
    begins = next;
    rose = (lt, count_turn (is_turn v work.kind work.at) work.done end lt first none);
    calm = calm;
    stayed = tt;
  }

-- and where its call failed
pub missed : {T : Type 0} (v : Map) (calls : Outcomes) (work : Work) (before after : List (List ℕ)) (drive : DriveNo) → LeavesBuffer work.kind before after → take work.done after ≡ take work.done before → work.done < work.count → is_turn v work.kind work.at work.done ≡ true
    → drive.0 ≡ pieces.drive_of (v.copies (work.at + work.done)) → FailedOn drive.0 calls → IsTurned {T = T} v calls work before work after (Err drive)
missed v calls work before after drive buffer front lt first on cause = record {
  same = refl;
  buffer = buffer;
  front = front;
  behind = tt;
  within = omega arith;
  begins = λ _. first;
  rose = tt;
  calm = tt;
  stayed = (refl, on, cause);
}

-- what it takes
module _ {S : Type 0} (shelf : Ghosts S) (before now : S) (old new : Work) (blocks : ℕ) (counted : IsCounted shelf.calls shelf.written before now blocks) (few : blocks ≤ written_of old.kind (old.count - old.done)) where
  pub turn_counted : {T E : Type 0} (x : T) → blocks ≡ written_of old.kind (new.done - old.done) → IsTurnCounted {T = T} {E = E} shelf before now old new (Ok x)
  turn_counted x same = record {
    done = subst (λ (n : ℕ). Took shelf.calls shelf.written before now 1 n) same (took_one shelf.calls shelf.written before now blocks counted);
    any = between_wider shelf.calls shelf.written before now 1 1 blocks 1 1 (written_of old.kind (old.count - old.done)) (omega arith) (omega arith) few (between_one shelf.calls shelf.written before now blocks counted);
  }

  pub turn_missed : {T E : Type 0} (e : E) → IsTurnCounted {T = T} {E = E} shelf before now old new (Err e)
  turn_missed e = record {
    done = tt;
    any = between_wider shelf.calls shelf.written before now 1 1 blocks 1 1 (written_of old.kind (old.count - old.done)) (omega arith) (omega arith) few (between_one shelf.calls shelf.written before now blocks counted);
  }

-- what it carries on, told as a pair
pub carry_ends : (v : Map) (work new : Work) (before after : List (List ℕ)) (a b : Option Tale) → Ends (λ t u. (HasDone v work before t → HasDone v new after u) × ((drive : ℕ) → HasSynced v work drive t → HasSynced v new drive u)) a b → Ends (Carries v work before new after) a b
carry_ends v work new before after a b ends t told = let end = ends t told in (end.0, end.1, record { done = end.2.0; synced = end.2.1 })

-- where the tale stays, no block is rewritten
pub rewriting_still : {S : Type 0} (shelf : Ghosts S) (old new : S) (v : Map) (work : Work) (buffer : List (List ℕ)) → shelf.tale new ≡ shelf.tale old → IsRewriting shelf old new v work buffer
rewriting_still shelf old new v work buffer same = record {
  each = moments_none (Rewriting v work.at (news work.kind buffer)) (shelf.tale old) (shelf.tale new) same (rewritings_join.still v work.at (news work.kind buffer));
  still = λ is. same;
}

-- where the tale stays, what holds of it holds in the end
pub ends_still : (Q : Tale → Tale → Type 0) (old new : Option Tale) → new ≡ old → ((t : Tale) → old ≡ Some t → Q t t) → Ends Q old new
ends_still Q old new same here t told = (t, same ∙ told, here t told)
