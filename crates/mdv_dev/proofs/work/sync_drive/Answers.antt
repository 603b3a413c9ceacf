use Rattle.std.proofs.Common.{◌+◌, ◌-◌, ◌≤◌, ◌≡◌, ℕ, true, [], Option, refl, sym, ◌∙◌, arith}
use Rattle.mdv_shelf.specs.Tale.{Tale}
use Rattle.mdv_shelf.specs.Calls.{OnDrive}
use Rattle.mdv_shelf.specs.Moments.{Ends, Moments}
use Rattle.mdv_shelf.specs.Shelves.{DriveFailures}
use Rattle.mdv_shelf.proofs.InTime.{kept_on_call}
use Rattle.mdv_map.specs.Maps.{Map}
use Rattle.mdv_map.specs.Requests.{OnDrives, Rewriting}
use Rattle.mdv_dev.specs.Below.{IsSynced}
use Rattle.mdv_dev.specs.Works.{LeavesBuffer, HasDoneOf, HasSyncedOf, news, written_of, is_turn}
use Rattle.mdv_dev.specs.Pieces.{has_drive, is_new}
use Rattle.mdv_dev.specs.declared.work.WorkKind.{WorkKind}
use Rattle.mdv_dev.specs.declared.work.WorkKind.TheVariants.{Flush, Read}
use Rattle.mdv_dev.proofs.Counting.{has_at}
use Rattle.mdv_dev.proofs.Drives.{where_on}
use Rattle.mdv_dev.proofs.Failing.{calm_on, failed_on}
use Rattle.mdv_dev.proofs.Lying.{drive_here, in_drive, seen_until}
use Rattle.mdv_dev.proofs.Turning.{carry_ends, ends_still, missed, sync_ends, sync_moments, turn_counted, turn_missed, turned}
use Rattle.mdv_dev.proofs.work.sync_drive.Goals as goal

written_none : (w : WorkKind) (n : ℕ) → w ≡ Flush → 0 ≡ written_of w n
written_none w n is = rw is refl

written_few : (w : WorkKind) (n : ℕ) → w ≡ Flush → 0 ≤ written_of w n
written_few w n is = omega arith

same_buffer : (w : WorkKind) → w ≡ Flush → LeavesBuffer w [] []
same_buffer w is = rw is refl

turn_is : (w : WorkKind) (v : Map) (at k : ℕ) → w ≡ Flush → is_turn v w at k ≡ is_new v at k
turn_is w v at k is = rw is refl

not_read : (w : WorkKind) (P : Type 0) → w ≡ Flush → w ≡ Read → P
not_read w P is read = absurd (cc (is, read))

moments_of : (w : WorkKind) → w ≡ Flush → (v : Map) (at : ℕ) (old new : Option Tale) → Moments (Rewriting v at []) old new → Moments (Rewriting v at (news w [])) old new
moments_of w is v at old new moments = rw is moments

done_of : (w : WorkKind) → w ≡ Flush → (v : Map) (at count done end : ℕ) (old new : Option Tale)
    → Ends (λ t u. (OnDrives v (has_drive v at done) at count t → OnDrives v (has_drive v at end) at count u) × ((drive : ℕ) → (has_drive v at done drive ≡ true → IsSynced drive t) → has_drive v at end drive ≡ true → IsSynced drive u)) old new
    → Ends (λ t u. (HasDoneOf w v at count done [] t → HasDoneOf w v at count end [] u) × ((drive : ℕ) → HasSyncedOf w v at done drive t → HasSyncedOf w v at end drive u)) old new
done_of w is v at count done end old new ends = rw is ends

pub sync-requires : goal.sync-requires
sync-requires g c =
    let v = g.D.Placed.map c.args.device.now in
    let w = c.args.work.now in
    let within = c.requires.open.within in
    let some = c.requires.open.some_left in
    let there = in_drive v (w.at + w.done) (w.count - w.done) c.piece-piece.result c.piece-piece.ensures (g.S.Shelf.sizes c.args.shelf.now) c.requires.on (omega arith) in
    let known = there.known in omega arith

pub returns-in-Err-clause-moments : goal.returns-in-Err-clause-moments
returns-in-Err-clause-moments g c =
    let v = g.D.Placed.map c.args.device.now in
    let w = c.args.work.now in
    record {
      each = moments_of w.kind c.requires.kind v w.at (g.S.Shelf.tale c.args.shelf.now) (g.S.Shelf.tale c.sync.new.self) (sync_moments v w.at c.piece-piece.result.drive.0 (g.S.Shelf.tale c.args.shelf.now) (g.S.Shelf.tale c.sync.new.self) _ c.sync.ensures.syncs);
      still = not_read w.kind _ c.requires.kind;
    }

pub returns-in-Err-clause-done : goal.returns-in-Err-clause-done
returns-in-Err-clause-done g c =
    let v = g.D.Placed.map c.args.device.now in
    let w = c.args.work.now in
    carry_ends v w w [] [] (g.S.Shelf.tale c.args.shelf.now) (g.S.Shelf.tale c.sync.new.self) (ends_still _ (g.S.Shelf.tale c.args.shelf.now) (g.S.Shelf.tale c.sync.new.self) c.in-Err.ensures.syncs (λ t told. (λ had. had, λ drive had. had)))

pub returns-in-Err-clause-turned : goal.returns-in-Err-clause-turned
returns-in-Err-clause-turned g c =
    let v = g.D.Placed.map c.args.device.now in
    let w = c.args.work.now in
    let some = c.piece-piece.ensures.some in
    let here = drive_here v w.at w.done w.count c.piece-piece.result c.piece-piece.ensures w.done (omega arith) (omega arith) in
    let on = kept_on_call g.S.Shelf (OnDrive c.piece-piece.result.drive.0) _ _ c.sync.ensures.noted c.sync.ensures.keeps c.sync.ensures.cause.others in
    missed v (DriveFailures g.S.Shelf c.args.shelf.now c.sync.new.self) w [] [] c.piece-piece.result.drive (same_buffer w.kind c.requires.kind) refl c.requires.open.some_left c.requires.open.begins
    (sym here) (failed_on g.S.Shelf _ _ c.piece-piece.result.drive.0 on c.in-Err.ensures.cause.own.failed)

pub returns-in-Err-clause-counted : goal.returns-in-Err-clause-counted
returns-in-Err-clause-counted g c =
    turn_missed g.S.Shelf c.args.shelf.now c.sync.new.self c.args.work.now c.args.work.now 0 c.sync.ensures.counted (omega arith) c.piece-piece.result.drive

pub returns-in-Err-clause-kept : goal.returns-in-Err-clause-kept
returns-in-Err-clause-kept g c =
    let v = g.D.Placed.map c.args.device.now in
    let w = c.args.work.now in
    let some = c.piece-piece.ensures.some in
    let here = drive_here v w.at w.done w.count c.piece-piece.result c.piece-piece.ensures w.done (omega arith) (omega arith) in
    where_on g.S.Shelf _ _ (has_drive v w.at w.count) c.piece-piece.result.drive.0 (has_at v w.at w.count w.done c.piece-piece.result.drive.0 c.requires.open.some_left here)
    (kept_on_call g.S.Shelf (OnDrive c.piece-piece.result.drive.0) _ _ c.sync.ensures.noted c.sync.ensures.keeps c.sync.ensures.cause.others)

pub returns-in-Ok-clause-moments : goal.returns-in-Ok-clause-moments
returns-in-Ok-clause-moments g c =
    let v = g.D.Placed.map c.args.device.now in
    let w = c.args.work.now in
    record {
      each = moments_of w.kind c.requires.kind v w.at (g.S.Shelf.tale c.args.shelf.now) (g.S.Shelf.tale c.sync.new.self) (sync_moments v w.at c.piece-piece.result.drive.0 (g.S.Shelf.tale c.args.shelf.now) (g.S.Shelf.tale c.sync.new.self) _ c.sync.ensures.syncs);
      still = not_read w.kind _ c.requires.kind;
    }

pub returns-in-Ok-clause-done : goal.returns-in-Ok-clause-done
returns-in-Ok-clause-done g c =
    let v = g.D.Placed.map c.args.device.now in
    let w = c.args.work.now in
    let seen = seen_until v w.at w.done w.count c.piece-piece.result c.piece-piece.ensures c.next_drive-work.result c.next_drive-work.ensures.seen in
    carry_ends v w (record w { done = c.next_drive-work.result }) [] [] (g.S.Shelf.tale c.args.shelf.now) (g.S.Shelf.tale c.sync.new.self)
    (done_of w.kind c.requires.kind v w.at w.count w.done c.next_drive-work.result (g.S.Shelf.tale c.args.shelf.now) (g.S.Shelf.tale c.sync.new.self)
    (sync_ends v w.at w.done w.count c.piece-piece.result c.piece-piece.ensures c.requires.open.some_left c.next_drive-work.result c.next_drive-work.ensures.behind seen (g.S.Shelf.tale c.args.shelf.now) (g.S.Shelf.tale c.sync.new.self) c.in-Ok.ensures.syncs))

pub returns-in-Ok-clause-turned : goal.returns-in-Ok-clause-turned
returns-in-Ok-clause-turned g c =
    let v = g.D.Placed.map c.args.device.now in
    let w = c.args.work.now in
    let some = c.piece-piece.ensures.some in
    let behind = c.next_drive-work.ensures.behind in
    let on = kept_on_call g.S.Shelf (OnDrive c.piece-piece.result.drive.0) _ _ c.sync.ensures.noted c.sync.ensures.keeps c.sync.ensures.cause.others in
    turned v (DriveFailures g.S.Shelf c.args.shelf.now c.sync.new.self) w [] [] (same_buffer w.kind c.requires.kind) refl tt c.next_drive-work.result refl (omega arith) c.next_drive-work.ensures.until c.requires.open.begins
    (λ j above below. turn_is w.kind v w.at j c.requires.kind ∙ seen_until v w.at w.done w.count c.piece-piece.result c.piece-piece.ensures c.next_drive-work.result c.next_drive-work.ensures.seen j above below)
    (λ below. turn_is w.kind v w.at c.next_drive-work.result c.requires.kind ∙ c.next_drive-work.ensures.first below)
    (calm_on g.S.Shelf _ _ c.piece-piece.result.drive.0 on c.in-Ok.ensures.cause.own.calm)

pub returns-in-Ok-clause-counted : goal.returns-in-Ok-clause-counted
returns-in-Ok-clause-counted g c =
    turn_counted g.S.Shelf c.args.shelf.now c.sync.new.self c.args.work.now (record c.args.work.now { done = c.next_drive-work.result }) 0 c.sync.ensures.counted (omega arith) tt (written_none c.args.work.now.kind _ c.requires.kind)

pub returns-in-Ok-clause-kept : goal.returns-in-Ok-clause-kept
returns-in-Ok-clause-kept g c =
    let v = g.D.Placed.map c.args.device.now in
    let w = c.args.work.now in
    let some = c.piece-piece.ensures.some in
    let here = drive_here v w.at w.done w.count c.piece-piece.result c.piece-piece.ensures w.done (omega arith) (omega arith) in
    where_on g.S.Shelf _ _ (has_drive v w.at w.count) c.piece-piece.result.drive.0 (has_at v w.at w.count w.done c.piece-piece.result.drive.0 c.requires.open.some_left here)
    (kept_on_call g.S.Shelf (OnDrive c.piece-piece.result.drive.0) _ _ c.sync.ensures.noted c.sync.ensures.keeps c.sync.ensures.cause.others)
