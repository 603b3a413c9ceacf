use Rattle.std.proofs.Common.{◌+◌, ◌-◌, ◌≤◌, ◌≡◌, ℕ, List, length, Option, refl, sym, ◌∙◌, subst, arith}
use Rattle.mdv_shelf.specs.Tale.{Tale}
use Rattle.mdv_shelf.specs.Calls.{InDrive, OnDrive}
use Rattle.mdv_shelf.specs.Moments.{Ends, Moments}
use Rattle.mdv_shelf.specs.Shelves.{DriveFailures}
use Rattle.mdv_shelf.proofs.InTime.{kept_on_call}
use Rattle.mdv_map.specs.Maps.{Map}
use Rattle.mdv_map.specs.Requests.{AreRead, Rewriting}
use Rattle.mdv_dev.specs.Works.{LeavesBuffer, HasRoom, HasDoneOf, HasSyncedOf, written_of, is_turn, news}
use Rattle.mdv_dev.specs.Pieces.{has_drive, is_start}
use Rattle.mdv_dev.specs.declared.work.WorkKind.{WorkKind}
use Rattle.mdv_dev.specs.declared.work.WorkKind.TheVariants.{Read, Write}
use Rattle.mdv_dev.proofs.Counting.{has_at}
use Rattle.mdv_dev.proofs.Drives.{where_on}
use Rattle.mdv_dev.proofs.Failing.{calm_on, failed_on}
use Rattle.mdv_dev.proofs.Lying.{drive_here, in_drive, starts_in, starts_next}
use Rattle.mdv_dev.proofs.Slicing.{part_is, part_long}
use Rattle.mdv_dev.proofs.Turning.{carry_ends, missed, turn_counted, turn_missed, turned, write_keeps, write_moments, write_reads}
use Rattle.mdv_dev.proofs.work.write_piece.Goals as goal

-- the buffer has its blocks
same_room : (w : WorkKind) (count room : ℕ) → w ≡ Write → HasRoom w count room → room ≡ count
same_room w count room is has = rw is at has

same_buffer : (w : WorkKind) (buffer : List (List ℕ)) → w ≡ Write → LeavesBuffer w buffer buffer
same_buffer w buffer is = rw is refl

written_is : (w : WorkKind) (n m : ℕ) → w ≡ Write → n ≡ m → n ≡ written_of w m
written_is w n m is same = rw is same

written_few : (w : WorkKind) (n m : ℕ) → w ≡ Write → n ≤ m → n ≤ written_of w m
written_few w n m is few = rw is few

turn_is : (w : WorkKind) (v : Map) (at k : ℕ) → w ≡ Write → is_turn v w at k ≡ is_start v at k
turn_is w v at k is = rw is refl

moments_of : (w : WorkKind) → w ≡ Write → (v : Map) (at : ℕ) (blocks : List (List ℕ)) (old new : Option Tale) → Moments (Rewriting v at blocks) old new → Moments (Rewriting v at (news w blocks)) old new
moments_of w is v at blocks old new moments = rw is moments

done_of : (w : WorkKind) → w ≡ Write → (v : Map) (at count done end : ℕ) (blocks : List (List ℕ)) (old new : Option Tale) → Ends (λ t u. AreRead v at done blocks t → AreRead v at end blocks u) old new
    → Ends (λ t u. (HasDoneOf w v at count done blocks t → HasDoneOf w v at count end blocks u) × ((drive : ℕ) → HasSyncedOf w v at done drive t → HasSyncedOf w v at end drive u)) old new
done_of w is v at count done end blocks old new ends = rw is (λ t told. let there = ends t told in (there.0, there.1, (there.2, λ drive had. tt)))

not_read : (w : WorkKind) (P : Type 0) → w ≡ Write → w ≡ Read → P
not_read w P is read = absurd (cc (is, read))

pub write-requires : goal.write-requires
write-requires g c =
    let v = g.D.Placed.map c.args.device.now in
    let w = c.args.work.now in
    let count = c.piece-piece.result.count in
    let room = same_room w.kind w.count (length c.args.from.now) c.requires.kind c.requires.open.buffer in
    let few = c.piece-piece.ensures.within in
    let some = c.requires.open.some_left in
    let there = in_drive v (w.at + w.done) (w.count - w.done) c.piece-piece.result c.piece-piece.ensures (g.S.Shelf.sizes c.args.shelf.now) c.requires.on (let within = c.requires.open.within in omega arith) in
    subst (λ (n : ℕ). InDrive (g.S.Shelf.sizes c.args.shelf.now) c.piece-piece.result.drive.0 c.piece-piece.result.block n) (sym (part_long w.done count c.args.from.now (omega arith))) there

pub returns-in-Err-clause-moments : goal.returns-in-Err-clause-moments
returns-in-Err-clause-moments g c =
    let v = g.D.Placed.map c.args.device.now in
    let w = c.args.work.now in
    let count = c.piece-piece.result.count in
    let room = same_room w.kind w.count (length c.args.from.now) c.requires.kind c.requires.open.buffer in
    let few = c.piece-piece.ensures.within in
    let some = c.requires.open.some_left in
    let fits : w.done + count ≤ length c.args.from.now = omega arith in
    record {
      each = moments_of w.kind c.requires.kind v w.at c.args.from.now (g.S.Shelf.tale c.args.shelf.now) (g.S.Shelf.tale c.write.new.self)
          (write_moments v w.at w.done w.count c.piece-piece.result c.piece-piece.ensures c.requires.disjoint c.requires.open.within some _ c.args.from.now (part_long w.done count c.args.from.now fits) room (part_is w.done count c.args.from.now fits)
          (g.S.Shelf.tale c.args.shelf.now) (g.S.Shelf.tale c.write.new.self) _ c.write.ensures.writes);
      still = not_read w.kind _ c.requires.kind;
    }

pub returns-in-Err-clause-done : goal.returns-in-Err-clause-done
returns-in-Err-clause-done g c =
    let v = g.D.Placed.map c.args.device.now in
    let w = c.args.work.now in
    let count = c.piece-piece.result.count in
    let room = same_room w.kind w.count (length c.args.from.now) c.requires.kind c.requires.open.buffer in
    let few = c.piece-piece.ensures.within in
    let some = c.requires.open.some_left in
    let fits : w.done + count ≤ length c.args.from.now = omega arith in
    carry_ends v w w c.args.from.now c.args.from.now (g.S.Shelf.tale c.args.shelf.now) (g.S.Shelf.tale c.write.new.self)
    (done_of w.kind c.requires.kind v w.at w.count w.done w.done c.args.from.now (g.S.Shelf.tale c.args.shelf.now) (g.S.Shelf.tale c.write.new.self)
    (write_keeps v w.at w.done w.count c.piece-piece.result c.piece-piece.ensures c.requires.disjoint c.requires.open.within some _ c.args.from.now (part_long w.done count c.args.from.now fits) room (part_is w.done count c.args.from.now fits)
    (g.S.Shelf.tale c.args.shelf.now) (g.S.Shelf.tale c.write.new.self) _ c.write.ensures.writes))

pub returns-in-Err-clause-turned : goal.returns-in-Err-clause-turned
returns-in-Err-clause-turned g c =
    let v = g.D.Placed.map c.args.device.now in
    let w = c.args.work.now in
    let some = c.piece-piece.ensures.some in
    let here = drive_here v w.at w.done w.count c.piece-piece.result c.piece-piece.ensures w.done (omega arith) (omega arith) in
    let on = kept_on_call g.S.Shelf (OnDrive c.piece-piece.result.drive.0) _ _ c.write.ensures.noted c.write.ensures.keeps c.write.ensures.cause.others in
    missed v (DriveFailures g.S.Shelf c.args.shelf.now c.write.new.self) w c.args.from.now c.args.from.now c.piece-piece.result.drive (same_buffer w.kind c.args.from.now c.requires.kind) refl c.requires.open.some_left c.requires.open.begins
    (sym here) (failed_on g.S.Shelf _ _ c.piece-piece.result.drive.0 on c.in-Err.ensures.cause.own.failed)

pub returns-in-Err-clause-counted : goal.returns-in-Err-clause-counted
returns-in-Err-clause-counted g c =
    let w = c.args.work.now in
    let count = c.piece-piece.result.count in
    let room = same_room w.kind w.count (length c.args.from.now) c.requires.kind c.requires.open.buffer in
    let few = c.piece-piece.ensures.within in
    let some = c.requires.open.some_left in
    let long = part_long w.done count c.args.from.now (omega arith) in
    turn_missed g.S.Shelf c.args.shelf.now c.write.new.self w w _ c.write.ensures.counted (written_few w.kind _ _ c.requires.kind (omega arith)) c.piece-piece.result.drive

pub returns-in-Err-clause-kept : goal.returns-in-Err-clause-kept
returns-in-Err-clause-kept g c =
    let v = g.D.Placed.map c.args.device.now in
    let w = c.args.work.now in
    let some = c.piece-piece.ensures.some in
    let here = drive_here v w.at w.done w.count c.piece-piece.result c.piece-piece.ensures w.done (omega arith) (omega arith) in
    where_on g.S.Shelf _ _ (has_drive v w.at w.count) c.piece-piece.result.drive.0 (has_at v w.at w.count w.done c.piece-piece.result.drive.0 c.requires.open.some_left here)
    (kept_on_call g.S.Shelf (OnDrive c.piece-piece.result.drive.0) _ _ c.write.ensures.noted c.write.ensures.keeps c.write.ensures.cause.others)

pub returns-in-Ok-clause-moments : goal.returns-in-Ok-clause-moments
returns-in-Ok-clause-moments g c =
    let v = g.D.Placed.map c.args.device.now in
    let w = c.args.work.now in
    let count = c.piece-piece.result.count in
    let room = same_room w.kind w.count (length c.args.from.now) c.requires.kind c.requires.open.buffer in
    let few = c.piece-piece.ensures.within in
    let some = c.requires.open.some_left in
    let fits : w.done + count ≤ length c.args.from.now = omega arith in
    record {
      each = moments_of w.kind c.requires.kind v w.at c.args.from.now (g.S.Shelf.tale c.args.shelf.now) (g.S.Shelf.tale c.write.new.self)
          (write_moments v w.at w.done w.count c.piece-piece.result c.piece-piece.ensures c.requires.disjoint c.requires.open.within some _ c.args.from.now (part_long w.done count c.args.from.now fits) room (part_is w.done count c.args.from.now fits)
          (g.S.Shelf.tale c.args.shelf.now) (g.S.Shelf.tale c.write.new.self) _ c.write.ensures.writes);
      still = not_read w.kind _ c.requires.kind;
    }

pub returns-in-Ok-clause-done : goal.returns-in-Ok-clause-done
returns-in-Ok-clause-done g c =
    let v = g.D.Placed.map c.args.device.now in
    let w = c.args.work.now in
    let count = c.piece-piece.result.count in
    let room = same_room w.kind w.count (length c.args.from.now) c.requires.kind c.requires.open.buffer in
    let few = c.piece-piece.ensures.within in
    let some = c.requires.open.some_left in
    let fits : w.done + count ≤ length c.args.from.now = omega arith in
    carry_ends v w (record w { done = w.done + count }) c.args.from.now c.args.from.now (g.S.Shelf.tale c.args.shelf.now) (g.S.Shelf.tale c.write.new.self)
    (done_of w.kind c.requires.kind v w.at w.count w.done (w.done + count) c.args.from.now (g.S.Shelf.tale c.args.shelf.now) (g.S.Shelf.tale c.write.new.self)
    (write_reads v w.at w.done w.count c.piece-piece.result c.piece-piece.ensures c.requires.disjoint c.requires.open.within some _ c.args.from.now (part_long w.done count c.args.from.now fits) room (part_is w.done count c.args.from.now fits)
    (g.S.Shelf.tale c.args.shelf.now) (g.S.Shelf.tale c.write.new.self) c.in-Ok.ensures.writes))

pub returns-in-Ok-clause-turned : goal.returns-in-Ok-clause-turned
returns-in-Ok-clause-turned g c =
    let v = g.D.Placed.map c.args.device.now in
    let w = c.args.work.now in
    let count = c.piece-piece.result.count in
    let some = c.piece-piece.ensures.some in
    let on = kept_on_call g.S.Shelf (OnDrive c.piece-piece.result.drive.0) _ _ c.write.ensures.noted c.write.ensures.keeps c.write.ensures.cause.others in
    turned v (DriveFailures g.S.Shelf c.args.shelf.now c.write.new.self) w c.args.from.now c.args.from.now (same_buffer w.kind c.args.from.now c.requires.kind) refl tt (w.done + count) refl (omega arith) (let few = c.piece-piece.ensures.within in let left = c.requires.open.some_left in omega arith) c.requires.open.begins
    (λ j above below. turn_is w.kind v w.at j c.requires.kind ∙ starts_in v w.at w.done w.count c.piece-piece.result c.piece-piece.ensures j above below)
    (λ below. turn_is w.kind v w.at (w.done + count) c.requires.kind ∙ starts_next v w.at w.done w.count c.piece-piece.result c.piece-piece.ensures below)
    (calm_on g.S.Shelf _ _ c.piece-piece.result.drive.0 on c.in-Ok.ensures.cause.own.calm)

pub returns-in-Ok-clause-counted : goal.returns-in-Ok-clause-counted
returns-in-Ok-clause-counted g c =
    let w = c.args.work.now in
    let count = c.piece-piece.result.count in
    let room = same_room w.kind w.count (length c.args.from.now) c.requires.kind c.requires.open.buffer in
    let few = c.piece-piece.ensures.within in
    let some = c.requires.open.some_left in
    let long = part_long w.done count c.args.from.now (omega arith) in
    turn_counted g.S.Shelf c.args.shelf.now c.write.new.self w (record w { done = w.done + count }) _ c.write.ensures.counted (written_few w.kind _ _ c.requires.kind (omega arith)) tt (written_is w.kind _ _ c.requires.kind (omega arith))

pub returns-in-Ok-clause-kept : goal.returns-in-Ok-clause-kept
returns-in-Ok-clause-kept g c =
    let v = g.D.Placed.map c.args.device.now in
    let w = c.args.work.now in
    let some = c.piece-piece.ensures.some in
    let here = drive_here v w.at w.done w.count c.piece-piece.result c.piece-piece.ensures w.done (omega arith) (omega arith) in
    where_on g.S.Shelf _ _ (has_drive v w.at w.count) c.piece-piece.result.drive.0 (has_at v w.at w.count w.done c.piece-piece.result.drive.0 c.requires.open.some_left here)
    (kept_on_call g.S.Shelf (OnDrive c.piece-piece.result.drive.0) _ _ c.write.ensures.noted c.write.ensures.keeps c.write.ensures.cause.others)
