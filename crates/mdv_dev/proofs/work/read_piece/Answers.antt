use Rattle.std.proofs.Common.{◌+◌, ◌-◌, ◌<◌, ◌≤◌, ◌≡◌, ℕ, List, length, Option, refl, sym, ◌∙◌, subst, arith}
use Rattle.mdv_shelf.specs.Tale.{Tale}
use Rattle.mdv_shelf.specs.Calls.{InDrive, OnDrive}
use Rattle.mdv_shelf.specs.Moments.{Ends}
use Rattle.mdv_shelf.specs.Shelves.{DriveFailures}
use Rattle.mdv_shelf.proofs.InTime.{kept_on_call}
use Rattle.mdv_map.specs.Maps.{Map}
use Rattle.mdv_map.specs.Requests.{AreRead}
use Rattle.mdv_dev.specs.Works.{LeavesBuffer, HasRoom, HasDoneOf, HasSyncedOf, written_of, is_turn}
use Rattle.mdv_dev.specs.Pieces.{has_drive, is_start}
use Rattle.mdv_dev.specs.declared.work.WorkKind.{WorkKind}
use Rattle.mdv_dev.specs.declared.work.WorkKind.TheVariants.{Read}
use Rattle.mdv_dev.proofs.Counting.{has_at}
use Rattle.mdv_dev.proofs.Drives.{where_on}
use Rattle.mdv_dev.proofs.Failing.{calm_on, failed_on}
use Rattle.mdv_dev.proofs.Lying.{drive_here, in_drive, starts_in, starts_next}
use Rattle.mdv_dev.proofs.Slicing.{filled_before, filled_behind, filled_front, filled_long, filled_part, part_long}
use Rattle.mdv_dev.proofs.Turning.{carry_ends, ends_still, rewriting_still, missed, more_read, turn_counted, turn_missed, turned}
use Rattle.mdv_dev.proofs.work.read_piece.Goals as goal

-- the buffer has room for the piece
room_for : (w : WorkKind) (count room done more : ℕ) → w ≡ Read → HasRoom w count room → done < count → more ≤ count - done → done + more ≤ room
room_for w count room done more is has lt few = let same : room ≡ count = rw is at has in omega arith

same_length : (w : WorkKind) (old new : List (List ℕ)) → w ≡ Read → length new ≡ length old → LeavesBuffer w old new
same_length w old new is long = rw is long

written_none : (w : WorkKind) (n : ℕ) → w ≡ Read → 0 ≡ written_of w n
written_none w n is = rw is refl

turn_is : (w : WorkKind) (v : Map) (at k : ℕ) → w ≡ Read → is_turn v w at k ≡ is_start v at k
turn_is w v at k is = rw is refl

done_of : (w : WorkKind) → w ≡ Read → (v : Map) (at count done end : ℕ) (before after : List (List ℕ)) (old new : Option Tale) → Ends (λ t u. AreRead v at done before t → AreRead v at end after u) old new
    → Ends (λ t u. (HasDoneOf w v at count done before t → HasDoneOf w v at count end after u) × ((drive : ℕ) → HasSyncedOf w v at done drive t → HasSyncedOf w v at end drive u)) old new
done_of w is v at count done end before after old new ends = rw is (λ t told. let there = ends t told in (there.0, there.1, (there.2, λ drive had. tt)))

pub read-requires : goal.read-requires
read-requires g c =
    let v = g.D.Placed.map c.args.device.now in
    let w = c.args.work.now in
    let count = c.piece-piece.result.count in
    let room : w.done + count ≤ length c.args.out.now = room_for w.kind w.count (length c.args.out.now) w.done count c.requires.kind c.requires.open.buffer c.requires.open.some_left c.piece-piece.ensures.within in
    let there = in_drive v (w.at + w.done) (w.count - w.done) c.piece-piece.result c.piece-piece.ensures (g.S.Shelf.sizes c.args.shelf.now) c.requires.on (let within = c.requires.open.within in let some = c.requires.open.some_left in omega arith) in
    subst (λ (n : ℕ). InDrive (g.S.Shelf.sizes c.args.shelf.now) c.piece-piece.result.drive.0 c.piece-piece.result.block n) (sym (part_long w.done count c.args.out.now room)) there

pub returns-in-Err-clause-moments : goal.returns-in-Err-clause-moments
returns-in-Err-clause-moments g c = rewriting_still g.S.Shelf c.args.shelf.now c.read.new.self (g.D.Placed.map c.args.device.now) c.args.work.now c.args.out.now c.read.ensures.reads.same

pub returns-in-Err-clause-done : goal.returns-in-Err-clause-done
returns-in-Err-clause-done g c =
    let v = g.D.Placed.map c.args.device.now in
    let w = c.args.work.now in
    let count = c.piece-piece.result.count in
    let out = c.args.out.now in
    let news = c.read.new.out in
    let room : w.done + count ≤ length out = room_for w.kind w.count (length out) w.done count c.requires.kind c.requires.open.buffer c.requires.open.some_left c.piece-piece.ensures.within in
    let long : length news ≡ count = c.read.auto.out ∙ part_long w.done count out room in
    carry_ends v w w out _ (g.S.Shelf.tale c.args.shelf.now) (g.S.Shelf.tale c.read.new.self)
    (done_of w.kind c.requires.kind v w.at w.count w.done w.done out _ (g.S.Shelf.tale c.args.shelf.now) (g.S.Shelf.tale c.read.new.self)
    (ends_still _ (g.S.Shelf.tale c.args.shelf.now) (g.S.Shelf.tale c.read.new.self) c.read.ensures.reads.same (λ t told had k x lt reading. had k x lt reading ∙ sym (filled_front w.done count out room news long k lt))))

pub returns-in-Err-clause-turned : goal.returns-in-Err-clause-turned
returns-in-Err-clause-turned g c =
    let v = g.D.Placed.map c.args.device.now in
    let w = c.args.work.now in
    let count = c.piece-piece.result.count in
    let out = c.args.out.now in
    let news = c.read.new.out in
    let some = c.piece-piece.ensures.some in
    let room : w.done + count ≤ length out = room_for w.kind w.count (length out) w.done count c.requires.kind c.requires.open.buffer c.requires.open.some_left c.piece-piece.ensures.within in
    let long : length news ≡ count = c.read.auto.out ∙ part_long w.done count out room in
    let filled = same_length w.kind _ _ c.requires.kind (filled_long w.done count out room news long) in
    let here = drive_here v w.at w.done w.count c.piece-piece.result c.piece-piece.ensures w.done (omega arith) (omega arith) in
    let on = kept_on_call g.S.Shelf (OnDrive c.piece-piece.result.drive.0) _ _ c.read.ensures.noted c.read.ensures.keeps c.read.ensures.cause.others in
    missed v (DriveFailures g.S.Shelf c.args.shelf.now c.read.new.self) w out _ c.piece-piece.result.drive filled (filled_before w.done count out room news long) c.requires.open.some_left c.requires.open.begins
    (sym here) (failed_on g.S.Shelf _ _ c.piece-piece.result.drive.0 on c.in-Err.ensures.cause.own.failed)

pub returns-in-Err-clause-counted : goal.returns-in-Err-clause-counted
returns-in-Err-clause-counted g c =
    turn_missed g.S.Shelf c.args.shelf.now c.read.new.self c.args.work.now c.args.work.now 0 c.read.ensures.counted (omega arith) c.piece-piece.result.drive

pub returns-in-Err-clause-kept : goal.returns-in-Err-clause-kept
returns-in-Err-clause-kept g c =
    let v = g.D.Placed.map c.args.device.now in
    let w = c.args.work.now in
    let some = c.piece-piece.ensures.some in
    let here = drive_here v w.at w.done w.count c.piece-piece.result c.piece-piece.ensures w.done (omega arith) (omega arith) in
    where_on g.S.Shelf _ _ (has_drive v w.at w.count) c.piece-piece.result.drive.0 (has_at v w.at w.count w.done c.piece-piece.result.drive.0 c.requires.open.some_left here)
    (kept_on_call g.S.Shelf (OnDrive c.piece-piece.result.drive.0) _ _ c.read.ensures.noted c.read.ensures.keeps c.read.ensures.cause.others)

pub returns-in-Ok-clause-moments : goal.returns-in-Ok-clause-moments
returns-in-Ok-clause-moments g c = rewriting_still g.S.Shelf c.args.shelf.now c.read.new.self (g.D.Placed.map c.args.device.now) c.args.work.now c.args.out.now c.read.ensures.reads.same

pub returns-in-Ok-clause-done : goal.returns-in-Ok-clause-done
returns-in-Ok-clause-done g c =
    let v = g.D.Placed.map c.args.device.now in
    let w = c.args.work.now in
    let count = c.piece-piece.result.count in
    let out = c.args.out.now in
    let news = c.read.new.out in
    let room : w.done + count ≤ length out = room_for w.kind w.count (length out) w.done count c.requires.kind c.requires.open.buffer c.requires.open.some_left c.piece-piece.ensures.within in
    let long : length news ≡ count = c.read.auto.out ∙ part_long w.done count out room in
    carry_ends v w (record w { done = w.done + count }) out _ (g.S.Shelf.tale c.args.shelf.now) (g.S.Shelf.tale c.read.new.self)
    (done_of w.kind c.requires.kind v w.at w.count w.done (w.done + count) out _ (g.S.Shelf.tale c.args.shelf.now) (g.S.Shelf.tale c.read.new.self)
    (ends_still _ (g.S.Shelf.tale c.args.shelf.now) (g.S.Shelf.tale c.read.new.self) c.in-Ok.ensures.reads.same (λ t told had.
    more_read v w.at w.done w.count c.piece-piece.result c.piece-piece.ensures c.requires.disjoint c.requires.open.within c.requires.open.some_left _ t
    (λ k x lt reading. had k x lt reading ∙ sym (filled_front w.done count out room news long k lt))
    (λ j lt. sym (c.in-Ok.ensures.reads.gave t told j (omega arith)) ∙ sym (filled_part w.done count out room news long j lt)))))

pub returns-in-Ok-clause-turned : goal.returns-in-Ok-clause-turned
returns-in-Ok-clause-turned g c =
    let v = g.D.Placed.map c.args.device.now in
    let w = c.args.work.now in
    let count = c.piece-piece.result.count in
    let out = c.args.out.now in
    let news = c.read.new.out in
    let some = c.piece-piece.ensures.some in
    let room : w.done + count ≤ length out = room_for w.kind w.count (length out) w.done count c.requires.kind c.requires.open.buffer c.requires.open.some_left c.piece-piece.ensures.within in
    let long : length news ≡ count = c.read.auto.out ∙ part_long w.done count out room in
    let filled = same_length w.kind _ _ c.requires.kind (filled_long w.done count out room news long) in
    let on = kept_on_call g.S.Shelf (OnDrive c.piece-piece.result.drive.0) _ _ c.read.ensures.noted c.read.ensures.keeps c.read.ensures.cause.others in
    turned v (DriveFailures g.S.Shelf c.args.shelf.now c.read.new.self) w out _ filled (filled_before w.done count out room news long) tt (w.done + count) (filled_behind w.done count out room news long)
    (omega arith) (let few = c.piece-piece.ensures.within in let left = c.requires.open.some_left in omega arith) c.requires.open.begins
    (λ j above below. turn_is w.kind v w.at j c.requires.kind ∙ starts_in v w.at w.done w.count c.piece-piece.result c.piece-piece.ensures j above below)
    (λ below. turn_is w.kind v w.at (w.done + count) c.requires.kind ∙ starts_next v w.at w.done w.count c.piece-piece.result c.piece-piece.ensures below)
    (calm_on g.S.Shelf _ _ c.piece-piece.result.drive.0 on c.in-Ok.ensures.cause.own.calm)

pub returns-in-Ok-clause-counted : goal.returns-in-Ok-clause-counted
returns-in-Ok-clause-counted g c =
    turn_counted g.S.Shelf c.args.shelf.now c.read.new.self c.args.work.now (record c.args.work.now { done = c.args.work.now.done + c.piece-piece.result.count }) 0 c.read.ensures.counted (omega arith) tt (written_none c.args.work.now.kind _ c.requires.kind)

pub returns-in-Ok-clause-kept : goal.returns-in-Ok-clause-kept
returns-in-Ok-clause-kept g c =
    let v = g.D.Placed.map c.args.device.now in
    let w = c.args.work.now in
    let some = c.piece-piece.ensures.some in
    let here = drive_here v w.at w.done w.count c.piece-piece.result c.piece-piece.ensures w.done (omega arith) (omega arith) in
    where_on g.S.Shelf _ _ (has_drive v w.at w.count) c.piece-piece.result.drive.0 (has_at v w.at w.count w.done c.piece-piece.result.drive.0 c.requires.open.some_left here)
    (kept_on_call g.S.Shelf (OnDrive c.piece-piece.result.drive.0) _ _ c.read.ensures.noted c.read.ensures.keeps c.read.ensures.cause.others)
