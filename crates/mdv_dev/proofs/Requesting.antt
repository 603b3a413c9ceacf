-- Whole requests: a read, and what a write does too.
use Rattle.std.proofs.Common.{◌≡◌, ℕ, ◌+◌, ◌-◌, ◌<◌, Bool, List, [], length, Option, Ok, Err, sym, ◌∙◌, subst, arith}
use Rattle.mdv_base.specs.DriveSet.{has_drive as has}
use Rattle.mdv_shelf.specs.Tale.{Tale}
use Rattle.mdv_shelf.specs.Calls.{Took}
use Rattle.mdv_shelf.specs.Shelves.{DriveFailures}
use Rattle.mdv_shelf.specs.Moments.{Moments}
use Rattle.mdv_shelf.specs.declared.shelf.Shelf.{Ghosts}
use Rattle.mdv_shelf.proofs.Moments.{moments_more}
use Rattle.mdv_map.specs.Maps.{HasDriveBlock, Map}
use Rattle.mdv_map.specs.Requests.{Rewriting}
use Rattle.mdv_map.proofs.Joining.{kept_is_old, rewritings_join}
use Rattle.mdv_dev.specs.Pieces.{IsOn, IsOneCopy, count_to, drive_of, is_start}
use Rattle.mdv_dev.specs.Below.{DriveNo}
use Rattle.mdv_dev.specs.Works.{IsFinished, MakesTurns, StopsAt, TakesReads, TookExactly, is_turn, turns, written_of}
use Rattle.mdv_dev.specs.declared.work.Work.{Work}
use Rattle.mdv_dev.specs.declared.work.WorkKind.{WorkKind}
use Rattle.mdv_dev.specs.declared.work.WorkKind.TheVariants.{Read}
use Rattle.mdv_dev.proofs.Copies.{drive_is, has_place, one_copy}

-- a request of which nothing is done
abbrev pub fresh : WorkKind → ℕ → ℕ → Work
fresh kind at count = record { kind = kind; at = at; count = count; done = 0 }

pub none_counted : (test : ℕ → Bool) (n : ℕ) → count_to test n - count_to test 0 ≡ count_to test n
unfolding count_to
none_counted test n = omega arith

-- where nothing was changed
rewrites_none : (v : Map) (at : ℕ) (blocks : List (List ℕ)) (t m : Tale) → Rewriting v at [] t m → Rewriting v at blocks t m
rewrites_none v at blocks t m calm = record {
  inside = λ k drive block lt has. kept_is_old t m drive block _ (calm.outside drive block (λ j none owned. absurd (omega arith)));
  outside = λ drive block off. calm.outside drive block (λ j none owned. absurd (omega arith));
  quiet = calm.quiet;
}

pub moments_flushed : (v : Map) (at : ℕ) (blocks : List (List ℕ)) (a b c : Option Tale) → Moments (Rewriting v at blocks) a b → Moments (Rewriting v at []) b c → Moments (Rewriting v at blocks) a c
moments_flushed v at blocks a b c first second =
    moments_more (Rewriting v at blocks) (Rewriting v at []) (Rewriting v at blocks) a b c (λ t m one. one)
    (λ t u m one two. rewritings_join.more v at blocks t u m one (rewrites_none v at blocks u m two)) first second

-- the one copy of a block is on the first drive
pub copy_drive : (v : Map) (b drive block : ℕ) → IsOneCopy v → b < v.blocks → HasDriveBlock (v.copies b) drive block → drive_of (v.copies b) ≡ drive
copy_drive v b drive block one lt has =
    let there = one b lt in
    drive_is v b there.0 there.1 there.2 ∙ sym (one_copy v b there.0 there.1 there.2 drive block has).0

-- the drive of a block is one of the shelf's
pub drive_known : (sizes : List ℕ) (v : Map) (b : ℕ) → IsOn sizes v → IsOneCopy v → b < v.blocks → drive_of (v.copies b) < length sizes
drive_known sizes v b on one lt =
    let there = one b lt in
    let same = drive_is v b there.0 there.1 there.2 in
    let known = (on b there.0 there.1 lt (has_place v b there.0 there.1 there.2)).0 in
    subst (λ (d : ℕ). d < length sizes) (sym same) known

-- how often it calls
module _ {S : Type 0} (shelf : Ghosts S) (v : Map) (at count : ℕ) {T : Type 0} where
  -- where a turn of a request failed
  stops : (e : DriveNo) (kind : WorkKind) (a b : S) (new : Work) (before after : List (List ℕ)) → IsFinished {T = T} v (DriveFailures shelf a b) (fresh kind at count) before new after (Err e)
      → MakesTurns {T = T} {E = DriveNo} shelf a b v (fresh kind at count) new (Err e) → StopsAt shelf a b v kind at count 0 (written_of kind count) e.0
  stops e kind a b new before after finished makes =
      let none = none_counted (is_turn v kind at) new.done in
      let calls : turns v kind at new.done - turns v kind at 0 ≡ 0 + turns v kind at new.done = omega (arith, none) in
      let blocks : count - 0 ≡ count = omega arith in
      let exact = subst (λ (n : ℕ). TookExactly shelf a b (n + 1) (written_of kind (count - 0))) calls makes.failed in
      (new.done, finished.stayed.1, subst (λ (n : ℕ). TookExactly shelf a b (0 + turns v kind at new.done + 1) (written_of kind n)) blocks exact)

  module _ (a b : S) (work : Work) (before after : List (List ℕ)) where
    pub reads_took : (x : T) → IsFinished {T = T} v (DriveFailures shelf a b) (fresh Read at count) before work after (Ok x) → MakesTurns {T = T} {E = DriveNo} shelf a b v (fresh Read at count) work (Ok x) → TakesReads {T = T} shelf a b v at count (Ok x)
    reads_took x finished makes = record { calm = finished.whole.1; done = subst (λ (n : ℕ). Took shelf.calls shelf.written a b n 0) (none_counted (is_start v at) count) makes.done; failed = tt }

    pub reads_stop : (e : DriveNo) → IsFinished {T = T} v (DriveFailures shelf a b) (fresh Read at count) before work after (Err e) → MakesTurns {T = T} {E = DriveNo} shelf a b v (fresh Read at count) work (Err e) → TakesReads {T = T} shelf a b v at count (Err e)
    reads_stop e finished makes = record { calm = tt; done = tt; failed = stops e Read a b work before after finished makes }
