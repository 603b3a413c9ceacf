-- What a request for blocks of a volume says, by the device's map: what was read, how many calls were made, and on which drive one failed.
use Rattle.std.proofs.Common.{◌≡◌, ◌≤◌, ◌<◌, ◌+◌, ℕ, Bool, true, List, length, Option, Some, Err, refl, sym, ◌∙◌, ap, subst, arith}
use Rattle.mdv_shelf.proofs.Between.{between_wider}
use Rattle.mdv_shelf.proofs.InTime.{in_time_none}
use Rattle.mdv_shelf.proofs.Moments.{some_is}
use Rattle.mdv_shelf.proofs.Stories.{each_none}
use Rattle.mdv_shelf.specs.Made.{made_of, tally_of}
use Rattle.mdv_shelf.specs.Shelves.{DriveFailures}
use Rattle.mdv_shelf.specs.declared.shelf.Shelf.{Ghosts}
use Rattle.mdv_map.specs.Below.{Among}
use Rattle.mdv_map.specs.Maps.{readings}
use Rattle.mdv_map.specs.Requests.{AllRead}
use Rattle.mdv_dev.proofs.Copies.{reads_there}
use Rattle.mdv_dev.proofs.Counting.{count_below, has_at}
use Rattle.mdv_dev.specs.Pieces.{IsOneCopy, drives, pieces}
use Rattle.mdv_dev.specs.Works.{StopsAt, TakesReads, is_turn, turns}
use Rattle.mdv_dev.specs.Writing.{HaveFailed}
use Rattle.mdv_dev.specs.declared.work.WorkKind.{WorkKind}
use Rattle.mdv_dev.specs.declared.work.WorkKind.TheVariants.{Read}
use Rattle.mdv_engine_law.specs.Efforts.{map_or_none}
use Rattle.mdv_engine.specs.Below.{AreSeen, DriveNo, Ends, FailedOn, HasBlocks, Host, KeptOnDrives, Map, Memory, Opened, Tale, VolId, last, lies_on, map_open, pieces_in, write_calls_in}
use Rattle.mdv_engine.specs.Ends.{KeptOnBlocks}
use Rattle.mdv_engine.specs.Engine.{FailedBlocks, FailedWrite}

-- no call is one on no drive
pub drives_none : {S : Type 0} (shelf : Ghosts S) (a : S) (v : Map) (at count : ℕ) → KeptOnDrives shelf a a v at count
drives_none shelf a v at count = record {
  keeps = record { same_sizes = refl; same_rest = refl; same_held = refl; no_fewer_faults = λ part. omega arith };
  goes = each_none (λ _ _. Unit {0}) (shelf.story a) (tally_of shelf a) (shelf.story a) (tally_of shelf a) refl (λ part. omega arith) (λ t. tt) (λ t. tt);
  in_time = λ part. in_time_none part (shelf.faults a part) (shelf.story a) (shelf.story a) refl;
  others = λ other out. refl;
  elsewhere = λ other out n. in_time_none other n (shelf.story a) (shelf.story a) refl;
}

module _ (v : Map) (at : ℕ) (blocks : List (List ℕ)) where
  -- a read leaves the tale
  pub read_then : (a b : Option Tale) → Ends (λ _ u. AllRead v at blocks u) a b → b ≡ a → (t : Tale) → a ≡ Some t → AllRead v at blocks t
  read_then a b ends same t told = let end = ends t told in subst (λ (u : Tale). AllRead v at blocks u) (some_is b end.0 t end.1 (same ∙ told)) end.2

  -- each value that was read is what the block's one copy holds
  pub all_seen : IsOneCopy v → at + length blocks ≤ v.blocks → (t : Tale) → AllRead v at blocks t → AreSeen v at blocks (last t)
  all_seen one within t read = record {
    each = λ k lt.
        let place = one (at + k) (omega (arith, within, lt)) in
        let here = reads_there v (at + k) place.0 place.1 place.2 (last t) in
        subst (Among (readings v (last t) (at + k))) (read k (last t place.0 place.1) lt here) here;
  }

-- a call failed
module _ {S : Type 0} (shelf : Ghosts S) (old new : S) (v : Map) (at count : ℕ) where
  -- on that drive, which one of the blocks lies on; one call at least was made
  pub record HasStopped (drive calls written : ℕ) : Type 0 where
    pub on : lies_on v at count drive ≡ true
    pub failed : FailedOn drive (DriveFailures shelf old new)
    pub made : (made_of shelf old new).within 1 calls written

  stopped : (kind : WorkKind) (earlier most written drive : ℕ) → earlier + turns v kind at count ≤ most → StopsAt shelf old new v kind at count earlier written drive → HasStopped drive most written
  stopped kind earlier most written drive few stops =
      let k = stops.0 in
      let below : turns v kind at k + 1 ≤ turns v kind at count = count_below (is_turn v kind at) k count stops.1.below stops.1.begins in
      record {
        on = has_at v at count k drive stops.1.below (sym stops.1.on);
        failed = stops.1.failed;
        made = between_wider shelf.calls shelf.written old new (earlier + turns v kind at k + 1) (earlier + turns v kind at k + 1) written 1 most written (omega arith) (omega (arith, few, below)) (omega arith) stops.2;
      }

  module _ {T : Type 0} (drive : DriveNo) where
    pub read_stopped : TakesReads {T = T} shelf old new v at count (Err drive) → HasStopped drive.0 (pieces v at count) 0
    read_stopped took = stopped Read 0 (pieces v at count) 0 drive.0 (let all : turns v Read at count ≡ pieces v at count = refl in omega (arith, all)) took.failed

-- blocks of a volume of the open database
module _ (host : Host) (memory : Memory) (volume : VolId) (at count : ℕ) (v : Map) (there : HasBlocks host memory volume at count v) where
  map_is : map_open host.drives memory.opened volume ≡ v
  map_is = ap (λ (o : Option Opened). map_open host.drives o volume) there.opened ∙ ap map_or_none there.lies

  -- in how many pieces they lie, and on how many drives
  pub pieces_are : (n : ℕ) → n ≡ count → pieces_in host memory.opened volume at n ≡ pieces v at count
  pieces_are n same = ap (λ (w : Map). pieces w at n) map_is ∙ ap (pieces v at) same

  -- how many calls a write of them makes
  pub write_are : write_calls_in host memory.opened volume at count ≡ pieces v at count + drives v at count
  write_are = ap (λ (w : Map). pieces w at count + drives w at count) map_is

  module _ {S : Type 0} (shelf : Ghosts S) (old new : S) where
    -- the calls were made on drives of theirs
    pub kept_there : (n : ℕ) → n ≡ count → KeptOnDrives shelf old new v at count → KeptOnBlocks shelf old new host memory volume at n
    kept_there n same kept = subst (λ (m : ℕ). KeptOnBlocks shelf old new host memory volume at m) (sym same) (subst (λ (w : Map). KeptOnDrives shelf old new w at count) (sym map_is) kept)

    -- and one of them failed
    pub failed_blocks : (n : ℕ) → n ≡ count → (drive calls written : ℕ) → HasStopped shelf old new v at count drive calls written → FailedBlocks (DriveFailures shelf old new) host memory volume at n
    failed_blocks n same drive calls written stop = subst (λ (m : ℕ). FailedBlocks (DriveFailures shelf old new) host memory volume at m) (sym same) (record { map = v; there = there; drive = drive; on = stop.on; failed = stop.failed })

    -- of a write on some of their drives, and on no other
    pub failed_write : (failing : ℕ → Bool) → HaveFailed shelf old new v at count failing → FailedWrite (DriveFailures shelf old new) host memory volume at count
    failed_write failing have = record { map = v; there = there; failing = failing; some = have.some; on = have.on; failed = have.failed; calm = have.calm }
