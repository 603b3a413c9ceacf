-- The blocks that a line may write, and those that it leaves, where more calls write none.
use Rattle.std.specs.Bool.{MatchBool}
use Rattle.std.proofs.Common.{◌≡◌, inl, inr, ℕ, Bool, true, false, List, [], length, slice_index_or, Option, None, Some, refl}
use Rattle.mdv_map.proofs.Joining.{kept_is_old, old_or_new_more}
use Rattle.mdv_map.proofs.Standing.{requests_stand}
use Rattle.mdv_map.specs.Requests.{Rewriting}
use Rattle.mdv_shelf.proofs.Everywhere.{everywhere_kept}
use Rattle.mdv_shelf.proofs.Frame.{kept_more, kept_outside_more}
use Rattle.mdv_shelf.proofs.Settled.{synced_still}
use Rattle.mdv_engine_law.specs.Below.{Command, AddListed, AddPlaces, DropPlaces, AreOnDisk, Head, IsOwn, KeptOutside, Map, Print, Read, Spells, Write, nowhere, site_area, site_of, Changed, Created, Saw, Tale, Wrote, listed_by, Deleted, Identity, Key, Opened, PlaceAt, Seat, SliceLine, SliceName, joined, blocks_of}
use Rattle.mdv_words.specs.declared.command.Command.TheVariants.{Alter}
use Rattle.mdv_engine_law.specs.declared.host.Host.{Host}
use Rattle.mdv_engine_law.specs.Hosts.{dropped_area, identity_of, key_of, lines_asked, listed_area, opened_area, places_area}
use Rattle.mdv_engine_law.specs.Line.{Ask, Memory, Nothing, ToBoot, ToDo, ToDrop, ToMake, ToMakeListed, ToSee}
use Rattle.mdv_engine_law.specs.Moves.{places_under}
use Rattle.mdv_engine_law.specs.Places.{are_all, list_of}
use Rattle.mdv_engine_law.specs.Standing.{AreBlankAt, AreBlankWhereCalm, ArePutBy, LeavesBlank, LeavesDone, LeavesFormed, LeavesTorn, WritesOnly}
use Rattle.mdv_engine_law.proofs.Widening.{AreWithin}
use Rattle.mdv_shelf.specs.Failing.{Outcomes}
use Rattle.mdv_replica.specs.Forms.{block_of}
use Rattle.mdv_places.specs.Asked.{Adds, Drops, seats_added}
use Rattle.mdv_places.specs.Moments.{IsBlankAt, places_dropped}
use Rattle.mdv_store.specs.Create.{seats_asked}
use Rattle.mdv_store.specs.Seats.{AreTheirs}

module _ (v : Map) (at : ℕ) (blocks : List (List ℕ)) (t m : Tale) where
  pub put_by : Rewriting v at blocks t m → ArePutBy v at blocks t m
  put_by rewriting = record { inside = rewriting.inside; outside = rewriting.outside }

  pub put_still : (u : Tale) → ArePutBy v at blocks t u → KeptOutside nowhere u m → ArePutBy v at blocks t m
  put_still u put kept = record {
    inside = λ k drive block lt has.
        let new = slice_index_or blocks k [] in
        old_or_new_more t u m drive block new (put.inside k drive block lt has) (kept_is_old u m drive block new (kept drive block refl));
    outside = λ drive block off. kept_more t u m drive block (put.outside drive block off) (kept drive block refl);
  }

  -- blocks that are on the disk stay there
  on_disk_still : AreOnDisk v at blocks t → KeptOutside nowhere t m → AreOnDisk v at blocks m
  on_disk_still left kept = record {
    read = requests_stand.reads v at (length blocks) blocks t m (λ k drive block lt has. kept drive block refl) left.read;
    on_disk = requests_stand.on_disk v at (length blocks) t m (λ k drive block lt has. kept drive block refl) left.on_disk;
    synced = λ drive on. synced_still drive t m (λ block. kept drive block refl) (left.synced drive on);
  }

module _ (host : Host) (memory : Memory) where
  pub writes_none : (ask : Ask) (t m : Tale) → KeptOutside nowhere t m → WritesOnly host ask memory t m
  writes_none Nothing t m kept = kept
  writes_none ToBoot t m kept = λ drive block out. kept drive block refl
  writes_none (ToMake key lines count blocks) t m kept = ((λ drive block out. kept drive block refl), λ drive block out. kept drive block refl)
  writes_none (ToMakeListed key number) t m kept = ((λ drive block out. kept drive block refl), λ drive block out. kept drive block refl)
  writes_none (ToDrop key slices force) t m kept = ((λ drive block out. kept drive block refl), λ drive block out. kept drive block refl)
  writes_none (ToDo (Created key)) t m kept = kept
  writes_none (ToDo (Changed key change)) t m kept = λ drive block out. kept drive block refl
  writes_none (ToDo (Deleted key)) t m kept = kept
  writes_none (ToDo (Wrote key volume at blocks)) t m kept = inl kept
  writes_none (ToDo (Saw key volume at blocks)) t m kept = kept
  writes_none (ToSee key volume at count) t m kept = kept

  pub writes_still : (ask : Ask) (t u m : Tale) → WritesOnly host ask memory t u → KeptOutside nowhere u m → WritesOnly host ask memory t m
  writes_still Nothing t u m none kept = kept_outside_more nowhere t u m none kept
  writes_still ToBoot t u m writes kept = kept_outside_more (site_area host.site) t u m writes (λ drive block out. kept drive block refl)
  writes_still (ToMake key lines count blocks) t u m writes kept = (
    kept_outside_more (site_area host.site) t u m writes.0 (λ drive block out. kept drive block refl),
    kept_outside_more (joined (places_area lines count blocks) (opened_area memory.opened)) t u m writes.1 (λ drive block out. kept drive block refl),
  )
  writes_still (ToMakeListed key number) t u m writes kept = (
    kept_outside_more (site_area host.site) t u m writes.0 (λ drive block out. kept drive block refl),
    kept_outside_more (joined (listed_area host (listed_by memory.entries number)) (opened_area memory.opened)) t u m writes.1 (λ drive block out. kept drive block refl),
  )
  writes_still (ToDrop key slices force) t u m writes kept = (
    kept_outside_more (site_area host.site) t u m writes.0 (λ drive block out. kept drive block refl),
    kept_outside_more (joined (opened_area memory.opened) (dropped_area host.drives memory.opened slices)) t u m writes.1 (λ drive block out. kept drive block refl),
  )
  writes_still (ToDo (Created key)) t u m none kept = kept_outside_more nowhere t u m none kept
  writes_still (ToDo (Changed key change)) t u m writes kept = kept_outside_more (opened_area memory.opened) t u m writes (λ drive block out. kept drive block refl)
  writes_still (ToDo (Deleted key)) t u m none kept = kept_outside_more nowhere t u m none kept
  writes_still (ToDo (Wrote key volume at blocks)) t u m (inl none) kept = inl (kept_outside_more nowhere t u m none kept)
  writes_still (ToDo (Wrote key volume at blocks)) t u m (inr writes) kept = inr (writes.0, writes.1, put_still writes.0 at blocks t m u writes.2 kept)
  writes_still (ToDo (Saw key volume at blocks)) t u m none kept = kept_outside_more nowhere t u m none kept
  writes_still (ToSee key volume at count) t u m none kept = kept_outside_more nowhere t u m none kept

  -- what a command left that was done
  theirs_still : (key : Key) (identity : Identity) (seats : List Seat) (t m : Tale) → KeptOutside nowhere t m → AreTheirs host.drives key identity seats t → AreTheirs host.drives key identity seats m
  theirs_still key identity seats t m kept left = λ r has. everywhere_kept (λ image. (head : Head) × IsOwn (Spells host.drives) (site_of host.drives key) identity r.line r.number image r.first head) t m kept (left r has)

  formed_still : (opened : Option Opened) (lines : List SliceLine) (count blocks : ℕ) (t m : Tale) → KeptOutside nowhere t m → LeavesFormed host memory opened lines count blocks t → LeavesFormed host memory opened lines count blocks m
  formed_still None lines count blocks t m kept left = theirs_still (key_of host) (identity_of host memory.begun) (seats_asked (key_of host) (identity_of host memory.begun) lines count blocks) t m kept left
  formed_still (Some o) lines count blocks t m kept left = theirs_still o.key o.identity (seats_added o (Adds lines count blocks)) t m kept left

  blank_still : (calls : Outcomes) (slices : List SliceName) (t m : Tale) → KeptOutside nowhere t m → LeavesBlank calls host memory slices t → LeavesBlank calls host memory slices m
  blank_still calls slices t m kept left o is = by (are_all o slices) (left o is) where
    still : (a : PlaceAt) → IsBlankAt a t → IsBlankAt a m
    still a blank = everywhere_kept (λ image. image a.drive.0 a.first ≡ block_of []) t m kept blank

    by : (all : Bool) → MatchBool all (AreBlankAt (places_under host.drives (list_of o)) t) (AreBlankWhereCalm calls (places_dropped host.drives o (Drops slices)) t)
        → MatchBool all (AreBlankAt (places_under host.drives (list_of o)) m) (AreBlankWhereCalm calls (places_dropped host.drives o (Drops slices)) m)
    by true blank = λ a has. still a (blank a has)
    by false blank = λ a has calm. still a (blank a has calm)

  pub done_still : (calls : Outcomes) (command : Command) (t m : Tale) → KeptOutside nowhere t m → LeavesDone calls host memory command t → LeavesDone calls host memory command m
  done_still calls (AddPlaces slices force count blocks) t m kept left = formed_still memory.opened (lines_asked host slices) count blocks t m kept left
  done_still calls (AddListed number force) t m kept left = tt
  done_still calls (DropPlaces slices force) t m kept left = blank_still calls slices t m kept left
  done_still calls (Alter alteration) t m kept left = tt
  done_still calls (Read volume at count) t m kept left = tt
  done_still calls (Write volume at what) t m kept left = (left.0, left.1, on_disk_still left.0 at (blocks_of what) t m left.2 kept)
  done_still calls (Print names) t m kept left = tt

  -- so where it was ended
  pub torn_still : (calls : Outcomes) (command : Command) (t m : Tale) → KeptOutside nowhere t m → LeavesTorn calls host memory command t → LeavesTorn calls host memory command m
  torn_still calls (AddPlaces slices force count blocks) t m kept left = tt
  torn_still calls (AddListed number force) t m kept left = tt
  torn_still calls (DropPlaces slices force) t m kept left = λ o is all a has calm. everywhere_kept (λ image. image a.drive.0 a.first ≡ block_of []) t m kept (left o is all a has calm)
  torn_still calls (Alter alteration) t m kept left = tt
  torn_still calls (Read volume at count) t m kept left = tt
  torn_still calls (Write volume at what) t m kept left = tt
  torn_still calls (Print names) t m kept left = tt

  -- and where more calls failed
  blank_more : (failed more : Outcomes) → AreWithin failed more → (slices : List SliceName) (u : Tale) → LeavesBlank failed host memory slices u → LeavesBlank more host memory slices u
  blank_more failed more cause slices u left o is = by (are_all o slices) (left o is) where
    by : (all : Bool) → MatchBool all (AreBlankAt (places_under host.drives (list_of o)) u) (AreBlankWhereCalm failed (places_dropped host.drives o (Drops slices)) u)
        → MatchBool all (AreBlankAt (places_under host.drives (list_of o)) u) (AreBlankWhereCalm more (places_dropped host.drives o (Drops slices)) u)
    by true blank = blank
    by false blank = λ a has calm. blank a has (λ some. calm ((cause a.drive.0).some some))

  pub done_more : (failed more : Outcomes) → AreWithin failed more → (command : Command) (u : Tale) → LeavesDone failed host memory command u → LeavesDone more host memory command u
  done_more failed more cause (AddPlaces slices force count blocks) u left = left
  done_more failed more cause (AddListed number force) u left = tt
  done_more failed more cause (DropPlaces slices force) u left = blank_more failed more cause slices u left
  done_more failed more cause (Alter alteration) u left = tt
  done_more failed more cause (Read volume at count) u left = tt
  done_more failed more cause (Write volume at what) u left = left
  done_more failed more cause (Print names) u left = tt

  pub torn_more : (failed more : Outcomes) → AreWithin failed more → (command : Command) (u : Tale) → LeavesTorn failed host memory command u → LeavesTorn more host memory command u
  torn_more failed more cause (AddPlaces slices force count blocks) u left = tt
  torn_more failed more cause (AddListed number force) u left = tt
  torn_more failed more cause (DropPlaces slices force) u left = λ o is all a has calm. left o is all a has (λ some. calm ((cause a.drive.0).some some))
  torn_more failed more cause (Alter alteration) u left = tt
  torn_more failed more cause (Read volume at count) u left = tt
  torn_more failed more cause (Write volume at what) u left = tt
  torn_more failed more cause (Print names) u left = tt
