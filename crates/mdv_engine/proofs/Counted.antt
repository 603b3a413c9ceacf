-- How many calls a change of places makes, and the end of a database, as a command's.
use Rattle.std.proofs.Common.{◌≡◌, ◌≤◌, ◌+◌, ◌*◌, ℕ, Bool, true, false, List, [], Contains, Option, Some, None, Result, Ok, Err, if◌then◌else◌, refl, sym, subst, ap, arith}
use Rattle.std.specs.Prelude.{MatchOption}
use Rattle.std.specs.Bool.{MatchBool}
use Rattle.mdv_acts.specs.Acts as acts
use Rattle.mdv_acts.specs.Acts.{MadeCallsBetween}
use Rattle.mdv_base.proofs.Causes.{within_calm}
use Rattle.mdv_base.specs.declared.drive.Failed.{Failed}
use Rattle.mdv_places.specs.Asked.{Adds, Asks, Drops, KeepsFirst, acts_moved}
use Rattle.mdv_places.specs.Changing.{CameOfMove, WasLost, both_of}
use Rattle.mdv_places.specs.Counts.{IsLossCounted, IsMoveCounted, dropped_count, first_count, last_count, move_blocks, move_calls}
use Rattle.mdv_places.specs.Ending.{HasEnded, IsSole}
use Rattle.mdv_places.specs.Outcomes.{CameByCalls}
use Rattle.mdv_places.specs.declared.changing.PlacesFault.{PlacesFault}
use Rattle.mdv_places.specs.declared.changing.PlacesFault.TheVariants as unmoved
use Rattle.mdv_shelf.proofs.Between.{between_none, between_of, between_then, between_wider}
use Rattle.mdv_shelf.proofs.Counts.{took_more}
use Rattle.mdv_shelf.specs.Made.{made_of}
use Rattle.mdv_shelf.specs.Shelves.{DriveFailures}
use Rattle.mdv_shelf.specs.declared.shelf.Shelf.{Ghosts}
use Rattle.mdv_store.specs.Text.{blocks_for}
use Rattle.mdv_store.specs.Writing.{text_size}
use Rattle.mdv_config.specs.Lists.{settled}
use Rattle.mdv_plan.specs.declared.lists.Lists.{Lists}
use Rattle.mdv_plan.specs.declared.lists.Lists.TheVariants.{One, Two}
use Rattle.mdv_engine_law.specs.Answers.{accepted, refusing}
use Rattle.mdv_engine_law.specs.Efforts.{DeletionCalls, MoveCalls, deletion_blocks, deletion_calls}
use Rattle.mdv_engine_law.specs.Places.{are_all}
use Rattle.mdv_engine_law.proofs.Widening.{AreWithin}
use Rattle.mdv_engine.specs.Below.{AddPlaces, Answer, DropPlaces, Geometry, Host, IoFault, Opened, SliceName, active_of, lines_asked, shortage}
use Rattle.mdv_engine.specs.Counts.{HasHalted, HasWrittenAll, IsCommandCounted}
use Rattle.mdv_engine.specs.Moving.{IsAnswerOf, IsFaultOf, fault_answer}

-- no drive is one of none
no_drive : {X : Type 0} (x : X) → Contains [] x → ⊥
no_drive x has = omega (arith, has.1)

module _ {S : Type 0} (shelf : Ghosts S) (old new : S) (o : Opened) where
  abbrev Within : ℕ → ℕ → ℕ → Type 0
  Within least most blocks = (made_of shelf old new).within least most blocks

  wider : (j k l least most blocks : ℕ) → least ≤ j → k ≤ most → l ≤ blocks → Within j k l → Within least most blocks
  wider j k l least most blocks low high written took = between_wider shelf.calls shelf.written old new j k l least most blocks low high written took

  none_made : new ≡ old → Within 0 0 0
  none_made same = between_none shelf.calls shelf.written old new 0 0 same

  -- a part of the calls of a change is no more than all
  module _ (asked : Asks) where
    abbrev body : ℕ
    body = 2 + blocks_for (text_size (both_of o asked).table)

    abbrev tail : ℕ
    tail = 2 + blocks_for (text_size (settled (both_of o asked).table))

    part : (least j k l a b c d e f : ℕ) → Within j k l → least ≤ j → Within least (k + a + b + c) (l + d + e + f)
    part least j k l a b c d e f took low = wider j k l least (k + a + b + c) (l + d + e + f) low (omega arith) (omega arith) took

    first_part : (least j k l b c e f : ℕ) → Within j k l → least ≤ j → Within least (k + b + c) (l + e + f)
    first_part least j k l b c e f took low = wider j k l least (k + b + c) (l + e + f) low (omega arith) (omega arith) took

    last_part : (least j k l c f : ℕ) → Within j k l → least ≤ j → Within least (k + c) (l + f)
    last_part least j k l c f took low = wider j k l least (k + c) (l + f) low (omega arith) (omega arith) took

    -- too few took one of the two records
    lost_most : (now : Opened) (lists : Lists) → IsLossCounted shelf old new o asked now lists → Within 0 (move_calls o asked) (move_blocks o asked)
    lost_most now (Two was next) took = first_part 0 _ (acts.calls_of (acts_moved o asked) + 6 * first_count o asked) (acts.blocks_of (acts_moved o asked) + body * first_count o asked) (6 * last_count o asked) (2 * dropped_count o asked) (tail * last_count o asked) (dropped_count o asked) took (omega arith)
    lost_most now (One list) took = last_part 0 _ (acts.calls_of (acts_moved o asked) + 6 * first_count o asked + 6 * last_count o asked) (acts.blocks_of (acts_moved o asked) + body * first_count o asked + tail * last_count o asked) (2 * dropped_count o asked) (dropped_count o asked) took.some (omega arith)

    -- the store was as it should be before
    loss_of : shortage o ≡ None → (g : Geometry) (now : Opened) (active listed : ℕ) → IsMoveCounted shelf old new g o asked now (Err (unmoved.Lost active listed)) → Within 0 (move_calls o asked) (move_blocks o asked)
    loss_of half g now active listed counted = lost_most now now.table.plan.lists (subst (λ (s : Option _). MatchOption s (IsLossCounted shelf old new o asked now now.table.plan.lists) (λ share. new ≡ old)) half counted)

    -- those of one that is done
    abbrev Calls : Geometry → Type 0
    Calls g = MoveCalls (DriveFailures shelf old new) (made_of shelf old new) g o asked

    least_of : (k n most blocks : ℕ) → Within (k + 12 * n) most blocks → Within k most blocks
    least_of k n most blocks took = wider (k + 12 * n) most blocks k most blocks (omega arith) (omega arith) (omega arith) took

    done_of : (g : Geometry) (now : Opened) (clean : Bool) → IsMoveCounted shelf old new g o asked now (Ok clean) → Calls g
    done_of g now clean counted = record { all = λ none. counted.0 none; some = least_of (acts.calls_of (acts_moved o asked)) (active_of now.seats) (move_calls o asked) (move_blocks o asked) counted.1 }

    most_of : (least most blocks : ℕ) → Within least most blocks → Within 0 most blocks
    most_of least most blocks took = wider least most blocks 0 most blocks (omega arith) (omega arith) (omega arith) took

  module _ (host : Host) (half : shortage o ≡ None) (now : Opened) (next : Option Opened) where
    -- places are added
    module _ (slices : List SliceName) (force : Bool) (count blocks : ℕ) where
      abbrev adding : Asks
      adding = Adds (lines_asked host slices) count blocks

      abbrev CountedAs : Answer → Type 0
      CountedAs answer = IsCommandCounted shelf old new host (AddPlaces slices force count blocks) answer (Some o) next

      formats_most : Within 1 (acts.calls_of (acts_moved o adding)) (acts.blocks_of (acts_moved o adding)) → Within 0 (move_calls o adding) (move_blocks o adding)
      formats_most took = part adding 0 1 (acts.calls_of (acts_moved o adding)) (acts.blocks_of (acts_moved o adding)) (6 * first_count o adding) (6 * last_count o adding) (2 * dropped_count o adding) (body adding * first_count o adding) (tail adding * last_count o adding) (dropped_count o adding) took (omega arith)

      adds_fault : (fault : PlacesFault) → IsMoveCounted shelf old new host.drives o adding now (Err fault) → CameOfMove shelf old new host.drives o now adding (Err fault) → CountedAs (fault_answer fault)
      adds_fault unmoved.Failed counted steps = (counted, formats_most counted, tt)
      adds_fault (unmoved.TooLong fault) counted steps = counted
      adds_fault (unmoved.Lost active listed) counted steps = (loss_of adding half host.drives now active listed counted, (now, steps))
      adds_fault unmoved.Spent counted steps = counted
      adds_fault unmoved.Memory counted steps = (none_made counted, ap shelf.tale counted)

      pub adds_counted : (came : Result Bool PlacesFault) → IsMoveCounted shelf old new host.drives o adding now came → CameOfMove shelf old new host.drives o now adding came → ((clean : Bool) → came ≡ Ok clean → next ≡ Some now) → (answer : Answer) → IsAnswerOf came answer → CountedAs answer
      adds_counted (Ok clean) counted steps next_is answer is = subst CountedAs (sym is) (record {
        exactly = done_of adding host.drives now clean counted;
        most = most_of adding (acts.calls_of (acts_moved o adding) + 12 * active_of now.seats) (move_calls o adding) (move_blocks o adding) counted.1;
        wrote = subst (λ (x : Option Opened). HasWrittenAll shelf old new host (AddPlaces slices force count blocks) (Some o) x) (sym (next_is clean refl)) (clean, steps);
      })
      adds_counted (Err fault) counted steps next_is answer is = subst CountedAs (sym is) (adds_fault fault counted steps)

    -- places go
    module _ (slices : List SliceName) (force : Bool) where
      abbrev Dropped : Answer → Type 0
      Dropped answer = IsCommandCounted shelf old new host (DropPlaces slices force) answer (Some o) next

      -- what is told of all, or of some
      of_these : (P : Bool → Type 0) (all : Bool) → are_all o slices ≡ all → P all → P (are_all o slices)
      of_these P all is it = subst P (sym is) it

      abbrev less : Bool → Asks
      less all = if all then KeepsFirst else Drops slices

      -- a change by which some go, or the first one alone is left
      module _ (all : Bool) (is : are_all o slices ≡ all) where
        abbrev Most : Bool → Type 0
        Most b = Within 0 (if b then deletion_calls o else move_calls o (Drops slices)) (if b then deletion_blocks o else move_blocks o (Drops slices))

        and_more : (k l : ℕ) → Within 0 k l → Within 0 (k + 2) (l + 1)
        and_more k l took = wider 0 k l 0 (k + 2) (l + 1) (omega arith) (omega arith) (omega arith) took

        lost_so : (b : Bool) → Within 0 (move_calls o (less b)) (move_blocks o (less b)) → Most b
        lost_so true took = and_more (move_calls o KeepsFirst) (move_blocks o KeepsFirst) took
        lost_so false took = took

        drop_fault : (fault : PlacesFault) → CameByCalls (DriveFailures shelf old new) host.drives o (less all) now (Err fault) → IsMoveCounted shelf old new host.drives o (less all) now (Err fault) → CameOfMove shelf old new host.drives o now (less all) (Err fault) → Dropped (fault_answer fault)
        drop_fault unmoved.Failed by counted steps = absurd (never all by) where
          never : (b : Bool) → CameByCalls (DriveFailures shelf old new) host.drives o (less b) now (Err unmoved.Failed) → ⊥
          never true (unformed, same) = no_drive unformed.drive unformed.one_of
          never false (unformed, same) = no_drive unformed.drive unformed.one_of
        drop_fault (unmoved.TooLong fault) by counted steps = counted
        drop_fault (unmoved.Lost active listed) by counted steps = (of_these (λ (b : Bool). Within 0 (move_calls o (less b)) (move_blocks o (less b))) all is (loss_of (less all) half host.drives now active listed counted), (now, of_these (λ (b : Bool). WasLost shelf old new host.drives o now (less b) (record { active = active; listed = listed })) all is steps))
        drop_fault unmoved.Spent by counted steps = counted
        drop_fault unmoved.Memory by counted steps = (none_made counted, ap shelf.tale counted)

        pub drop_faulted : (fault : PlacesFault) → CameByCalls (DriveFailures shelf old new) host.drives o (less all) now (Err fault) → IsMoveCounted shelf old new host.drives o (less all) now (Err fault) → CameOfMove shelf old new host.drives o now (less all) (Err fault) → (answer : Answer) → IsFaultOf fault answer → Dropped answer
        drop_faulted fault by counted steps answer same = subst Dropped (sym same) (drop_fault fault by counted steps)

      -- some go
      pub drops_counted : are_all o slices ≡ false → (came : Result Bool PlacesFault) → CameByCalls (DriveFailures shelf old new) host.drives o (Drops slices) now came → IsMoveCounted shelf old new host.drives o (Drops slices) now came → CameOfMove shelf old new host.drives o now (Drops slices) came → ((clean : Bool) → came ≡ Ok clean → next ≡ Some now) → (answer : Answer) → IsAnswerOf came answer → Dropped answer
      drops_counted is (Ok clean) by counted steps next_is answer same = subst Dropped (sym same) (record {
        exactly = of_these (λ (b : Bool). MatchBool b (DeletionCalls (DriveFailures shelf old new) (made_of shelf old new) host.drives o) (MoveCalls (DriveFailures shelf old new) (made_of shelf old new) host.drives o (Drops slices))) false is (done_of (Drops slices) host.drives now clean counted);
        most = of_these (λ (b : Bool). Within 0 (if b then deletion_calls o else move_calls o (Drops slices)) (if b then deletion_blocks o else move_blocks o (Drops slices))) false is
            (most_of (Drops slices) (0 + 12 * active_of now.seats) (move_calls o (Drops slices)) (move_blocks o (Drops slices)) counted.1);
        wrote = subst (λ (x : Option Opened). HasWrittenAll shelf old new host (DropPlaces slices force) (Some o) x) (sym (next_is clean refl)) (clean, steps);
      })
      drops_counted is (Err fault) by counted steps next_is answer same = drop_faulted false is fault by counted steps answer same

      -- all were to go, and a wipe failed
      module _ (is : are_all o slices ≡ true) where
        abbrev Fault : Bool → Type 0
        Fault b = MatchBool b (Within 12 (deletion_calls o) (deletion_blocks o)) ⊥ × Within 0 (if b then deletion_calls o else move_calls o (Drops slices)) (if b then deletion_blocks o else move_blocks o (Drops slices))

        abbrev Halted : Type 0
        Halted = HasHalted shelf old new host (DropPlaces slices force) (Some o) next

        faulted : Within 12 (deletion_calls o) (deletion_blocks o) → Halted → Dropped (refusing IoFault)
        faulted took halted = (let both = of_these Fault true is (took, wider 12 (deletion_calls o) (deletion_blocks o) 0 (deletion_calls o) (deletion_blocks o) (omega arith) (omega arith) (omega arith) took) in (both.0, both.1, halted))

        one_active : (s : IsSole now) → active_of now.seats ≡ 1
        one_active s = ap active_of s.seats

        twelve : (n k l : ℕ) → n ≡ 1 → Within (0 + 12 * n) k l → Within 12 (k + 2) (l + 1)
        twelve n k l one took = wider (0 + 12 * n) k l 12 (k + 2) (l + 1) (omega (arith, one)) (omega arith) (omega arith) took

        pub half_counted : (clean : Bool) → IsSole now → IsMoveCounted shelf old new host.drives o KeepsFirst now (Ok clean) → Halted → Dropped (refusing IoFault)
        half_counted clean sole counted halted = faulted (twelve (active_of now.seats) (move_calls o KeepsFirst) (move_blocks o KeepsFirst) (one_active sole) counted.1) halted

-- All go: behind a change to the first place alone its master is blanked.
module _ {S : Type 0} (shelf : Ghosts S) (a b c : S) (o : Opened) (host : Host) (half : shortage o ≡ None) (now : Opened) (next : Option Opened) (slices : List SliceName) (force : Bool) (is : are_all o slices ≡ true) (sole : IsSole now)
    (first : IsMoveCounted shelf a b host.drives o KeepsFirst now (Ok true)) where
  abbrev Deleted : Type 0
  Deleted = DeletionCalls (DriveFailures shelf a c) (made_of shelf a c) host.drives o

  one : active_of now.seats ≡ 1
  one = ap active_of sole.seats

  both : (n k l least : ℕ) → n ≡ 1 → MadeCallsBetween shelf a b (0 + 12 * n) k l → MadeCallsBetween shelf b c least 2 1 → MadeCallsBetween shelf a c (12 + least) (k + 2) (l + 1)
  both n k l least only one_part other = between_then shelf.calls shelf.written a b c (0 + 12 * n) k l least 2 1 (12 + least) (k + 2) (l + 1) (omega (arith, only)) (omega arith) (omega arith) one_part other

  pub torn_counted : (fault : Failed) → HasEnded shelf b c now (Err fault) → HasHalted shelf a c host (DropPlaces slices force) (Some o) next → IsCommandCounted shelf a c host (DropPlaces slices force) (refusing IoFault) (Some o) next
  torn_counted fault (s, stopped) halted =
      let all = both (active_of now.seats) (move_calls o KeepsFirst) (move_blocks o KeepsFirst) 1 one first.1 stopped.made in
      faulted shelf a c o host half now next slices force is (wider shelf a c o 13 (deletion_calls o) (deletion_blocks o) 12 (deletion_calls o) (deletion_blocks o) (omega arith) (omega arith) (omega arith) all) halted

  pub ended_counted : HasEnded shelf b c now (Ok tt) → HasWrittenAll shelf a c host (DropPlaces slices force) (Some o) next → IsCommandCounted shelf a c host (DropPlaces slices force) accepted (Some o) next
  ended_counted (s, gone) wrote = record {
    exactly = of_these shelf a c o host half now next slices force (λ (all : Bool). MatchBool all Deleted (MoveCalls (DriveFailures shelf a c) (made_of shelf a c) host.drives o (Drops slices))) true is (record {
      all = λ none. took_more shelf.calls shelf.written a b c (move_calls o KeepsFirst) 2 (move_blocks o KeepsFirst) 1 (deletion_calls o) (deletion_blocks o) refl refl (first.0 (λ drive has some. none drive has ((within drive.0).some some))) gone.made;
      some = taken;
    });
    most = of_these shelf a c o host half now next slices force (λ (all : Bool). (made_of shelf a c).within 0 (if all then deletion_calls o else move_calls o (Drops slices)) (if all then deletion_blocks o else move_blocks o (Drops slices))) true is
        (wider shelf a c o 14 (deletion_calls o) (deletion_blocks o) 0 (deletion_calls o) (deletion_blocks o) (omega arith) (omega arith) (omega arith) taken);
    wrote = wrote;
  }
    where
      within : AreWithin (DriveFailures shelf a b) (DriveFailures shelf a c)
      within drive = within_calm _ _ _ (gone.calm drive)

      taken : MadeCallsBetween shelf a c 14 (deletion_calls o) (deletion_blocks o)
      taken = both (active_of now.seats) (move_calls o KeepsFirst) (move_blocks o KeepsFirst) 2 one first.1 (between_of shelf.calls shelf.written b c 2 1 2 2 1 (omega arith) (omega arith) (omega arith) gone.made)
