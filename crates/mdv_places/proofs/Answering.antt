-- The answer of a change of places.
use Rattle.std.proofs.Common.{◌≡◌, inl, inr, ℕ, Bool, List, ◌++◌, Ok, Err, refl, sym, ◌∙◌, subst}
use Rattle.mdv_acts.specs.Acts.{HaveGone, HaveStopped}
use Rattle.mdv_acts.specs.Wipes.{AreLostBy, WereWiped}
use Rattle.mdv_base.specs.DriveSet.{Drives, no_drives}
use Rattle.mdv_store.proofs.Marks.{slot_laid}
use Rattle.mdv_store.proofs.Relisting.{laid_in}
use Rattle.mdv_store.proofs.Sitting.{left_laid}
use Rattle.mdv_store.specs.Listing.{MayList, WasListed, last_by, seats_in}
use Rattle.mdv_store.specs.Writing.{text_size}
use Rattle.mdv_shelf.specs.Shelves.{AtEnd, DriveFailures}
use Rattle.mdv_places.specs.Asked.{Adds, Asks, Drops, KeepsFirst, acts_moved, drives_added, dropped, lists_after, seats_added}
use Rattle.mdv_places.specs.Below.{AreLaid, Geometry, Ghosts, Opened, Share, TakesSlot, last_of, next_mark}
use Rattle.mdv_places.specs.Answer.{MoveAnswer}
use Rattle.mdv_places.specs.Changing.{MayMove, WereMoved, both_of, lost_by}
use Rattle.mdv_places.specs.Moments.{AreBlanked, MoveShows}
use Rattle.mdv_places.specs.declared.changing.PlacesFault.{PlacesFault}
use Rattle.mdv_places.specs.declared.changing.PlacesFault.TheVariants as unmoved
use Rattle.std.specs.Prelude.{Result}
use Rattle.mdv_places.proofs.Calling.{both_lost, last_lost, moved_so, not_moved}
use Rattle.mdv_places.specs.Ending.{IsSole}
use Rattle.mdv_places.specs.Outcomes.{IsMoved}
use Rattle.mdv_places.proofs.Sole.{sole_left}
use Rattle.mdv_places.proofs.Moving.{both_laid}
use Rattle.mdv_places.proofs.Wiping.{told}

module _ {S : Type 0} (shelf : Ghosts S) (from formed both : S) (g : Geometry) (o between : Opened) (asked : Asks)
    (may : MayMove (shelf.sizes from) g o asked) (checked : MayList o (lists_after asked o.table.plan.lists)) (laid : AreLaid (shelf.sizes from) o.seats)
    (gone : HaveGone shelf from formed (drives_added asked) (acts_moved o asked)) where
  abbrev Shown : S → Opened → Result Bool PlacesFault → Type 0
  Shown to new result = AtEnd shelf (MoveShows g o new asked result) from to

  -- behind the record with both lists the places lie where they lay
  pub between_laid : (result : _) → WasListed shelf formed both (both_of o asked) between result → AreLaid (shelf.sizes both) between.seats
  between_laid result first =
      let bytes = text_size (both_of o asked).table in
      left_laid (DriveFailures shelf formed both) (TakesSlot (next_mark o.mark) bytes) (shelf.sizes both) (o.seats ++ seats_added o asked) between.seats (slot_laid (next_mark o.mark) bytes (shelf.sizes both)) first.wrote.left
      (subst (λ (sizes : List ℕ). AreLaid sizes (o.seats ++ seats_added o asked)) (sym (first.wrote.kept.keeps.same_sizes ∙ gone.kept.keeps.same_sizes)) (both_laid (shelf.sizes from) g o asked may checked laid))

  -- too few took it with both lists
  pub lost_both : (share : Share) → WasListed shelf formed both (both_of o asked) between (Err share) → Shown both between (Err (lost_by share)) → MoveAnswer shelf from both g o between asked (Err (lost_by share))
  lost_both share first shown = record {
    came = inr (inl (record { formed = formed; gone = gone; first = first }));
    laid = between_laid (Err share) first;
    by = inr (inl (both_lost shelf from formed both g o between asked checked gone may share first));
    shown = shown;
    wiped = tt;
    sole = λ first. tt;
  }

  module _ (first : WasListed shelf formed both (both_of o asked) between (Ok tt)) (last : S) (now : Opened) where
    last_laid : (result : _) → WasListed shelf both last (last_by between) now result → AreLaid (shelf.sizes last) now.seats
    last_laid result second =
        let list = last_of between.table.plan.lists in
        let bytes = text_size (last_by between).table in
        left_laid (DriveFailures shelf both last) (TakesSlot (next_mark between.mark) bytes) (shelf.sizes last) (seats_in list between.seats) now.seats (slot_laid (next_mark between.mark) bytes (shelf.sizes last)) second.wrote.left
        (subst (λ (sizes : List ℕ). AreLaid sizes (seats_in list between.seats)) (sym second.wrote.kept.keeps.same_sizes) (laid_in list between.seats (shelf.sizes both) (between_laid (Ok tt) first)))

    -- or with the new one alone
    pub lost_last : (share : Share) → WasListed shelf both last (last_by between) now (Err share) → Shown last now (Err (lost_by share)) → MoveAnswer shelf from last g o now asked (Err (lost_by share))
    lost_last share second shown = record {
      came = inr (inr (record { formed = formed; both = both; between = between; gone = gone; first = first; second = second }));
      laid = last_laid (Err share) second;
      by = inr (inr (last_lost shelf from formed both g o between asked checked gone may first last now share second));
      shown = shown;
      wiped = tt;
      sole = λ first. tt;
    }

    -- done: each dropped place was tried behind that
    module _ (to : S) (lost left : Drives) (clean : Bool) (second : WasListed shelf both last (last_by between) now (Ok tt)) (failed : AreLostBy (DriveFailures shelf from last) no_drives lost)
        (wiped : WereWiped shelf g last to (dropped asked (last_of o.table.plan.lists)) lost left clean) where
      pub were_moved : WereMoved shelf from to g o now asked clean
      were_moved = record {
        formed = formed;
        both = both;
        last = last;
        between = between;
        gone = gone;
        first = first;
        second = second;
        lost = lost;
        now = left;
        failed = failed;
        wiped = wiped;
        told = told shelf from last to g o now asked may.sound lost left failed clean wiped;
      }

      alone : (a : Asks) → a ≡ KeepsFirst → MayMove (shelf.sizes from) g o a → MayList o (lists_after a o.table.plan.lists) → IsMoved (DriveFailures shelf from to) g o a now clean → IsSole now
      alone (Adds lines count blocks) first may_move list m = absurd (cc (first))
      alone (Drops slices) first may_move list m = absurd (cc (first))
      alone KeepsFirst first may_move list m = sole_left (DriveFailures shelf from to) (shelf.sizes from) g o may_move list now clean m

      pub moved : Shown to now (Ok clean) → AtEnd shelf (λ t u. AreBlanked (DriveFailures shelf from to) g o asked clean u) from to → MoveAnswer shelf from to g o now asked (Ok clean)
      moved shown blanked = record {
        came = were_moved;
        laid = subst (λ (sizes : List ℕ). AreLaid sizes now.seats) (sym wiped.tried.kept.keeps.same_sizes) (last_laid (Ok tt) second);
        by = moved_so shelf from to g o now asked may.sound checked clean were_moved;
        shown = shown;
        wiped = blanked;
        sole = λ first. alone asked first may checked (moved_so shelf from to g o now asked may.sound checked clean were_moved);
      }

-- A call failed as places were formatted.
module _ {S : Type 0} (shelf : Ghosts S) (from : S) (g : Geometry) (o : Opened) (asked : Asks) (laid : AreLaid (shelf.sizes from) o.seats) where
  pub stopped_answer : (to : S) → MayList o (lists_after asked o.table.plan.lists) → HaveStopped shelf from to (drives_added asked) (acts_moved o asked) → AtEnd shelf (MoveShows g o o asked (Err unmoved.Failed)) from to → MoveAnswer shelf from to g o o asked (Err unmoved.Failed)
  stopped_answer to checked stopped shown = record {
    came = (stopped, refl, checked);
    laid = subst (λ (sizes : List ℕ). AreLaid sizes o.seats) (sym stopped.kept.keeps.same_sizes) laid;
    by = (not_moved shelf from to g o asked checked stopped, refl);
    shown = shown;
    wiped = tt;
    sole = λ first. tt;
  }
