-- What was read at a place, of the same place by another name.
use Rattle.std.proofs.Common.{◌≡◌, ℕ, List, Option, Some, None, Ok, refl, subst}
use Rattle.std.specs.Prelude.{slice_index_or}
use Rattle.mdv_shelf.specs.Calls.{OnDrive}
use Rattle.mdv_shelf.specs.Shelves.{DriveFailures}
use Rattle.mdv_replica.specs.declared.looking.Seen.{Seen}
use Rattle.mdv_survey.specs.Below.{Geometry, Ghosts, Head, PlaceAt, Tale, last}
use Rattle.mdv_survey.specs.Counts.{AreSlotsBy, IsCounted, IsUnfitBy, ReadOn, open_slots}
use Rattle.mdv_survey.specs.Slice.{IsSeenThere}
use Rattle.mdv_survey.specs.Slots.{AreSlots, HasReadCause}
use Rattle.mdv_survey.specs.declared.body.ReadFault.{ReadFault}
use Rattle.mdv_survey.specs.declared.slots.Slots.{Slots}
use Rattle.mdv_survey.proofs.Reading.{slots_few}

module _ (at place : PlaceAt) (same : at ≡ place) where
  module _ {S : Type 0} (shelf : Ghosts S) (a b : S) where
    pub calm_here : shelf.faults b (OnDrive at.drive.0) ≡ shelf.faults a (OnDrive at.drive.0) → shelf.faults b (OnDrive place.drive.0) ≡ shelf.faults a (OnDrive place.drive.0)
    calm_here calm = subst (λ (p : PlaceAt). shelf.faults b (OnDrive p.drive.0) ≡ shelf.faults a (OnDrive p.drive.0)) same calm

    pub cause_here : (fault : ReadFault) → HasReadCause (DriveFailures shelf a b at.drive.0) fault → HasReadCause (DriveFailures shelf a b place.drive.0) fault
    cause_here fault cause = subst (λ (p : PlaceAt). HasReadCause (DriveFailures shelf a b p.drive.0) fault) same cause

    pub kept_here : ReadOn shelf a b at.drive.0 → ReadOn shelf a b place.drive.0
    kept_here kept = subst (λ (p : PlaceAt). ReadOn shelf a b p.drive.0) same kept

  pub slots_here : (g : Geometry) (head : Head) (t : Tale) (found other : Option Slots) → found ≡ other → AreSlots g at head (last t at.drive.0) found → AreSlots g place head (last t place.drive.0) other
  slots_here g head t found other is slots = subst (λ (p : PlaceAt). AreSlots g p head (last t p.drive.0) other) same (subst (AreSlots g at head (last t at.drive.0)) is slots)

  pub unfit_here : {S : Type 0} (E : Type 0) (shelf : Ghosts S) (a b : S) (g : Geometry) (head : Head) (found : Option Slots) → found ≡ None → AreSlotsBy {E = E} shelf g at head a b (Ok found)
      → IsCounted shelf a b 2 (λ t n. IsUnfitBy g place head (last t place.drive.0) n)
  unfit_here E shelf a b g head None none counted = subst (λ (p : PlaceAt). IsCounted shelf a b 2 (λ t n. IsUnfitBy g p head (last t p.drive.0) n)) same counted
  unfit_here E shelf a b g head (Some slots) none counted = absurd (cc (none))

  pub fit_here : {S : Type 0} (E : Type 0) (shelf : Ghosts S) (a b : S) (g : Geometry) (head : Head) (found : Option Slots) (slots : Slots) → found ≡ Some slots → AreSlotsBy {E = E} shelf g at head a b (Ok found)
      → IsCounted shelf a b 2 (λ t n. n ≡ open_slots head)
  fit_here E shelf a b g head None slots some counted = absurd (cc (some))
  fit_here E shelf a b g head (Some found) slots some made = record { calls = open_slots head; few = slots_few head; made = made; by = λ t is. refl }

  pub seen_here : (sizes : List ℕ) (t : Tale) (seen : Seen) → IsSeenThere at (slice_index_or sizes at.drive.0 0) (last t at.drive.0) seen → IsSeenThere place (slice_index_or sizes place.drive.0 0) (last t place.drive.0) seen
  seen_here sizes t seen there = subst (λ (p : PlaceAt). IsSeenThere p (slice_index_or sizes p.drive.0 0) (last t p.drive.0) seen) same there
