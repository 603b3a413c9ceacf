-- What came of a change of places, by how the calls on each drive came out, and by nothing else.
use Rattle.std.specs.Prelude.{◌≡◌, ◌≢◌, ◌⊎◌, ℕ, Bool, List, Contains, Some, None, Result, Ok, Err}
use Rattle.std.specs.Bool.{MatchBool}
use Rattle.mdv_store.specs.Listing.{MayList, MayNotList, seats_in}
use Rattle.mdv_store.specs.Writing.{text_size}
use Rattle.mdv_store.specs.declared.store.CommitFault.TheVariants as unwritten
use Rattle.mdv_places.specs.Asked.{Asks, KeepsFirst, drives_added, list_after, lists_after}
use Rattle.mdv_places.specs.Below.{AreLeft, DriveNo, Failures, Geometry, Lists, Mark, Opened, Replica, Seat, Share, TakesSlot, last_of, next_mark, settled, shortage}
use Rattle.mdv_places.specs.Changing.{AreCalmOn, HasFailedOn, both_of, drives_dropped, drives_moved}
use Rattle.mdv_places.specs.declared.changing.PlacesFault.{PlacesFault}
use Rattle.mdv_places.specs.declared.changing.PlacesFault.TheVariants as unmoved

-- the table with both lists was taken, and behind that the one with the new list alone
abbrev pub TakesTwice : Mark → ℕ → ℕ → Replica → Replica → Type 0
TakesTwice mark both last r n = (m : Replica) × TakesSlot mark both r m × TakesSlot (next_mark mark) last m n

-- the drive of this number is one of these
abbrev pub IsNumberOf : List DriveNo → ℕ → Type 0
IsNumberOf drives number = (drive : DriveNo) × Contains drives drive × (drive.0 ≡ number)

module _ (calls : ℕ → Failures) (g : Geometry) (old : Opened) (asked : Asks) where
  abbrev pub lists_moved : Lists
  lists_moved = lists_after asked old.table.plan.lists

  -- How the calls on the drives had come out when the wipes began. A wipe may fail on the drive of a dropped place, on which another place stays active.
  abbrev pub till_wiped : ℕ → Failures
  till_wiped drive = record { some = (calls drive).some; none = (calls drive).none ⊎ (IsNumberOf (drives_dropped g old asked) drive × (calls drive).some) }

  -- the seats of the new list, as they are before the records
  abbrev pub seats_coming : List Seat
  seats_coming = seats_in (list_after asked (last_of old.table.plan.lists)) (both_of old asked).seats

  abbrev pub TakesBoth : Replica → Replica → Type 0
  TakesBoth = TakesTwice (next_mark old.mark) (text_size (both_of old asked).table) (text_size (settled (both_of old asked).table))

  -- The new list is the only one, and half of it is active: those of its places on whose drives no call failed till the wipes began, and each of them took both tables.
  -- The answer is true where on the drives of dropped places no call failed, and false where on one of them one did.
  pub record IsMoved (new : Opened) (clean : Bool) : Type 0 where
    pub may : MayList old lists_moved
    pub left : AreLeft till_wiped TakesBoth seats_coming new.seats
    pub enough : shortage new ≡ None
    pub is : new ≡ record old { mark = next_mark (next_mark old.mark); table = settled (both_of old asked).table; seats = new.seats }
    pub told : MatchBool clean (AreCalmOn (drives_dropped g old asked) calls) (HasFailedOn (drives_dropped g old asked) calls)

  -- A call failed as places were formatted, on the drive of one of these, and none on any other.
  pub record IsUnmoved : Type 0 where
    pub may : MayList old lists_moved
    pub drive : DriveNo
    pub one_of : Contains (drives_added asked) drive
    pub here : (calls drive.0).some
    pub elsewhere : (other : DriveNo) → (other ≡ drive → ⊥) → (calls other.0).none

  -- nothing was done
  abbrev pub IsUntouched : Opened → Type 0
  IsUntouched new = (new ≡ old) × ((drive : ℕ) → (calls drive).none)

  -- Of a list, the first one of which that is so, fewer than half took the table with both lists, since a call failed.
  pub record IsLostBoth (new : Opened) (share : Share) : Type 0 where
    pub may : MayList old lists_moved
    pub left : AreLeft calls (TakesSlot (next_mark old.mark) (text_size (both_of old asked).table)) (both_of old asked).seats new.seats
    pub few : shortage new ≡ Some share
    pub is : new ≡ record (both_of old asked) { seats = new.seats }
    pub failed : HasFailedOn (drives_moved g old asked) calls

  -- Enough did, and fewer than half of the new list took the table with that list alone, since a call failed.
  pub record IsLostLast (new : Opened) (share : Share) : Type 0 where
    pub may : MayList old lists_moved
    pub left : AreLeft calls TakesBoth seats_coming new.seats
    pub few : shortage new ≡ Some share
    pub is : new ≡ record old { mark = next_mark old.mark; table = settled (both_of old asked).table; seats = new.seats }
    pub failed : HasFailedOn (drives_moved g old asked) calls

  -- the store was lost before, or is now: in one record or the other
  abbrev pub IsLostMove : Opened → Share → Type 0
  IsLostMove new share = (IsUntouched new × (shortage old ≡ Some share)) ⊎ (IsLostBoth new share ⊎ IsLostLast new share)

  abbrev pub CameByCalls : Opened → Result Bool PlacesFault → Type 0
  CameByCalls new (Ok clean) = IsMoved new clean
  CameByCalls new (Err unmoved.Failed) = IsUnmoved × (new ≡ old)
  CameByCalls new (Err (unmoved.TooLong fault)) = IsUntouched new × MayNotList old lists_moved (unwritten.TooLong fault)
  CameByCalls new (Err (unmoved.Lost active listed)) = IsLostMove new (record { active = active; listed = listed })
  CameByCalls new (Err unmoved.Spent) = IsUntouched new × MayNotList old lists_moved unwritten.Spent
  CameByCalls new (Err unmoved.Memory) = IsUntouched new × MayList old lists_moved × (asked ≢ KeepsFirst)
