-- What a change of places says: of what it is asked, and of its answer.
use Rattle.std.specs.Prelude.{◌≡◌, ◌≢◌, ◌⊎◌, ◌≤◌, ℕ, Bool, List, ◌++◌, length, filter_map, vec_len, AllPairs, Contains, MatchOption, Option, None, Some, Result, Ok, Err}
use Rattle.std.specs.Bool.{MatchBool}
use Rattle.mdv_acts.specs.Acts.{HaveGone, HaveStopped}
use Rattle.mdv_acts.specs.Wipes.{AreLaidOn, AreLostBy, WereWiped}
use Rattle.mdv_base.specs.DriveSet.{Drives, no_drives}
use Rattle.mdv_shelf.specs.Shelves.{DriveFailures}
use Rattle.mdv_store.specs.Listing.{MayList, MayNotList, WasListed, last_by, list_room, listed_by}
use Rattle.mdv_store.specs.Shares.{short_in}
use Rattle.mdv_store.specs.declared.seats.Need.TheVariants.{Half}
use Rattle.mdv_store.specs.declared.store.CommitFault.{CommitFault}
use Rattle.mdv_store.specs.declared.store.CommitFault.TheVariants as unwritten
use Rattle.mdv_places.specs.Asked.{Adds, AreAskedOn, Asks, Drops, KeepsFirst, acts_moved, drives_added, dropped, list_after, lists_after, seats_added}
use Rattle.mdv_places.specs.Below.{DriveNo, Failures, Geometry, Ghosts, IsSound, Lists, One, Opened, Place, Share, SliceAt, SliceLine, drives_of, last_of, shortage, slice_at}
use Rattle.mdv_places.specs.declared.changing.PlacesFault.{PlacesFault}
use Rattle.mdv_places.specs.declared.changing.PlacesFault.TheVariants as unmoved
use Rattle.mdv_places.specs.declared.forming.Hand.{Hand}

-- what the store's faults are here
abbrev pub lost_by : Share → PlacesFault
lost_by share = unmoved.Lost share.active share.listed

abbrev pub fault_of : CommitFault → PlacesFault
fault_of (unwritten.Lost active listed) = unmoved.Lost active listed
fault_of (unwritten.TooLong fault) = unmoved.TooLong fault
fault_of unwritten.Spent = unmoved.Spent

-- none of these places lies on a slice that gets more
abbrev pub AreFree : Asks → List Place → Type 0
AreFree (Adds lines count blocks) places = (line : SliceLine) → Contains lines line → (p : Place) → Contains places p → p.slice ≡ line.name → ⊥
AreFree (Drops slices) places = Unit {0}
AreFree KeepsFirst places = Unit {0}

-- At least half of the list that comes is active. Of one to which places are added this isn't asked: all that are added come with a replica, so it is so where half of the old one is.
abbrev pub IsEnough : Opened → Asks → Type 0
IsEnough o (Adds lines count blocks) = Unit {0}
IsEnough o (Drops slices) = short_in Half o.seats (list_after (Drops slices) (last_of o.table.plan.lists)) ≡ None
IsEnough o KeepsFirst = short_in Half o.seats (list_after KeepsFirst (last_of o.table.plan.lists)) ≡ None

-- no place stands twice
abbrev pub AreOnce : List Place → Type 0
AreOnce places = AllPairs (λ (p q : Place). p ≡ q → ⊥) places

-- An open database may be asked that: it has one list, of different places, each on a slice of the table of drives and within its drive; the places that are added are some of
-- drives of the shelf, on slices that have none yet; the list that comes isn't empty, nor has more than fifty places, and enough of it is active; and a set of drives holds all of the shelf.
pub record MayMove (sizes : List ℕ) (g : Geometry) (o : Opened) (asked : Asks) : Type 0 where
  pub sound : IsSound g
  pub drives : length sizes ≤ 256
  pub one : (list : List Place) × (o.table.plan.lists ≡ One list)
  pub differ : AreOnce (last_of o.table.plan.lists)
  pub placed : AreLaidOn sizes g (last_of o.table.plan.lists)
  pub within : AreAskedOn sizes asked
  pub free : AreFree asked (last_of o.table.plan.lists)
  pub some : 1 ≤ length (list_after asked (last_of o.table.plan.lists))
  pub few : length (list_after asked (last_of o.table.plan.lists)) ≤ 50
  pub enough : IsEnough o asked

-- the open database as both lists are about to be written
abbrev pub both_of : Opened → Asks → Opened
both_of o asked = listed_by o (lists_after asked o.table.plan.lists) (o.seats ++ seats_added o asked)

-- The memory that a change takes: the seats of both lists, where places are added; and room for the texts that come, where some are dropped.
abbrev pub IsPrepared : Opened → Lists → Asks → Hand → Type 0
IsPrepared o lists (Adds lines count blocks) hand = (hand.seats ≡ Some (o.seats ++ seats_added o (Adds lines count blocks))) × (hand.room ≡ None)
IsPrepared o lists (Drops slices) hand = (hand.seats ≡ None) × MatchOption hand.room ⊥ (λ room. vec_len room ≡ list_room lists)
IsPrepared o lists KeepsFirst hand = (hand.seats ≡ None) × (hand.room ≡ None)

-- where they lie by the table of drives
abbrev drive_at : Option SliceAt → Option DriveNo
drive_at None = None
drive_at (Some at) = Some at.drive

abbrev pub drives_under : Geometry → List Place → List DriveNo
drives_under g places = filter_map (λ (p : Place). drive_at (slice_at g.slices p.slice)) places

-- the drives of the dropped places
abbrev pub drives_dropped : Geometry → Opened → Asks → List DriveNo
drives_dropped g o asked = drives_under g (dropped asked (last_of o.table.plan.lists))

-- the drives on which a call may be made: those of the active places and of the added ones, and those of the dropped ones
abbrev pub drives_moved : Geometry → Opened → Asks → List DriveNo
drives_moved g o asked = drives_of (o.seats ++ seats_added o asked) ++ drives_dropped g o asked

-- on none of these drives a call failed; on one of them one did
abbrev pub AreCalmOn : List DriveNo → (ℕ → Failures) → Type 0
AreCalmOn drives calls = (drive : DriveNo) → Contains drives drive → (calls drive.0).none

abbrev pub HasFailedOn : List DriveNo → (ℕ → Failures) → Type 0
HasFailedOn drives calls = (drive : DriveNo) × Contains drives drive × (calls drive.0).some

module _ {S : Type 0} (shelf : Ghosts S) (from to : S) (g : Geometry) (old new : Opened) (asked : Asks) where
  -- the places that are added were formatted, no call failed meanwhile
  abbrev WereFormed : S → Type 0
  WereFormed formed = HaveGone shelf from formed (drives_added asked) (acts_moved old asked)

  -- on no drive of a dropped place a call failed, from the first format to the last wipe
  abbrev pub AreCalm : Type 0
  AreCalm = AreCalmOn (drives_dropped g old asked) (DriveFailures shelf from to)

  -- on one of them one did
  abbrev pub HasFailed : Type 0
  HasFailed = HasFailedOn (drives_dropped g old asked) (DriveFailures shelf from to)

  -- The places that are added were formatted; the table was written with both lists, and with the new one alone, and enough of each took it; then each dropped place
  -- was tried, in their order, but those on drives on which a call had failed by then: `lost` when the wipes began, and `now` behind them. The
  -- answer is true where on the drives of dropped places no call failed, so that all their masters are blank, and false where on one of them one did.
  pub record WereMoved (clean : Bool) : Type 0 where
    pub formed : S
    pub both : S
    pub last : S
    pub between : Opened
    pub gone : WereFormed formed
    pub first : WasListed shelf formed both (both_of old asked) between (Ok tt)
    pub second : WasListed shelf both last (last_by between) new (Ok tt)
    pub lost : Drives
    pub now : Drives
    pub failed : AreLostBy (DriveFailures shelf from last) no_drives lost
    pub wiped : WereWiped shelf g last to (dropped asked (last_of old.table.plan.lists)) lost now clean
    pub told : MatchBool clean AreCalm HasFailed

  -- too few took it with both lists
  pub record WasLostBoth (share : Share) : Type 0 where
    pub formed : S
    pub gone : WereFormed formed
    pub first : WasListed shelf formed to (both_of old asked) new (Err share)

  -- or with the new one alone
  pub record WasLostLast (share : Share) : Type 0 where
    pub formed : S
    pub both : S
    pub between : Opened
    pub gone : WereFormed formed
    pub first : WasListed shelf formed both (both_of old asked) between (Ok tt)
    pub second : WasListed shelf both to (last_by between) new (Err share)

  -- nothing was done
  abbrev IsStill : Type 0
  IsStill = (to ≡ from) × (new ≡ old)

  -- the store was lost before, or is now: in one record or the other
  abbrev pub WasLost : Share → Type 0
  WasLost share = (IsStill × (shortage old ≡ Some share)) ⊎ (WasLostBoth share ⊎ WasLostLast share)

  abbrev pub CameOfMove : Result Bool PlacesFault → Type 0
  CameOfMove (Ok clean) = WereMoved clean
  CameOfMove (Err unmoved.Failed) = HaveStopped shelf from to (drives_added asked) (acts_moved old asked) × (new ≡ old) × MayList old (lists_after asked old.table.plan.lists)
  CameOfMove (Err (unmoved.TooLong fault)) = IsStill × MayNotList old (lists_after asked old.table.plan.lists) (unwritten.TooLong fault)
  CameOfMove (Err (unmoved.Lost active listed)) = WasLost (record { active = active; listed = listed })
  CameOfMove (Err unmoved.Spent) = IsStill × MayNotList old (lists_after asked old.table.plan.lists) unwritten.Spent
  CameOfMove (Err unmoved.Memory) = IsStill × MayList old (lists_after asked old.table.plan.lists) × (asked ≢ KeepsFirst)
