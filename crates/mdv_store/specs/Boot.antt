-- What a boot says: of its answer, of each moment, and of the end.
use Rattle.std.specs.Prelude.{◌≡◌, ◌⊎◌, ◌<◌, ◌≤◌, ◌+◌, ◌/◌, ◌^◌, ◌&&◌, if◌then◌else◌, nat_le, ℕ, Bool, true, false, max, List, [], ◌∷◌, map, None, Some}
use Rattle.std.specs.List.{find}
use Rattle.mdv_base.specs.declared.name.Key.TheVariants.{Local, Set}
pub use Rattle.mdv_look.specs.Peeking.{WasChosen}
use Rattle.mdv_survey.specs.Choice.{IsChoice, IsTheOne, is_of, place_of}
use Rattle.mdv_survey.specs.declared.choosing.Choice.TheVariants as chosen
use Rattle.mdv_survey.specs.declared.replica.Newest.{Newest}
use Rattle.mdv_survey.specs.declared.replica.Survey.{Survey}
use Rattle.mdv_config.specs.Lists.{same_place}
use Rattle.mdv_store.specs.Below.{Failures, Identity, Key, Lists, One, Open, Place, Replica, Site, Table, Two, greatest, last_of, places_of, record_bytes, settled, slot_blocks, with_slot}
use Rattle.mdv_store.specs.Opened.{Opened}
use Rattle.mdv_store.specs.Seats.{AreLeft, IsSpareOf, TakesClaim, TakesSlot}
use Rattle.mdv_store.specs.Progress.{Claimed, Progress, Rewritten, Settled, all_written}
use Rattle.mdv_store.specs.Settled.{gone_of, settles}
use Rattle.mdv_store.specs.Shares.{short_of}
use Rattle.mdv_store.specs.Text.{blocks_for}
use Rattle.mdv_store.specs.declared.booting.BootEnd.{BootEnd}
use Rattle.mdv_store.specs.declared.booting.BootEnd.TheVariants as end
use Rattle.mdv_store.specs.declared.booting.Hand.{Hand}
use Rattle.mdv_store.specs.declared.seats.Need.{Need}
use Rattle.mdv_store.specs.declared.seats.Need.TheVariants.{Half, More}
use Rattle.mdv_store.specs.declared.seats.Seat.{Seat}
use Rattle.mdv_store.specs.declared.seats.Share.{Share}

-- the greatest claim or boot number that the replicas of this identity have
abbrev pub greatest_number : Identity → List Replica → ℕ
greatest_number identity [] = 0
greatest_number identity (r ∷ rs) = if is_of identity r then max (greatest r.head) (greatest_number identity rs) else greatest_number identity rs

-- the replica of this identity lies just at the place, and its slots have room for so many blocks
abbrev pub is_seated : Identity → Place → ℕ → Replica → Bool
is_seated identity place text r = is_of identity r && (same_place (place_of r) place && nat_le text (slot_blocks r.first.blocks))

-- a listed place with its replica
abbrev pub seat_for : List Replica → Identity → ℕ → Place → Seat
seat_for replicas identity text p = record { place = p; replica = find (is_seated identity p text) replicas }

-- the listed places
abbrev pub seats_of : List Replica → Identity → ℕ → List Place → List Seat
seats_of replicas identity text places = map (seat_for replicas identity text) places

-- no call failed, or just one did
abbrev pub IsOnce : Failures → Type 0
IsOnce failed = failed.none ⊎ failed.some

-- How much of each list has to take what a boot writes: at least half, and of a set's, whose table has no mediators, more than half.
abbrev pub need_of : Key → Need
need_of (Local host) = Half
need_of (Set name) = More

-- What a boot has in hand of the newest table that it read: the replica that shows it, and the listed places.
pub record IsInHand (survey : Survey) (newest : Newest) (replica : Replica) (seats : List Seat) : Type 0 where
  pub newest_is : survey.newest ≡ Some newest
  pub the : IsTheOne survey.replicas newest replica
  pub seats_are : seats ≡ seats_of survey.replicas replica.head.master.identity (blocks_for (record_bytes newest.table)) (places_of newest.table.plan.lists)

-- a replica behind both passes: with the claim, and the table in its spare slot
abbrev pub TakesBoth : ℕ → ℕ → Replica → Replica → Type 0
TakesBoth number bytes r n =
    (slot : _) × IsSpareOf r.head slot × (n ≡ record r { head = with_slot (record r.head { claim = number }) slot (Open (record { boot = number; count = 0 }) bytes) })

-- and behind the record with the new list alone, where the table has two lists
abbrev pub TakesBy : Lists → ℕ → Table → Replica → Replica → Type 0
TakesBy (One list) number table r n = TakesBoth number (record_bytes table) r n
TakesBy (Two old new) number table r n =
    (m : Replica) × TakesBoth number (record_bytes table) r m × TakesSlot (record { boot = number; count = 1 }) (record_bytes (settled table)) m n

abbrev pub TakesAll : ℕ → Table → Replica → Replica → Type 0
TakesAll number table = TakesBy table.plan.lists number table

-- the places of the newest table's new list, or of its only one, with the replicas that were found
abbrev pub last_found : Survey → Newest → Replica → List Seat
last_found survey newest replica = seats_of survey.replicas replica.head.master.identity (blocks_for (record_bytes newest.table)) (last_of newest.table.plan.lists)

-- those places of the old list that the new one lacks, likewise
abbrev pub gone_found : Survey → Newest → Replica → List Seat
gone_found survey newest replica = seats_of survey.replicas replica.head.master.identity (blocks_for (record_bytes newest.table)) (gone_of newest.table.plan.lists)

-- The table is written anew, to more than half of each of its lists, under a number in its limit.
pub record IsDrawn (survey : Survey) (newest : Newest) (replica : Replica) (seats : List Seat) (number : ℕ) : Type 0 where
  pub hand : IsInHand survey newest replica seats
  pub enough : short_of More seats newest.table.plan.lists ≡ None
  pub number_is : number ≡ greatest_number replica.head.master.identity survey.replicas + 1
  pub small : number < 2 ^ 63

-- What was written of that table was written for its database, to these seats, under that number, and came so far.
pub record IsWrittenTo (Wrote : Hand → Table → Progress → Type 0) (newest : Newest) (replica : Replica) (seats : List Seat) (number : ℕ) (progress : Progress) : Type 0 where
  pub hand : Hand
  pub identity_is : hand.identity ≡ replica.head.master.identity
  pub number_is : hand.number ≡ number
  pub seats_are : hand.seats ≡ seats
  pub wrote : Wrote hand newest.table progress

-- Enough of each list took both. Where there are two the change of places is over then: the table with the new list alone was written to the places of that list, and enough of them took it, too. Of the others
-- those that took both are left so, where no call on their drive failed.
pub record IsAdopted (failed : ℕ → Failures) (Wrote : Hand → Table → Progress → Type 0) (site : Site) (survey : Survey) (o : Opened) : Type 0 where
  pub newest : Newest
  pub replica : Replica
  pub seats : List Seat
  pub number : ℕ
  pub drawn : IsDrawn survey newest replica seats number
  pub gone : List Seat
  pub over : AreLeft failed (TakesBoth number (record_bytes newest.table)) (gone_found survey newest replica) gone
  pub written : IsWrittenTo Wrote newest replica seats number (all_written newest.table.plan.lists o.seats gone)
  pub left : AreLeft failed (TakesAll number newest.table) (last_found survey newest replica) o.seats
  pub enough : short_of (need_of site.key) o.seats (One (last_of newest.table.plan.lists)) ≡ None
  pub is : o ≡ record { key = site.key; identity = replica.head.master.identity; mark = record { boot = number; count = settles newest.table.plan.lists }; table = settled newest.table; seats = o.seats }

-- Of these places these are left: those on whose drives no call failed, each of which took what was written; and of the first list of which they aren't enough they are so much.
pub record IsShortBy (failed : ℕ → Failures) (Took : Replica → Replica → Type 0) (key : Key) (lists : Lists) (seats now : List Seat) (share : Share) : Type 0 where
  pub left : AreLeft failed Took seats now
  pub few : short_of (need_of key) now lists ≡ Some share

-- Not enough of a list is left behind what was written last, and so much: of a list of the table behind the claims, or behind the table; of its new one behind the table with that list alone. `last` and `lacked` are
-- the places of the new list, or of the only one, and those that it lacks.
abbrev pub IsShortAt : (ℕ → Failures) → Key → ℕ → Table → (seats last lacked : List Seat) → Progress → Share → Type 0
IsShortAt failed key number table seats last lacked (Claimed now) share = IsShortBy failed (TakesClaim number) key table.plan.lists seats now share
IsShortAt failed key number table seats last lacked (Rewritten now) share = IsShortBy failed (TakesBoth number (record_bytes table)) key table.plan.lists seats now share
IsShortAt failed key number table seats last lacked (Settled now gone) share =
    (settles table.plan.lists ≡ 1) × IsShortBy failed (TakesAll number table) key (One (last_of table.plan.lists)) last now share
    × AreLeft failed (TakesBoth number (record_bytes table)) lacked gone

-- Not enough of a list took the claim, or the table; or of the new one the table with that list alone.
pub record IsLost (failed : ℕ → Failures) (Wrote : Hand → Table → Progress → Type 0) (key : Key) (survey : Survey) (active listed : ℕ) : Type 0 where
  pub newest : Newest
  pub replica : Replica
  pub seats : List Seat
  pub number : ℕ
  pub drawn : IsDrawn survey newest replica seats number
  pub progress : Progress
  pub written : IsWrittenTo Wrote newest replica seats number progress
  pub short : IsShortAt failed key number newest.table seats (last_found survey newest replica) (gone_found survey newest replica) progress (record { active = active; listed = listed })

-- not more than half of a list was found; or of each list enough was, but of one not more than half of those places have room for the text
abbrev pub IsShort : Survey → (readable needed : ℕ) → Type 0
IsShort survey readable needed =
    IsChoice survey (chosen.NoQuorum readable needed)
    ⊎ (WasChosen survey × (newest : Newest) × (replica : Replica) × (seats : List Seat) × IsInHand survey newest replica seats
    × (share : Share) × (short_of More seats newest.table.plan.lists ≡ Some share) × (readable ≡ share.active) × (needed ≡ share.listed / 2 + 1))

pub record WouldPass (survey : Survey) : Type 0 where
  pub newest : Newest
  pub replica : Replica
  pub seats : List Seat
  pub hand : IsInHand survey newest replica seats
  pub enough : short_of More seats newest.table.plan.lists ≡ None
  pub spent : 2 ^ 63 ≤ greatest_number replica.head.master.identity survey.replicas + 1

-- what a boot comes to by what it read, and wrote so; memory alone may be wanting whatever it was
abbrev pub IsEndBy : (ℕ → Failures) → (Hand → Table → Progress → Type 0) → Site → Survey → BootEnd → Type 0
IsEndBy failed Wrote site survey (end.Adopted o) = IsAdopted failed Wrote site survey o
IsEndBy failed Wrote site survey end.Empty = IsChoice survey chosen.Empty
IsEndBy failed Wrote site survey (end.TwoDatabases a b) = IsChoice survey (chosen.TwoDatabases a b)
IsEndBy failed Wrote site survey (end.NoQuorum readable needed) = IsShort survey readable needed
IsEndBy failed Wrote site survey (end.Lost active listed) = IsLost failed Wrote site.key survey active listed
IsEndBy failed Wrote site survey end.Spent = WouldPass survey
IsEndBy failed Wrote site survey end.Memory = Unit {0}

abbrev pub is_memory : BootEnd → Bool
is_memory (end.Adopted o) = false
is_memory end.Empty = false
is_memory (end.TwoDatabases a b) = false
is_memory (end.NoQuorum readable needed) = false
is_memory (end.Lost active listed) = false
is_memory end.Spent = false
is_memory end.Memory = true

abbrev pub IfAdopted : BootEnd → (Opened → Type 0) → Type 0
IfAdopted (end.Adopted o) P = P o
IfAdopted end.Empty P = Unit {0}
IfAdopted (end.TwoDatabases a b) P = Unit {0}
IfAdopted (end.NoQuorum readable needed) P = Unit {0}
IfAdopted (end.Lost active listed) P = Unit {0}
IfAdopted end.Spent P = Unit {0}
IfAdopted end.Memory P = Unit {0}
