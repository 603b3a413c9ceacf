-- The listed places of an open database: which are active, where their replicas lie, and what a pass over them leaves.
use Rattle.std.specs.Prelude.{◌≡◌, ◌≤◌, ℕ, false, List, [], ◌∷◌, length, map, AllPairs, Contains, None, MatchOption, IsTrue}
use Rattle.std.specs.List.{filter_map, list_any}
use Rattle.mdv_store.specs.Below.{Area, DriveNo, Everywhere, Failures, Geometry, Head, Identity, IsNewestOf, IsOwn, IsPlaced, IsSpareSlot, Key, Mark, Open, Replica, Second, First, Site, Slot, Spot, Table, Tale, at_of, is_named, lists_of_spots, range, same_spot, site_of, slot_blocks, spot_on, with_slot}
use Rattle.mdv_store.specs.Records.{Spells}
use Rattle.mdv_store.specs.declared.seats.Seat.{Seat}

-- the replicas at the active places, in the order of the list
abbrev pub replicas_of : List Seat → List Replica
replicas_of seats = filter_map (λ (s : Seat). s.replica) seats

abbrev pub active_of : List Seat → ℕ
active_of seats = length (replicas_of seats)

abbrev pub spot_of : Replica → Spot
spot_of r = spot_on r.line r.first.blocks r.number

abbrev pub spots_of : List Seat → List Spot
spots_of seats = map spot_of (replicas_of seats)

abbrev pub drive_of : Replica → ℕ
drive_of r = r.line.at.drive.0

abbrev pub drives_of : List Seat → List DriveNo
drives_of seats = map (λ (r : Replica). r.line.at.drive) (replicas_of seats)

-- the blocks of the replicas
abbrev pub replica_area : Replica → Area
replica_area r = range (drive_of r) (at_of r).first r.first.blocks

abbrev pub seats_area : List Seat → Area
seats_area seats drive block = list_any (λ (r : Replica). replica_area r drive block) (replicas_of seats)

-- each lies within its drive, and is no longer than a replica may be
pub record IsLaid (sizes : List ℕ) (r : Replica) : Type 0 where
  pub placed : IsPlaced sizes (at_of r)
  pub short : r.first.blocks ≤ 8192

abbrev pub AreLaid : List ℕ → List Seat → Type 0
AreLaid sizes seats = (r : Replica) → Contains (replicas_of seats) r → IsLaid sizes r

-- a body of so many blocks fits each of their slots
abbrev pub HaveRoom : ℕ → List Seat → Type 0
HaveRoom blocks seats = (r : Replica) → Contains (replicas_of seats) r → blocks ≤ slot_blocks r.first.blocks

-- A seat behind a pass: its replica took what was written, and no call on its drive failed; or one did, and it isn't active any more. Where it
-- wasn't active it isn't.
abbrev pub IsLeft : (ℕ → Failures) → (Replica → Replica → Type 0) → Seat → Seat → Type 0
IsLeft failed Took old new =
    (new.place ≡ old.place)
    × MatchOption old.replica (new.replica ≡ None) (λ (r : Replica). MatchOption new.replica (failed (drive_of r)).some (λ (n : Replica). (failed (drive_of r)).none × Took r n))

abbrev pub AreLeft : (ℕ → Failures) → (Replica → Replica → Type 0) → List Seat → List Seat → Type 0
AreLeft failed Took [] [] = Unit {0}
AreLeft failed Took [] (n ∷ ns) = ⊥
AreLeft failed Took (s ∷ ss) [] = ⊥
AreLeft failed Took (s ∷ ss) (n ∷ ns) = IsLeft failed Took s n × AreLeft failed Took ss ns

-- with this claim
abbrev pub TakesClaim : ℕ → Replica → Replica → Type 0
TakesClaim number r n = n ≡ record r { head = record r.head { claim = number } }

-- the slot that doesn't hold the newest table: the first one, where both hold it
pub record IsSpareOf (head : Head) (slot : Slot) : Type 0 where
  pub spare : IsSpareSlot head slot
  pub tie : slot ≡ Second → IsSpareSlot head First → ⊥

-- with that slot open, under this mark, for a text of so many bytes
abbrev pub TakesSlot : Mark → ℕ → Replica → Replica → Type 0
TakesSlot mark bytes r n = (slot : Slot) × IsSpareOf r.head slot × (n ≡ record r { head = with_slot r.head slot (Open mark bytes) })

-- Whatever a crash leaves, each of these replicas is found, of the database with this identity; and no two are one.
pub record AreHeld (g : Geometry) (key : Key) (identity : Identity) (seats : List Seat) (t : Tale) : Type 0 where
  pub each : (r : Replica) → Contains (replicas_of seats) r → Everywhere (λ image. IsOwn (Spells g) (site_of g key) identity r.line r.number image r.first r.head) t
  pub once : AllPairs (λ (p q : Spot). same_spot p q ≡ false) (spots_of seats)

-- Whatever a crash leaves, each is found, of that database, whatever its slots hold: the one that is written may be as it was, or closed, or hold the table.
abbrev pub AreTheirs : Geometry → Key → Identity → List Seat → Tale → Type 0
AreTheirs g key identity seats t =
    (r : Replica) → Contains (replicas_of seats) r → Everywhere (λ image. (head : Head) × IsOwn (Spells g) (site_of g key) identity r.line r.number image r.first head) t

-- the table's lists name the place of each
abbrev pub AreNamed : Site → Table → List Seat → Type 0
AreNamed site table seats = (r : Replica) → Contains (replicas_of seats) r → IsTrue (is_named (lists_of_spots site table.plan.lists) (spot_of r))

-- the newest table of the replica is this one, under this mark, whatever a crash leaves
pub record IsShown (g : Geometry) (mark : Mark) (table : Table) (r : Replica) (t : Tale) : Type 0 where
  pub slot : Slot
  pub each : Everywhere (λ image. IsNewestOf (Spells g) (at_of r) (image (drive_of r)) r.head slot mark table) t

abbrev pub AreShown : Geometry → List Seat → Mark → Table → Tale → Type 0
AreShown g seats mark table t = (r : Replica) → Contains (replicas_of seats) r → IsShown g mark table r t
