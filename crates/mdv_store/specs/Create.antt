-- What a creation says: of what it is asked, of its answer, of each moment, and of the end.
use Rattle.std.specs.Prelude.{◌≡◌, ◌⊎◌, ◌≤◌, ◌+◌, ◌*◌, ℕ, zero, suc, List, [], ◌∷◌, length, map, flat_map, Contains, Some, None, Result, Ok, Err, IfOk}
use Rattle.mdv_shelf.specs.Drives.{KeptAmong}
use Rattle.mdv_shelf.specs.Shelves.{AtEachTale, AtEnd, DriveFailures, MadeCalls}
use Rattle.mdv_standing.specs.Blanking.{MayClear}
use Rattle.mdv_standing.specs.Creating.{first_mark, issued_log}
use Rattle.mdv_standing.specs.Holding.{IsOneOf}
use Rattle.mdv_standing.specs.Tracing.{GoesTraced, IsCreationRun, IsStart}
use Rattle.mdv_store_law.specs.Log.{IsNewestTellable}
use Rattle.mdv_shown.specs.Site.{size_on}
use Rattle.mdv_replica.specs.Form.{formatted_head}
use Rattle.mdv_plan.specs.Table.{empty_table}
use Rattle.mdv_store.specs.Blank.{IsBlank, StayBlank}
use Rattle.mdv_acts.specs.Acts.{HaveGone, HaveStopped, MadeCallsBetween, acts_asked}
use Rattle.mdv_acts.specs.Asked.{blanked_asked, drives_asked}
use Rattle.mdv_store.specs.Below.{Core, Database, DriveNo, Event, Failures, Geometry, Ghosts, Identity, IsOfGeometry, IsReadyWith, IsSound, Key, Log, Replica, RestStands, SliceLine, Spot, Table, Tale, lists_of_spots, place_on, record_bytes, site_of}
use Rattle.mdv_store.specs.Commit.{AnyLog, AnyWorld, IsNewestWritten}
use Rattle.mdv_store.specs.Counts.{ArePassCounted}
use Rattle.mdv_store.specs.Opened.{IsOpenedAt, Opened, shortage}
use Rattle.mdv_look.specs.Quiet.{IsQuiet}
use Rattle.mdv_store.specs.Records.{Spells}
use Rattle.mdv_store.specs.Seats.{AreHeld, AreLaid, AreLeft, AreTheirs, TakesSlot, active_of, seats_area, spots_of}
use Rattle.mdv_store.specs.Shares.{short_of}
use Rattle.mdv_store.specs.Text.{blocks_for}
use Rattle.mdv_store.specs.Writing.{AreWrittenBy, WritingEnds, WritingMoment}
use Rattle.mdv_store.specs.declared.creating.CreateFault.{CreateFault}
use Rattle.mdv_store.specs.declared.creating.CreateFault.TheVariants as unmade
use Rattle.mdv_store.specs.declared.seats.Need.TheVariants.{Half}
use Rattle.mdv_store.specs.declared.seats.Seat.{Seat}

-- the replica of this number as it is formatted
abbrev pub replica_on : Key → Identity → SliceLine → ℕ → ℕ → ℕ → Replica
replica_on key identity line count blocks k = record {
  line = line;
  number = k;
  first = record { identity = identity; key = key; slice = line.name; start = 16; blocks = blocks; index = 0; count = count };
  head = formatted_head (place_on line blocks count k) key identity 1;
}

-- its place, with that replica
abbrev pub seat_on : Key → Identity → SliceLine → ℕ → ℕ → ℕ → Seat
seat_on key identity line count blocks k = record { place = (place_on line blocks count k).place; replica = Some (replica_on key identity line count blocks k) }

-- the places of a slice from this number on, so many of them, each with its replica
abbrev pub seats_on : Key → Identity → SliceLine → ℕ → ℕ → ℕ → ℕ → List Seat
seats_on key identity line count blocks k zero = []
seats_on key identity line count blocks k (suc n) =
    seat_on key identity line count blocks k ∷ seats_on key identity line count blocks (k + 1) n

-- those of all slices, in their order
abbrev pub seats_asked : Key → Identity → List SliceLine → ℕ → ℕ → List Seat
seats_asked key identity lines count blocks = flat_map (λ (line : SliceLine). seats_on key identity line count blocks 0 count) lines

-- the table of a new database that lists these places
abbrev pub table_of : List Seat → Table
table_of seats = empty_table (map (λ (s : Seat). s.place) seats)

module _ (failed : ℕ → Failures) (key : Key) (identity : Identity) (lines : List SliceLine) (count blocks : ℕ) where
  abbrev seats : List Seat
  seats = seats_asked key identity lines count blocks

  -- each place was formatted, and the table written to each: these are left
  abbrev pub IsTried : List Seat → Type 0
  IsTried now = AreLeft failed (TakesSlot first_mark (record_bytes (table_of seats))) seats now

  pub record IsMade (o : Opened) : Type 0 where
    pub tried : IsTried o.seats
    pub half : shortage o ≡ None
    pub is : o ≡ record { key = key; identity = identity; mark = first_mark; table = table_of seats; seats = o.seats }

  pub record IsLost (active listed : ℕ) : Type 0 where
    pub now : List Seat
    pub tried : IsTried now
    pub few : short_of Half now (table_of seats).plan.lists ≡ Some (record { active = active; listed = listed })

  -- a call failed on one drive, and none on any other
  pub record HasFailed : Type 0 where
    pub drive : DriveNo
    pub one_of : Contains (drives_asked lines) drive
    pub here : (failed drive.0).some
    pub elsewhere : (other : DriveNo) → (other ≡ drive → ⊥) → (failed other.0).none

  abbrev pub CreateAnswer : Result Opened CreateFault → Type 0
  CreateAnswer (Ok o) = IsMade o
  CreateAnswer (Err unmade.Failed) = HasFailed
  CreateAnswer (Err (unmade.Lost active listed)) = IsLost active listed
  CreateAnswer (Err unmade.Memory) = (drive : ℕ) → (failed drive).none

-- The slices are some on which a boot of the key looks, and end within their drives; and the first table is one of the table of drives. What lies there is no
-- matter.
pub record MayForm (g : Geometry) (key : Key) (lines : List SliceLine) (seats : List Seat) : Type 0 where
  pub sound : IsSound g
  pub sites : (line : SliceLine) → Contains lines line → Contains (site_of g key).lines line
  pub within : (line : SliceLine) → Contains lines line → line.at.start + line.at.blocks ≤ size_on (site_of g key) line
  pub of_geometry : IsOfGeometry g (table_of seats)

-- The new database may be formed there, and is one of all, without a table yet, and nothing of it is found; what lies on the slices of others shows no table.
pub record MayCreate (g : Geometry) (all : List Database) (key : Key) (identity : Identity) (lines : List SliceLine) (seats : List Seat) (t : Tale) : Type 0 where
  pub forms : MayForm g key lines seats
  pub one_of : IsOneOf all key identity
  pub clear : MayClear (Spells g) g all key identity lines t

-- whatever a crash leaves each place has a replica of the new database, where it may be formed
abbrev pub StayFormed : Key → Identity → List SliceLine → ℕ → ℕ → Tale → Type 0
StayFormed key identity lines count blocks m =
    (g : Geometry) → MayForm g key lines (seats_asked key identity lines count blocks) → AreTheirs g key identity (seats_asked key identity lines count blocks) m

-- Masters were blanked and each place was formatted, in their order, with no call that failed; whatever a crash leaves each place has its replica then; and behind
-- that the first table was written to each of these replicas in turn, and nothing else was done; at each moment of it each place has its replica still, also one whose write
-- failed. In the end those that are left show it.
pub record WereFormed {S : Type 0} (shelf : Ghosts S) (old new : S) (key : Key) (identity : Identity) (lines : List SliceLine) (count blocks : ℕ) : Type 0 where
  pub formed : S
  pub gone : HaveGone shelf old formed (drives_asked lines) (acts_asked key identity 1 lines count blocks)
  pub behind : KeptAmong shelf formed new (drives_asked lines)
  pub held : AtEnd shelf (λ t v. (g : Geometry) → MayForm g key lines (seats_asked key identity lines count blocks) → AreHeld g key identity (seats_asked key identity lines count blocks) v) old formed
  pub stay : (t : Tale) → shelf.tale old ≡ Some t → AtEachTale shelf (λ v. StayFormed key identity lines count blocks) formed new
  pub written : AtEachTale shelf (WritingMoment (seats_asked key identity lines count blocks) first_mark (table_of (seats_asked key identity lines count blocks))) formed new
  pub now : List Seat
  pub left : AreLeft (DriveFailures shelf formed new) (TakesSlot first_mark (record_bytes (table_of (seats_asked key identity lines count blocks)))) (seats_asked key identity lines count blocks) now
  pub tried : IsTried (DriveFailures shelf old new) key identity lines count blocks now
  pub steps : AreWrittenBy shelf first_mark (table_of (seats_asked key identity lines count blocks)) formed new (seats_asked key identity lines count blocks) now
  pub counted : ArePassCounted shelf formed new 6 (2 + blocks_for (record_bytes (table_of (seats_asked key identity lines count blocks)))) (seats_asked key identity lines count blocks) now
  pub ends : AtEnd shelf (WritingEnds (seats_asked key identity lines count blocks) now first_mark (table_of (seats_asked key identity lines count blocks))) formed new

-- Each place was formatted, where a table was written; and those that are left lie where it may be written. A creation that failed came no further than to its formats.
abbrev pub HasFormed : {S : Type 0} → Ghosts S → S → S → Key → Identity → List SliceLine → ℕ → ℕ → Result Opened CreateFault → Type 0
HasFormed shelf old new key identity lines count blocks (Ok o) = (f : WereFormed shelf old new key identity lines count blocks) × (f.now ≡ o.seats) × AreLaid (shelf.sizes new) o.seats
HasFormed shelf old new key identity lines count blocks (Err unmade.Failed) = HaveStopped shelf old new (drives_asked lines) (acts_asked key identity 1 lines count blocks)
HasFormed shelf old new key identity lines count blocks (Err (unmade.Lost active listed)) = (f : WereFormed shelf old new key identity lines count blocks) × (short_of Half f.now (table_of (seats_asked key identity lines count blocks)).plan.lists ≡ Some (record { active = active; listed = listed }))
HasFormed shelf old new key identity lines count blocks (Err unmade.Memory) = Unit {0}

pub record IsCreated {S : Type 0} (shelf : Ghosts S) (old new : S) (key : Key) (identity : Identity) (lines : List SliceLine) (count blocks : ℕ) (result : Result Opened CreateFault) : Type 0 where
  pub came : CreateAnswer (DriveFailures shelf old new) key identity lines count blocks result
  pub formed : HasFormed shelf old new key identity lines count blocks result

-- no event of the votes, or a creation's
abbrev pub AreOfCreation : Geometry → Key → List Seat → List Event → Type 0
AreOfCreation g key seats es = (es ≡ []) ⊎ ((p : Spot) × IsCreationRun (lists_of_spots (site_of g key) (table_of seats).plan.lists) (spots_of seats) p (spots_of seats) es)

-- the log of the issued creation goes on with nothing more asked, and its worlds by a creation's events
abbrev pub CreateGoes : Geometry → Key → Identity → List Seat → (Core → Type 0) → (Log → Type 0) → Tale → Tale → Type 0
CreateGoes g key identity seats Then After t m =
    GoesTraced (Spells g) g (site_of g key) identity [] (IsStart (site_of g key)) (AreOfCreation g key seats) Then After t m (issued_log identity)

-- By each moment nothing was told, and nothing done but at the places; the new database's log goes on, and its worlds by a creation's events; all
-- other databases stand; and those that show no table show none, whatever else lies on the drives.
pub record CreateMoment (key : Key) (identity : Identity) (lines : List SliceLine) (count blocks : ℕ) (t m : Tale) : Type 0 where
  pub quiet : IsQuiet (seats_area (seats_asked key identity lines count blocks)) t m
  pub goes : (g : Geometry) (all : List Database) → MayCreate g all key identity lines (seats_asked key identity lines count blocks) t → CreateGoes g key identity (seats_asked key identity lines count blocks) AnyWorld AnyLog t m
  pub rest : (g : Geometry) (all : List Database) → MayCreate g all key identity lines (seats_asked key identity lines count blocks) t → RestStands (Spells g) g all identity m
  pub blank : (g : Geometry) → MayForm g key lines (seats_asked key identity lines count blocks) → StayBlank g identity t m

-- the log's newest table is the first one, whose write was answered, and the `ok` of the creation may be told
pub record IsCreatedTo (o : Opened) (log : Log) : Type 0 where
  pub newest : IsNewestWritten log o.mark o.table
  pub tellable : IsNewestTellable log None

-- what is known at the end, by the answer: a creation that failed has written no table, and no replica of its database shows one
abbrev pub IsEnded : Geometry → Key → Identity → List Seat → Result Opened CreateFault → Tale → Tale → Type 0
IsEnded g key identity asked (Ok o) t u = IsOpenedAt g o u × CreateGoes g key identity asked (IsReadyWith (spots_of o.seats)) (IsCreatedTo o) t u
IsEnded g key identity asked (Err unmade.Failed) t u = CreateGoes g key identity asked AnyWorld (λ log. log.family ≡ []) t u × IsBlank g key identity u
IsEnded g key identity asked (Err (unmade.Lost active listed)) t u = Unit {0}
IsEnded g key identity asked (Err unmade.Memory) t u = u ≡ t

-- What is known at the end; and that, whatever else lies on the drives, a database that was made is open, and one whose creation failed shows no table if
-- it showed none before.
pub record CreateEnds (key : Key) (identity : Identity) (lines : List SliceLine) (count blocks : ℕ) (result : Result Opened CreateFault) (t u : Tale) : Type 0 where
  pub ended : (g : Geometry) (all : List Database) → MayCreate g all key identity lines (seats_asked key identity lines count blocks) t → IsEnded g key identity (seats_asked key identity lines count blocks) result t u
  pub opened : IfOk result (λ o. (g : Geometry) → MayForm g key lines (seats_asked key identity lines count blocks) → IsOpenedAt g o u)
  pub unmade : result ≡ Err unmade.Failed → (g : Geometry) → MayForm g key lines (seats_asked key identity lines count blocks) → IsBlank g key identity t → IsBlank g key identity u

-- Twelve calls for each place, six of them for its format, and two more for each that is blanked before. What failed in these took no more; without memory none is made.
abbrev pub IsCreationCounted : {S : Type 0} → Ghosts S → S → S → List SliceLine → ℕ → ℕ → Result Opened CreateFault → Type 0
IsCreationCounted shelf old new lines count blocks (Ok o) =
    (active_of o.seats ≡ length lines * count → MadeCalls shelf old new (2 * blanked_asked lines count + 12 * (length lines * count)) (blanked_asked lines count + (7 + blocks_for (record_bytes o.table)) * (length lines * count)))
    × MadeCallsBetween shelf old new (2 * blanked_asked lines count + 6 * (length lines * count)) (2 * blanked_asked lines count + 12 * (length lines * count)) (blanked_asked lines count + 4103 * (length lines * count))
IsCreationCounted shelf old new lines count blocks (Err unmade.Failed) = MadeCallsBetween shelf old new 1 (2 * blanked_asked lines count + 6 * (length lines * count)) (blanked_asked lines count + 5 * (length lines * count))
IsCreationCounted shelf old new lines count blocks (Err (unmade.Lost active listed)) =
    MadeCallsBetween shelf old new (2 * blanked_asked lines count + 6 * (length lines * count) + 1) (2 * blanked_asked lines count + 12 * (length lines * count)) (blanked_asked lines count + 4103 * (length lines * count))
IsCreationCounted shelf old new lines count blocks (Err unmade.Memory) = new ≡ old
