-- What a commit says: of its answer, of each moment, and of the end.
use Rattle.std.specs.Prelude.{◌≡◌, ◌⊎◌, ◌<◌, ◌≤◌, ◌+◌, ◌^◌, ℕ, true, List, [], Contains, Option, None, Some, Result, Ok, Err}
use Rattle.mdv_encoding.specs.Room.{least_slot_bytes}
use Rattle.mdv_shelf.specs.Shelves.{AtEnd, DriveFailures}
use Rattle.mdv_store_law.specs.Log.{IsLog, IsNewestTellable, Lives}
use Rattle.mdv_store.specs.Below.{Change, Core, Database, Event, Failures, Geometry, Ghosts, IsCommitRun, IsMade, IsNewest, IsOfGeometry, IsReadyWith, Log, Mark, RestStands, Spot, Table, Tale, TooLong, TracesFrom, asks_of, lists_of_spots, places_of, record_bytes, site_of}
use Rattle.mdv_store.specs.Blank.{StayBlank}
use Rattle.mdv_store.specs.Opened.{IsOpenedAt, Opened, shortage}
use Rattle.mdv_look.specs.Quiet.{IsQuiet}
use Rattle.mdv_store.specs.Records.{Spells}
use Rattle.mdv_store.specs.Seats.{AreLaid, AreLeft, TakesSlot, replicas_of, seats_area, spots_of}
use Rattle.mdv_store.specs.Writing.{AreWrittenBy, IsBeingWritten, WritingEnds}
use Rattle.mdv_store.specs.declared.store.CommitFault.{CommitFault}
use Rattle.mdv_store.specs.declared.store.CommitFault.TheVariants as unwritten

abbrev pub next_mark : Mark → Mark
next_mark mark = record mark { count = mark.count + 1 }

-- how many bytes the smallest slot of the table's places has
abbrev pub room_in : Table → ℕ
room_in table = least_slot_bytes (places_of table.plan.lists)

-- The table was written: at least half of each list was active, its text fits each of their slots, and its mark is in its limit. What was written to
-- the active places left these.
pub record IsTried (failed : ℕ → Failures) (old new : Opened) (next : Table) : Type 0 where
  pub half : shortage old ≡ None
  pub fits : record_bytes next ≤ room_in old.table
  pub small : old.mark.count + 1 < 2 ^ 63
  pub left : AreLeft failed (TakesSlot (next_mark old.mark) (record_bytes next)) old.seats new.seats

-- and at least half of each list took it
pub record IsCommitted (failed : ℕ → Failures) (old new : Opened) (next : Table) : Type 0 where
  pub tried : IsTried failed old new next
  pub enough : shortage new ≡ None
  pub is : new ≡ record old { mark = next_mark old.mark; table = next; seats = new.seats }

-- of a list fewer than half did
pub record IsLostNow (failed : ℕ → Failures) (old new : Opened) (next : Table) : Type 0 where
  pub tried : IsTried failed old new next
  pub is : new ≡ record old { seats = new.seats }

-- the text is longer than a slot of some listed place
pub record IsOver (old new : Opened) (next : Table) (fault : TooLong) : Type 0 where
  pub half : shortage old ≡ None
  pub bytes : fault.bytes ≡ record_bytes next
  pub room : fault.room ≡ room_in old.table
  pub over : room_in old.table < record_bytes next
  pub is : new ≡ old

-- the count of the next mark would be no number
pub record IsSpent (old new : Opened) (next : Table) : Type 0 where
  pub half : shortage old ≡ None
  pub fits : record_bytes next ≤ room_in old.table
  pub spent : 2 ^ 63 ≤ old.mark.count + 1
  pub is : new ≡ old

abbrev pub CameOfCommit : (ℕ → Failures) → Opened → Opened → Table → Result (Unit {0}) CommitFault → Type 0
CameOfCommit failed old new next (Ok done) = IsCommitted failed old new next
CameOfCommit failed old new next (Err (unwritten.Lost active listed)) =
    (shortage new ≡ Some (record { active = active; listed = listed })) × (IsLostNow failed old new next ⊎ (new ≡ old))
CameOfCommit failed old new next (Err (unwritten.TooLong fault)) = IsOver old new next fault
CameOfCommit failed old new next (Err unwritten.Spent) = IsSpent old new next

-- the table was written: it is done, or not enough places of a list took it of those that were active
abbrev pub WasTried : Opened → Result (Unit {0}) CommitFault → Type 0
WasTried old (Ok done) = Unit {0}
WasTried old (Err (unwritten.Lost active listed)) = shortage old ≡ None
WasTried old (Err (unwritten.TooLong fault)) = ⊥
WasTried old (Err unwritten.Spent) = ⊥

-- What came of a commit; the replicas at the places that are active then lie where the next one may write; and where the table was written it was at each place in
-- turn: each of them took it, and each other place's drive was left; whatever a crash leaves, those show it, also where they are fewer than half.
pub record CommitAnswer {S : Type 0} (shelf : Ghosts S) (from to : S) (old new : Opened) (next : Table) (result : Result (Unit {0}) CommitFault) : Type 0 where
  pub came : CameOfCommit (DriveFailures shelf from to) old new next result
  pub laid : AreLaid (shelf.sizes to) new.seats
  pub steps : WasTried old result → AreWrittenBy shelf (next_mark old.mark) next from to old.seats new.seats
  pub passed : WasTried old result → AtEnd shelf (WritingEnds old.seats new.seats (next_mark old.mark) next) from to
  pub shown : WasTried old result → AtEnd shelf (λ t u. (g : Geometry) → IsOfGeometry g next → IsOpenedAt g old t → IsOpenedAt g (record new { mark = next_mark old.mark; table = next }) u) from to

-- what a commit starts from: an open database, and a table that a change makes of its newest one, or that one again
pub record MayCommit (g : Geometry) (old : Opened) (asked : Option Change) (next : Table) (t : Tale) : Type 0 where
  pub opened : IsOpenedAt g old t
  pub of_geometry : IsOfGeometry g next
  pub made : IsMade g asked old.table next

-- no event of the votes, or those of a commit: lists that stay, and the table written to some of the active places, one of them first
abbrev pub AreOfCommit : Geometry → Opened → List Event → Type 0
AreOfCommit g old es = (es ≡ []) ⊎ ((p : Spot) × Contains (spots_of old.seats) p × IsCommitRun (lists_of_spots (site_of g old.key) old.table.plan.lists) p (spots_of old.seats) es)

abbrev pub AnyWorld : Core → Type 0
AnyWorld w = Unit {0}

abbrev pub AnyLog : Log → Type 0
AnyLog log = Unit {0}

-- the log is one, and its newest table is that of the open database
pub record IsLogOf (g : Geometry) (o : Opened) (log : Log) : Type 0 where
  pub is_log : IsLog g log
  pub newest : IsNewest log o.mark o.table

-- the log goes on by the change alone, and its worlds by events of a commit
abbrev pub CommitGoes : Geometry → Opened → Option Change → (Core → Type 0) → (Log → Type 0) → Tale → Tale → Type 0
CommitGoes g old asked Then After t m =
    TracesFrom (Spells g) g (site_of g old.key) old.identity (IsLogOf g old) (asks_of asked) (IsReadyWith (spots_of old.seats)) (AreOfCommit g old) Then After t m

-- By each moment nothing was told, and nothing done but to write the table to the active replicas, one by one in their order; the log goes on by the
-- change alone, and its worlds by events of a commit; all other databases stand; and those that show no table show none.
pub record CommitMoment (old : Opened) (next : Table) (t m : Tale) : Type 0 where
  pub quiet : IsQuiet (seats_area old.seats) t m
  pub only : (m ≡ t) ⊎ IsBeingWritten (replicas_of old.seats) (next_mark old.mark) next t m
  pub goes : (g : Geometry) (asked : Option Change) → MayCommit g old asked next t → CommitGoes g old asked AnyWorld AnyLog t m
  pub rest : (g : Geometry) (all : List Database) → IsOfGeometry g next → IsOpenedAt g old t → RestStands (Spells g) g all old.identity t → RestStands (Spells g) g all old.identity m
  pub blank : (g : Geometry) → IsOfGeometry g next → IsOpenedAt g old t → StayBlank g old.identity t m

-- the log's newest table is this one, and its write was answered
pub record IsNewestWritten (log : Log) (mark : Mark) (table : Table) : Type 0 where
  pub newest : IsNewest log mark table
  pub written : newest.version.is_written ≡ true

-- and the database isn't about to be deleted
pub record IsLiveWith (log : Log) (mark : Mark) (table : Table) : Type 0 where
  pub newest : IsNewestWritten log mark table
  pub lives : log.fate ≡ Lives

-- its newest table is the next one, whose write was answered, and the `ok` of its change may be told
pub record IsCommittedTo (g : Geometry) (new : Opened) (asked : Option Change) (log : Log) : Type 0 where
  pub newest : IsNewestWritten log new.mark new.table
  pub tellable : (change : Change) → asked ≡ Some change → IsNewestTellable log asked

-- in the end the active places show the next table, which is the log's newest
pub record CommitDone (old new : Opened) (next : Table) (t u : Tale) : Type 0 where
  pub opened : (g : Geometry) → IsOfGeometry g next → IsOpenedAt g old t → IsOpenedAt g new u
  pub goes : (g : Geometry) (asked : Option Change) → MayCommit g old asked next t → CommitGoes g old asked (IsReadyWith (spots_of new.seats)) (IsCommittedTo g new asked) t u
