-- What a change of places says of each moment, and of the end.
use Rattle.std.specs.Prelude.{◌≡◌, ◌⊎◌, ◌||◌, ◌+◌, ◌≤◌, ℕ, Bool, true, List, [], ◌∷◌, ◌++◌, filter, filter_map, Contains, Option, None, Some, Result, Ok, Err}
use Rattle.std.specs.List.{list_any}
use Rattle.mdv_acts.specs.Acts.{AreDoing, AreDone}
use Rattle.mdv_acts.specs.Wipes.{AreTrying, place_in}
use Rattle.mdv_look.specs.Quiet.{IsQuiet}
use Rattle.mdv_quorum.specs.declared.event.Event.TheVariants.{Formatted, Lists as NextLists, Wiped}
use Rattle.mdv_replica.specs.Forms.{block_of}
use Rattle.mdv_shelf.specs.Everywhere.{Everywhere}
use Rattle.mdv_shown.specs.Site.{size_on}
use Rattle.mdv_standing.specs.Holding.{IsOneOf}
use Rattle.mdv_standing.specs.Matching.{spots_of as lists_of_spots}
use Rattle.mdv_standing.specs.Rest.{RestMayBeTaken}
use Rattle.mdv_standing.specs.Standing.{CoversWith}
use Rattle.mdv_standing.specs.Tracing.{IsCommitRun}
use Rattle.mdv_store.specs.Blank.{StayBlank}
use Rattle.mdv_store.specs.Commit.{AnyLog, AnyWorld, IsCommittedTo, IsNewestWritten}
use Rattle.mdv_store_law.specs.Log.{IsLog, Lives}
use Rattle.mdv_store.specs.Records.{Spells}
use Rattle.mdv_store.specs.Seats.{AreTheirs}
use Rattle.mdv_store.specs.Writing.{IsBeingWritten, IsWrittenOver}
use Rattle.mdv_places.specs.Asked.{Adds, Asks, Drops, KeepsFirst, acts_moved, dropped, list_after, lists_after, seats_added}
use Rattle.mdv_places.specs.Below.{Area, Change, Core, Database, Event, Failures, Geometry, Identity, IsMade, IsOfGeometry, IsOpenedAt, IsReadyWith, Log, Opened, Place, PlaceAt, Replica, RestStands, SliceAt, SliceLine, Spot, Tale, asks_of, at_of, last_of, next_mark, range, replicas_of, same_place, seats_area, settled, site_of, slice_at, spots_of}
use Rattle.mdv_places.specs.Changing.{both_of}
use Rattle.mdv_places.specs.Going.{IsMoving, TracesBy}
use Rattle.mdv_places.specs.declared.changing.PlacesFault.{PlacesFault}
use Rattle.mdv_places.specs.declared.changing.PlacesFault.TheVariants as unmoved

-- where the dropped places lie by the table of drives, in the order in which they are wiped
abbrev pub found_at : Place → Option SliceAt → Option PlaceAt
found_at p None = None
found_at p (Some at) = Some (place_in at p)

abbrev pub places_dropped : Geometry → Opened → Asks → List PlaceAt
places_dropped g o asked = filter_map (λ (p : Place). found_at p (slice_at g.slices p.slice)) (dropped asked (last_of o.table.plan.lists))

-- the block of a place's master
abbrev pub master_area : PlaceAt → Area
master_area at = range at.drive.0 at.first 1

-- the blocks of the active places and of those that are added, and the master of each that is dropped
abbrev pub area_moved : Geometry → Opened → Asks → Area
area_moved g o asked drive block = seats_area (both_of o asked).seats drive block || list_any (λ (at : PlaceAt). master_area at drive block) (places_dropped g o asked)

-- Places are formatted; or they were, and the table with both lists is being written to the replicas there; or it was, and that with the new list alone is to those that are left of that
-- list; or it was, and dropped places are wiped.
abbrev IsBeingFormed : Opened → Asks → Tale → Tale → Type 0
IsBeingFormed o asked t m = AreDoing (acts_moved o asked) t m

abbrev IsBeingListed : Opened → Asks → Tale → Tale → Type 0
IsBeingListed o asked t m = (u : Tale) × AreDone (acts_moved o asked) t u × IsBeingWritten (replicas_of (both_of o asked).seats) (next_mark o.mark) (both_of o asked).table u m

-- the replicas whose places the list has
abbrev pub replicas_in : List Place → List Replica → List Replica
replicas_in list rs = filter (λ (r : Replica). list_any (same_place (at_of r).place) list) rs

-- the table with both lists was written to the replicas, and of those that took it these are of the new list
pub record WereListed (o : Opened) (asked : Asks) (t v : Tale) (left : List Replica) : Type 0 where
  pub formed : Tale
  pub done : AreDone (acts_moved o asked) t formed
  pub took : List Replica
  pub wrote : IsWrittenOver (replicas_of (both_of o asked).seats) (next_mark o.mark) (both_of o asked).table formed took v
  pub is : left ≡ replicas_in (list_after asked (last_of o.table.plan.lists)) took

abbrev IsBeingSettled : Opened → Asks → Tale → Tale → Type 0
IsBeingSettled o asked t m = (v : Tale) × (left : List Replica) × WereListed o asked t v left × IsBeingWritten left (next_mark (next_mark o.mark)) (settled (both_of o asked).table) v m

abbrev AreBeingWiped : Geometry → Opened → Asks → Tale → Tale → Type 0
AreBeingWiped g o asked t m =
    (v : Tale) × (left : List Replica) × WereListed o asked t v left × (w : Tale) × (last : List Replica) × IsWrittenOver left (next_mark (next_mark o.mark)) (settled (both_of o asked).table) v last w × AreTrying (places_dropped g o asked) w m

abbrev pub IsBeingMoved : Geometry → Opened → Asks → Tale → Tale → Type 0
IsBeingMoved g o asked t m = IsBeingFormed o asked t m ⊎ (IsBeingListed o asked t m ⊎ (IsBeingSettled o asked t m ⊎ AreBeingWiped g o asked t m))

-- the slices that get more places are some on which a boot of the key looks, and end within their drives
abbrev pub AreOfSite : Geometry → Opened → Asks → Type 0
AreOfSite g o (Adds lines count blocks) = (line : SliceLine) → Contains lines line → Contains (site_of g o.key).lines line × (line.at.start + line.at.blocks ≤ size_on (site_of g o.key) line)
AreOfSite g o (Drops slices) = Unit {0}
AreOfSite g o KeepsFirst = Unit {0}

-- where the first place alone is left it is the first of its slice: so no wipe on that slice hides it
abbrev pub IsFront : Asks → List Place → Type 0
IsFront (Adds lines count blocks) places = Unit {0}
IsFront (Drops slices) places = Unit {0}
IsFront KeepsFirst [] = Unit {0}
IsFront KeepsFirst (p ∷ places) = p.start ≡ 16

-- the log is one, of a database that is there, and its newest table is that of the open database, whose write was answered
pub record IsLogOf (g : Geometry) (o : Opened) (log : Log) : Type 0 where
  pub is_log : IsLog g log
  pub lives : log.fate ≡ Lives
  pub newest : IsNewestWritten log o.mark o.table

-- The database stands with such a log, and nothing is in work: so each listed place has its replica, one that isn't active too.
pub record StandsOpen (g : Geometry) (o : Opened) (t : Tale) : Type 0 where
  pub log : Log
  pub covers : CoversWith (Spells g) (site_of g o.key) o.identity (λ image w. IsReadyWith (spots_of o.seats) w) log t
  pub is : IsLogOf g o log

-- What a change of places starts from: the database is open, and stands, and the table with both lists is one of the table of drives.
pub record MayGo (g : Geometry) (old : Opened) (asked : Asks) (t : Tale) : Type 0 where
  pub opened : IsOpenedAt g old t
  pub stands : StandsOpen g old t
  pub of_geometry : IsOfGeometry g (both_of old asked).table
  pub sites : AreOfSite g old asked
  pub front : IsFront asked (last_of old.table.plan.lists)

-- the change that the log is told makes the table with both lists of the open one
abbrev pub IsChangeOf : Geometry → Opened → Asks → Change → Type 0
IsChangeOf g old asked change = IsMade g (Some change) old.table (both_of old asked).table

-- a place is blanked; or a table is in hand with both lists; or an added place is formatted
abbrev pub IsForming : Geometry → Opened → Asks → Event → Type 0
IsForming g old asked e =
    ((q : Spot) × (e ≡ Wiped q)) ⊎ ((e ≡ NextLists (lists_of_spots (site_of g old.key) (lists_after asked old.table.plan.lists))) ⊎ ((q : Spot) × Contains (spots_of (seats_added old asked)) q × (e ≡ Formatted q)))

abbrev pub IsWiping : Event → Type 0
IsWiping e = (q : Spot) × (e ≡ Wiped q)

-- The events of the votes: those of formats; then none, or those of a commit with both lists; then none, or those of one with the new list alone; and then wipes.
pub record AreOfMove (g : Geometry) (old : Opened) (asked : Asks) (es : List Event) : Type 0 where
  pub formed : List Event
  pub first : List Event
  pub last : List Event
  pub wiped : List Event
  pub forming : (e : Event) → Contains formed e → IsForming g old asked e
  pub both : (first ≡ []) ⊎ ((p : Spot) × Contains (spots_of (both_of old asked).seats) p × IsCommitRun (lists_of_spots (site_of g old.key) (lists_after asked old.table.plan.lists)) p (spots_of (both_of old asked).seats) first)
  pub one : (last ≡ []) ⊎ ((p : Spot) × Contains (spots_of (both_of old asked).seats) p × IsCommitRun (lists_of_spots (site_of g old.key) (settled (both_of old asked).table).plan.lists) p (spots_of (both_of old asked).seats) last)
  pub wiping : (e : Event) → Contains wiped e → IsWiping e
  pub is : es ≡ formed ++ (first ++ (last ++ wiped))

-- the log goes on by the change alone, or by nothing that is asked, with the added places noted; and its worlds by such events
abbrev pub MoveGoes : Geometry → Opened → Asks → List (Option Change) → (Core → Type 0) → (Log → Type 0) → Tale → Tale → Type 0
MoveGoes g old asked changes Then After t m =
    TracesBy (IsMoving asked) (Spells g) g (site_of g old.key) old.identity (IsLogOf g old) changes (IsReadyWith (spots_of old.seats)) (AreOfMove g old asked) Then After t m

-- the rest may be taken on each slice that gets more places
abbrev MayTake : Geometry → List Database → Identity → Asks → Tale → Type 0
MayTake g all identity (Adds lines count blocks) t = (line : SliceLine) → Contains lines line → RestMayBeTaken (Spells g) g all identity line t
MayTake g all identity (Drops slices) t = Unit {0}
MayTake g all identity KeepsFirst t = Unit {0}

-- and on each slice from which places are dropped: behind them there may lie what isn't the database's
abbrev pub AreTakenFrom : Geometry → List Database → Opened → Asks → Tale → Type 0
AreTakenFrom g all old asked t =
    (p : Place) (line : SliceLine) → Contains (dropped asked (last_of old.table.plan.lists)) p → Contains (site_of g old.key).lines line → p.slice ≡ line.name → RestMayBeTaken (Spells g) g all old.identity line t

-- the rest stands, and may be taken on each slice that gets more places, or loses some
pub record RestMay (g : Geometry) (all : List Database) (old : Opened) (asked : Asks) (t : Tale) : Type 0 where
  pub one_of : IsOneOf all old.key old.identity
  pub rest : RestStands (Spells g) g all old.identity t
  pub taken : MayTake g all old.identity asked t
  pub dropped : AreTakenFrom g all old asked t

-- By each moment nothing was told, and nothing done but at the places, in that order; the log goes on by the change alone, and its worlds by events of it; all other
-- databases stand; and those that show no table show none.
pub record MoveMoment (g : Geometry) (old : Opened) (asked : Asks) (t m : Tale) : Type 0 where
  pub quiet : IsQuiet (area_moved g old asked) t m
  pub only : IsBeingMoved g old asked t m
  pub goes : (change : Change) → MayGo g old asked t → IsChangeOf g old asked change → MoveGoes g old asked (asks_of (Some change)) AnyWorld AnyLog t m
  pub rest : (all : List Database) → MayGo g old asked t → RestMay g all old asked t → RestStands (Spells g) g all old.identity m
  pub blank : MayGo g old asked t → StayBlank g old.identity t m

-- What is known at the end, by the answer. Where places were dropped and their wipes failed they may show the table with both lists still.
abbrev pub IsMoveEnd : Geometry → Opened → Opened → Asks → Result Bool PlacesFault → Tale → Tale → Type 0
IsMoveEnd g old new asked (Ok clean) t u =
    IsOpenedAt g new u × ((change : Change) → IsChangeOf g old asked change → MoveGoes g old asked (asks_of (Some change)) (IsReadyWith (spots_of new.seats)) (IsCommittedTo g new (Some change)) t u)
IsMoveEnd g old new asked (Err unmoved.Failed) t u = IsOpenedAt g old u × MoveGoes g old asked [] (IsReadyWith (spots_of old.seats)) (IsLogOf g old) t u
IsMoveEnd g old new asked (Err (unmoved.TooLong fault)) t u = u ≡ t
IsMoveEnd g old new asked (Err (unmoved.Lost active listed)) t u = Unit {0}
IsMoveEnd g old new asked (Err unmoved.Spent) t u = u ≡ t
IsMoveEnd g old new asked (Err unmoved.Memory) t u = u ≡ t

abbrev pub MoveEnds : Geometry → Opened → Opened → Asks → Result Bool PlacesFault → Tale → Tale → Type 0
MoveEnds g old new asked result t u = MayGo g old asked t → IsMoveEnd g old new asked result t u

-- What the places show of a change rests on this, whatever is known of the log: the database is open, and the table with both lists is one of the table of drives.
pub record MayShow (g : Geometry) (old : Opened) (asked : Asks) (t : Tale) : Type 0 where
  pub opened : IsOpenedAt g old t
  pub of_geometry : IsOfGeometry g (both_of old asked).table
  pub sites : AreOfSite g old asked
  pub front : IsFront asked (last_of old.table.plan.lists)

-- In the end the active places show the table that was written last, also where fewer than half of a list took it; and each place that was added has a replica of the database. Where nothing is written no image changes.
abbrev pub IsShownBy : Geometry → Opened → Opened → Asks → Result Bool PlacesFault → Tale → Tale → Type 0
IsShownBy g old new asked (Ok clean) t u = IsOpenedAt g new u × AreTheirs g old.key old.identity (seats_added old asked) u
IsShownBy g old new asked (Err unmoved.Failed) t u = IsOpenedAt g old u
IsShownBy g old new asked (Err (unmoved.TooLong fault)) t u = u ≡ t
IsShownBy g old new asked (Err (unmoved.Lost active listed)) t u =
    ((new ≡ old) × (u ≡ t)) ⊎ (IsOpenedAt g (record new { mark = next_mark new.mark }) u × AreTheirs g old.key old.identity (seats_added old asked) u)
IsShownBy g old new asked (Err unmoved.Spent) t u = u ≡ t
IsShownBy g old new asked (Err unmoved.Memory) t u = u ≡ t

abbrev pub MoveShows : Geometry → Opened → Opened → Asks → Result Bool PlacesFault → Tale → Tale → Type 0
MoveShows g old new asked result t u = MayShow g old asked t → IsShownBy g old new asked result t u

-- whatever a crash leaves, the place's master is blank
abbrev pub IsBlankAt : PlaceAt → Tale → Type 0
IsBlankAt a u = Everywhere (λ image. image a.drive.0 a.first ≡ block_of []) u

-- The masters of dropped places are blank: all where each was wiped, and else those on drives on which no call failed.
pub record AreBlanked (calls : ℕ → Failures) (g : Geometry) (old : Opened) (asked : Asks) (clean : Bool) (u : Tale) : Type 0 where
  pub all : clean ≡ true → (a : PlaceAt) → Contains (places_dropped g old asked) a → IsBlankAt a u
  pub each : (a : PlaceAt) → Contains (places_dropped g old asked) a → ((calls a.drive.0).some → ⊥) → IsBlankAt a u
