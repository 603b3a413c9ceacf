-- What a boot writes: by each moment, and in the end.
use Rattle.std.specs.Prelude.{◌≡◌, ◌⊎◌, ◌≤◌, ℕ, Bool, true, false, List, [], ◌++◌, ◌+◌, ◌<◌, ◌^◌, Contains, IsTrue}
use Rattle.mdv_standing.specs.Laws.{ShowsNoTable}
use Rattle.mdv_standing.specs.Others.{Anything}
use Rattle.mdv_replica.specs.Form.{shows}
use Rattle.mdv_shelf.specs.Tale.{MayLeave}
use Rattle.mdv_survey.specs.Choice.{is_of}
use Rattle.mdv_survey.specs.Replica.{IsFoundIn}
use Rattle.mdv_shown.specs.Choice.{IsChosen, Seen, greatest_seen, spots_seen}
use Rattle.mdv_shown.specs.Shown.{SlotShows}
use Rattle.mdv_shown.specs.Site.{place_on}
use Rattle.mdv_standing.specs.Adopting.{AreOwn}
use Rattle.mdv_standing.specs.Matching.{HasStaleVote}
use Rattle.mdv_standing.specs.Below.{covers, is_majority}
use Rattle.mdv_votes.specs.Laws.{IsWithin}
use Rattle.mdv_store.specs.Below.{Area, Core, Database, DriveNo, Drives, Event, Everywhere, Geometry, Identity, Image, IsBootRun, IsCommitRun, IsReadyWith, IsSound, IsSynced, Lists, Log, Mark, One, Replica, RestStands, Site, Slot, Spot, Table, Tale, TracesFrom, Two, last, lists_of_spots, has_drive, nowhere, site_area}
use Rattle.mdv_store.specs.Blank.{StayBlank}
use Rattle.mdv_store.specs.Boot.{IfAdopted, is_memory}
use Rattle.mdv_store.specs.Commit.{AnyLog, AnyWorld, IsLiveWith}
use Rattle.mdv_store.specs.Opened.{IsOpenedAt, Opened}
use Rattle.mdv_look.specs.Quiet.{IsQuiet}
use Rattle.mdv_store.specs.Records.{Spells}
use Rattle.mdv_store.specs.Seats.{replicas_of, seats_area, spots_of}
use Rattle.mdv_store.specs.Settled.{settles}
use Rattle.mdv_votes.specs.Spots.{is_in}
use Rattle.mdv_store.specs.declared.booting.BootEnd.{BootEnd}
use Rattle.mdv_store.specs.declared.booting.BootEnd.TheVariants as end
use Rattle.mdv_store.specs.declared.booting.Booted.{Booted}
use Rattle.mdv_store.specs.declared.seats.Seat.{Seat}

-- only one that adopts, or is lost meanwhile, writes
abbrev pub has_written : BootEnd → Bool
has_written (end.Adopted o) = true
has_written end.Empty = false
has_written (end.TwoDatabases a b) = false
has_written (end.NoQuorum readable needed) = false
has_written (end.Lost active listed) = true
has_written end.Spent = false
has_written end.Memory = false

-- the blocks that it may write
abbrev pub boot_area : Site → Bool → Area
boot_area site true = site_area site
boot_area site false = nowhere

-- a boot's events, and behind them, where the table has two lists, those of a commit with the new one alone, to some of the places
abbrev pub AreSettling : Site → Lists → (read seated : List Spot) → List Event → Type 0
AreSettling site (One list) read seated es = ⊥
AreSettling site (Two old new) read seated es =
    (first : List Event) × (rest : List Event) × (p : Spot) × (q : Spot) × (places : List Spot)
    × IsBootRun read seated p seated first × (IsWithin (is_in places) (is_in seated) × IsCommitRun (lists_of_spots site (One new)) q places rest) × (es ≡ first ++ rest)

-- no event of the votes, or a boot's: it looks at these places, claims some of those that it seats, and writes the table to some, one of them first
abbrev pub AreOfBoot : Site → Lists → (read seated : List Spot) → List Event → Type 0
AreOfBoot site lists read seated es = (es ≡ []) ⊎ (((p : Spot) × IsBootRun read seated p seated es) ⊎ AreSettling site lists read seated es)

-- what a boot read has no stale vote for the version with the mark that it chose
abbrev pub HasNoStaleVote : Site → List Seen → Mark → Log → Type 0
HasNoStaleVote site seen mark log = HasStaleVote site log seen mark → ⊥

-- the log of the database, if the boot has no stale vote by it, goes on with nothing asked, and its worlds by a boot's events
abbrev pub BootGoes : Geometry → Site → Identity → Lists → List Seen → Mark → List Spot → (Core → Type 0) → (Log → Type 0) → Tale → Tale → Type 0
BootGoes g site identity lists seen mark seated Then After t m =
    TracesFrom (Spells g) g site identity (HasNoStaleVote site seen mark) [] Anything (AreOfBoot site lists (spots_seen seen) seated) Then After t m

-- a replica of the database was found that showed a table
pub record HasShown (g : Geometry) (site : Site) (identity : Identity) (t : Tale) : Type 0 where
  pub replica : Replica
  pub found : IsFoundIn g site (last t) replica
  pub its : is_of identity replica ≡ true
  pub shown : shows replica.head ≡ true

-- What a boot read of a database that it adopts, on these drives, as they held this: each of its replicas, and of no other database one that shows a table. Of all marks
-- that they have this one is the greatest, and its table has these lists, of each of which more than half was read; and the next number is in its limit.
pub record WasReadOn (up : Drives) (g : Geometry) (site : Site) (identity : Identity) (lists : Lists) (content : Image) (seen : List Seen) (mark : Mark) : Type 0 where
  pub sound : IsSound g
  pub own : AreOwn (Spells g) site identity content seen
  pub on : (s : Seen) → Contains seen s → has_drive up s.line.at.drive ≡ true
  pub all : (r : Replica) → IsFoundIn g site content r → has_drive up r.line.at.drive ≡ true → is_of identity r ≡ true → Contains seen (record { line = r.line; number = r.number; first = r.first; head = r.head })
  pub one : (r : Replica) → IsFoundIn g site content r → has_drive up r.line.at.drive ≡ true → shows r.head ≡ true → is_of identity r ≡ true
  pub s : Seen
  pub slot : Slot
  pub table : Table
  pub chosen : IsChosen seen s slot mark
  pub shown : SlotShows (Spells g) (place_on s.line s.first.blocks s.first.count s.number) (content s.line.at.drive.0) s.head slot mark table
  pub listed : table.plan.lists ≡ lists
  pub quorum : IsTrue (covers (is_majority (is_in (spots_seen seen))) (lists_of_spots site lists))
  pub small : greatest_seen seen + 1 < 2 ^ 63

-- What is written is written for one database that showed a table as the boot began, with such lists, whose log goes on so, and nowhere but at replicas of it that were
-- found then. All others stand, and those that showed no table show none.
pub record Writes (up : Drives) (g : Geometry) (site : Site) (identity : Identity) (lists : Lists) (t m : Tale) : Type 0 where
  pub seen : List Seen
  pub mark : Mark
  pub seats : List Seat
  pub found : (r : Replica) → Contains (replicas_of seats) r → IsFoundIn g site (last t) r × (is_of identity r ≡ true)
  pub shown : (seats ≡ []) ⊎ (HasShown g site identity t × WasReadOn up g site identity lists (last t) seen mark)
  pub within : IsQuiet (seats_area seats) t m
  pub goes : BootGoes g site identity lists seen mark (spots_of seats) AnyWorld AnyLog t m
  pub rest : (all : List Database) → RestStands (Spells g) g all identity t → RestStands (Spells g) g all identity m
  pub blank : StayBlank g identity t m

-- for that one which it adopts, where it adopts one, whose table had one list if its mark says so
abbrev pub WritesFor : Drives → Geometry → Site → BootEnd → Tale → Tale → Type 0
WritesFor up g site (end.Adopted o) t m = (lists : Lists) × (settles lists ≤ o.mark.count) × Writes up g site o.identity lists t m
WritesFor up g site end.Empty t m = Unit {0}
WritesFor up g site (end.TwoDatabases a b) t m = Unit {0}
WritesFor up g site (end.NoQuorum readable needed) t m = Unit {0}
WritesFor up g site (end.Lost active listed) t m = (identity : Identity) × (lists : Lists) × Writes up g site identity lists t m
WritesFor up g site end.Spent t m = Unit {0}
WritesFor up g site end.Memory t m = Unit {0}

-- By each moment of a boot that read these drives nothing was told; one that adopts nothing and isn't lost has written nothing, and what another one has written is for one database.
pub record BootMomentOn (up : Drives) (g : Geometry) (site : Site) (answer : BootEnd) (t m : Tale) : Type 0 where
  pub quiet : IsQuiet (boot_area site (has_written answer)) t m
  pub writes : WritesFor up g site answer t m

-- each drive of the site that isn't one of these failed
abbrev pub AreLeftOut : (ℕ → Type 0) → Site → Drives → Type 0
AreLeftOut failed site up = (drive : DriveNo) → Contains site.drives drive → has_drive up drive ≡ false → failed drive.0

-- so it is of some drives, each other one of which failed, if it writes
abbrev pub BootMoment : (ℕ → Type 0) → Geometry → Site → BootEnd → Tale → Tale → Type 0
BootMoment failed g site answer t m = (up : Drives) × (has_written answer ≡ true → AreLeftOut failed site up) × BootMomentOn up g site answer t m

-- what is open at the end, whose replica showed a table as the boot began: whatever a crash leaves has the table at each active place, and the log's newest table is this one, whose write was
-- answered; and it isn't about to be deleted, if it was
pub record IsBootedOn (up : Drives) (g : Geometry) (site : Site) (o : Opened) (t u : Tale) : Type 0 where
  pub shown : HasShown g site o.identity t
  pub opened : IsOpenedAt g o u
  pub lists : Lists
  pub marked : o.mark.count ≡ settles lists
  pub seen : List Seen
  pub mark : Mark
  pub read : WasReadOn up g site o.identity lists (last t) seen mark
  pub seated : List Spot
  pub goes : BootGoes g site o.identity lists seen mark seated (IsReadyWith (spots_of o.seats)) (λ log. IsLiveWith log o.mark o.table) t u

abbrev pub IsBootedTo : (ℕ → Type 0) → Geometry → Site → Opened → Tale → Tale → Type 0
IsBootedTo failed g site o t u = (up : Drives) × AreLeftOut failed site up × IsBootedOn up g site o t u

-- In the end what was adopted is there. Where nothing is found, and no call failed, no replica shows a table, whatever a crash leaves. If memory wasn't wanting,
-- no crash takes back what is read of a drive on which no call failed; nor, whatever came, of one that is up a block that the boot can't have written.
pub record BootEnds (failed : ℕ → Type 0) (g : Geometry) (site : Site) (answer : Booted) (t u : Tale) : Type 0 where
  pub adopted : IfAdopted answer.end (λ o. IsBootedTo failed g site o t u)
  pub empty : answer.end ≡ end.Empty → answer.clean ≡ true → Everywhere (λ image. (identity : Identity) → ShowsNoTable (Spells g) site identity image) u
  pub synced : is_memory answer.end ≡ false → (drive : DriveNo) → Contains site.drives drive → (failed drive.0 → ⊥) → IsSynced drive.0 u
  pub still : (drive : DriveNo) (block : ℕ) → has_drive answer.up drive ≡ true → boot_area site (has_written answer.end) drive.0 block ≡ false → (x : List ℕ) → MayLeave u drive.0 block x → x ≡ last u drive.0 block
