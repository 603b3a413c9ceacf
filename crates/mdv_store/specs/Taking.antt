-- What a boot makes of what it read: step by step, and of which premises.
use Rattle.std.specs.Prelude.{◌≡◌, ◌⊎◌, ◌<◌, ◌≤◌, ◌+◌, ◌^◌, max, ℕ, Bool, true, false, List, [], length, map, Contains, None, Some, slice_get, vec_len}
use Rattle.std.specs.Bool.{MatchBool}
use Rattle.mdv_shelf.specs.Between.{RoseByAtLeast}
use Rattle.mdv_shelf.specs.Shelves.{AtEachTale, AtEnd, DriveFailures, MadeCalls}
use Rattle.mdv_shown.specs.Choice.{Seen, greatest_seen}
use Rattle.mdv_standing.specs.Adopting.{drawn}
use Rattle.mdv_standing.specs.Turning.{IsBootRead}
use Rattle.mdv_survey.specs.Survey.{IsSurveyOf}
use Rattle.mdv_survey.specs.declared.replica.Newest.{Newest}
use Rattle.mdv_store.specs.Below.{Database, DriveNo, Failures, Geometry, Ghosts, IsOfGeometry, IsReadyWith, IsSound, IsSynced, Key, Lists, Mark, One, Replica, RestStands, Site, Slot, Table, Tale, Two, greatest, has_drive, last, last_of, places_of, record_bytes, settled, site_of}
use Rattle.mdv_store.specs.Blank.{StayBlank}
use Rattle.mdv_store.specs.Boot.{IfAdopted, IsEndBy, IsOnce, IsShortAt, TakesAll, TakesBoth, greatest_number, is_memory, need_of, seats_of}
use Rattle.mdv_store.specs.BootCounts.{IsAnewCounted, blocks_at, blocks_by, calls_at, calls_by, most_blocks, most_calls}
use Rattle.mdv_store.specs.Booting.{BootGoes, BootMomentOn, IsBootedOn, has_written}
use Rattle.mdv_store.specs.Claims.{ClaimingEnds}
use Rattle.mdv_store.specs.Commit.{AnyLog, AnyWorld, IsLiveWith}
use Rattle.mdv_store.specs.Counts.{ArePassCounted, MadeCallsBetween}
use Rattle.mdv_store.specs.Opened.{AreSeatsOf, IsOpenedAt, Opened, least_room}
use Rattle.mdv_store.specs.Passing.{IsPassing, Passed, WentBy, claiming}
use Rattle.mdv_store.specs.Progress.{Claimed, Progress, Rewritten, Settled, all_written}
use Rattle.mdv_look.specs.Quiet.{IsQuiet}
use Rattle.mdv_store.specs.Records.{Spells}
use Rattle.mdv_store.specs.Seats.{AreHeld, AreLaid, AreLeft, AreNamed, HaveRoom, TakesClaim, TakesSlot, drive_of, replicas_of, seats_area, spots_of}
use Rattle.mdv_store.specs.Settled.{again_of, first_room, gone_of, seats_now, settles}
use Rattle.mdv_store.specs.Shares.{short_of}
use Rattle.mdv_store.specs.Text.{blocks_for}
use Rattle.mdv_store.specs.Writing.{AreWrittenBy, IsBeingWritten, IsWrittenOver, WritingEnds}
use Rattle.mdv_store.specs.declared.booting.BootEnd.{BootEnd}
use Rattle.mdv_store.specs.declared.booting.BootEnd.TheVariants as end
use Rattle.mdv_store.specs.declared.booting.Hand.{Hand}
use Rattle.mdv_store.specs.declared.booting.Taken.{Taken}
use Rattle.mdv_look.specs.declared.looking.Looked.{Looked}
use Rattle.mdv_store.specs.declared.seats.Need.TheVariants.{More}
use Rattle.mdv_store.specs.declared.seats.Seat.{Seat}
use Rattle.mdv_store.specs.declared.seats.Share.{Share}

abbrev pub drives_read : List Replica → List DriveNo
drives_read replicas = map (λ (r : Replica). r.line.at.drive) replicas

-- no replica has a claim or boot number from that limit on
abbrev pub AreNumbered : List Replica → Type 0
AreNumbered replicas = (r : Replica) → Contains replicas r → greatest r.head < 2 ^ 63

-- how many blocks of room its writing takes, and that of the tables that come
abbrev pub room_of : Table → ℕ
room_of table = max (max (least_room (places_of table.plan.lists)) (first_room (last_of table.plan.lists))) (blocks_for (record_bytes table))

-- What an adoption of the newest table has in hand.
pub record IsHandOf (replicas : List Replica) (newest : Newest) (hand : Hand) : Type 0 where
  pub replica : Replica
  pub one_of : slice_get replicas newest.replica ≡ Some replica
  pub identity_is : hand.identity ≡ replica.head.master.identity
  pub number_is : hand.number ≡ greatest_number hand.identity replicas + 1
  pub seats_are : hand.seats ≡ seats_of replicas hand.identity (blocks_for (record_bytes newest.table)) (places_of newest.table.plan.lists)
  pub few : length hand.seats ≤ 100
  pub next_are : hand.next ≡ seats_of replicas hand.identity (blocks_for (record_bytes newest.table)) (again_of newest.table.plan.lists)
  pub next_few : length hand.next ≤ 50
  pub room_is : vec_len hand.room ≡ room_of newest.table

-- It is in order: the seats are the table's, more than half of each of its lists is active, its text fits there, and the number is above all that they have.
pub record IsReadied (hand : Hand) (table : Table) : Type 0 where
  pub seats : AreSeatsOf table hand.seats
  pub enough : short_of More hand.seats table.plan.lists ≡ None
  pub room : HaveRoom (blocks_for (record_bytes table)) hand.seats
  pub one : (s t : Seat) → Contains hand.seats s → Contains hand.seats t → s.place ≡ t.place → s.replica ≡ t.replica
  pub next : map (λ (s : Seat). s.place) hand.next ≡ again_of table.plan.lists
  pub next_few : length hand.next ≤ 50
  pub whole : vec_len hand.room ≡ room_of table
  pub short : (r : Replica) → Contains (replicas_of hand.seats) r → r.first.blocks ≤ 8192
  pub small : hand.number < 2 ^ 63
  pub above : (r : Replica) → Contains (replicas_of hand.seats) r → greatest r.head < hand.number

-- What was read of the drives is the newest table of the one database, and the hand's replicas are of it.
pub record IsToAdopt (g : Geometry) (key : Key) (hand : Hand) (table : Table) (t : Tale) : Type 0 where
  pub sound : IsSound g
  pub of_geometry : IsOfGeometry g table
  pub seen : List Seen
  pub s : Seen
  pub slot : Slot
  pub mark : Mark
  pub read : IsBootRead (Spells g) (site_of g key) hand.identity t seen s slot mark table
  pub number_is : hand.number ≡ greatest_seen seen + 1
  pub held : AreHeld g key hand.identity hand.seats t
  pub named : AreNamed (site_of g key) table hand.seats

-- the mark of the record with the new list alone
abbrev pub second_mark : ℕ → Mark
second_mark number = record { boot = number; count = 1 }

-- the places of the new list, or of the only one, as they are in hand
abbrev pub last_in : List Seat → Lists → List Seat
last_in seats (One list) = seats
last_in seats (Two old new) = seats_now seats new

-- behind both passes a table that has two lists is written with the new one alone, to the places of that list that took the table
abbrev pub IsBeingSettled : Hand → Table → Tale → Tale → Type 0
IsBeingSettled hand table t m =
    (settles table.plan.lists ≡ 1) × (claimed : List Replica) × (u : Tale) × (took : List Seat) × (v : Tale)
    × Passed (claiming hand.number) (replicas_of hand.seats) t claimed [] u
    × IsWrittenOver claimed (drawn hand.number) table u (replicas_of took) v
    × IsBeingWritten (replicas_of (seats_now took (again_of table.plan.lists))) (second_mark hand.number) (settled table) v m

-- The claims are written to the active replicas, one by one in their order; and behind the last of them the table to those that took theirs; and then it again with its new list alone, where it has two; and nothing else is done.
abbrev pub IsBeingRewritten : Hand → Table → Tale → Tale → Type 0
IsBeingRewritten hand table t m = IsPassing (claiming hand.number) (replicas_of hand.seats) t m
    ⊎ (((claimed : List Replica) × (u : Tale) × Passed (claiming hand.number) (replicas_of hand.seats) t claimed [] u × IsBeingWritten claimed (drawn hand.number) table u m)
    ⊎ IsBeingSettled hand table t m)

-- by each moment of the writes
pub record RewriteMoment (key : Key) (hand : Hand) (table : Table) (t m : Tale) : Type 0 where
  pub quiet : IsQuiet (seats_area hand.seats) t m
  pub only : IsBeingRewritten hand table t m
  pub goes : (g : Geometry) (to : IsToAdopt g key hand table t) → BootGoes g (site_of g key) hand.identity table.plan.lists to.seen to.mark (spots_of hand.seats) AnyWorld AnyLog t m
  pub rest : (g : Geometry) (all : List Database) → IsToAdopt g key hand table t → RestStands (Spells g) g all hand.identity t → RestStands (Spells g) g all hand.identity m
  pub blank : (g : Geometry) → IsToAdopt g key hand table t → StayBlank g hand.identity t m

-- at most two calls for a claim and six for the table at each of the hand's active places, and six again at each of the new list's, where there are two; one call at least
abbrev pub MadeRewriteCalls : {S : Type 0} → Ghosts S → S → S → Hand → Table → Type 0
MadeRewriteCalls shelf old new hand table = MadeCallsBetween shelf old new 1 (calls_at hand.seats table) (blocks_at hand.seats table)

-- The claim was written at each of these places in turn, and these are left.
pub record WereClaimed {S : Type 0} (shelf : Ghosts S) (old new : S) (number : ℕ) (before now : List Seat) : Type 0 where
  pub left : AreLeft (DriveFailures shelf old new) (TakesClaim number) before now
  pub steps : WentBy shelf (claiming number) old before (length before) new now
  pub counted : ArePassCounted shelf old new 2 1 before now
  pub end : AtEnd shelf (ClaimingEnds before now number) old new

-- And the table.
pub record WereSlotted {S : Type 0} (shelf : Ghosts S) (old new : S) (mark : Mark) (table : Table) (before now : List Seat) : Type 0 where
  pub left : AreLeft (DriveFailures shelf old new) (TakesSlot mark (record_bytes table)) before now
  pub steps : AreWrittenBy shelf mark table old new before now
  pub counted : ArePassCounted shelf old new 6 (2 + blocks_for (record_bytes table)) before now
  pub end : AtEnd shelf (WritingEnds before now mark table) old new

-- The claims were written, behind which enough of each list is left, and then the table at each place that claimed.
pub record WereRewritten {S : Type 0} (shelf : Ghosts S) (old new : S) (key : Key) (hand : Hand) (table : Table) (now : List Seat) : Type 0 where
  pub mid : S
  pub between : List Seat
  pub claimed : WereClaimed shelf old mid hand.number hand.seats between
  pub enough : short_of (need_of key) between table.plan.lists ≡ None
  pub slotted : WereSlotted shelf mid new (drawn hand.number) table between now

-- Behind the table, too, enough of each of its lists is left; and it was written again with the new one alone, at the places of that list that took it.
pub record WereSettled {S : Type 0} (shelf : Ghosts S) (old new : S) (key : Key) (hand : Hand) (table : Table) (last : List Seat) : Type 0 where
  pub mid : S
  pub now : List Seat
  pub rewritten : WereRewritten shelf old mid key hand table now
  pub enough : short_of (need_of key) now table.plan.lists ≡ None
  pub again : WereSlotted shelf mid new (second_mark hand.number) (settled table) (seats_now now (again_of table.plan.lists)) last

-- the writes came so far, and nothing more was written
abbrev pub CameSoFar : {S : Type 0} → Ghosts S → S → S → Key → Hand → Table → Progress → Type 0
CameSoFar shelf old new key hand table (Claimed now) = WereClaimed shelf old new hand.number hand.seats now
CameSoFar shelf old new key hand table (Rewritten now) = WereRewritten shelf old new key hand table now
CameSoFar shelf old new key hand table (Settled last gone) = WereSettled shelf old new key hand table last

-- the database with that mark and table at these places
abbrev pub open_with : Key → Hand → Mark → Table → List Seat → Opened
open_with key hand mark table seats = record { key = key; identity = hand.identity; mark = mark; table = table; seats = seats }

-- The places that are left hold what was written, whatever a crash leaves: the claim; or the table under the number's first mark; or that with the new list alone under its second one, and those that this list lacks still the first one.
abbrev pub LeftHold : Geometry → Key → Hand → Table → Progress → Tale → Type 0
LeftHold g key hand table (Claimed now) u = AreHeld g key hand.identity now u
LeftHold g key hand table (Rewritten now) u = IsOpenedAt g (open_with key hand (drawn hand.number) table now) u
LeftHold g key hand table (Settled last gone) u =
    IsOpenedAt g (open_with key hand (second_mark hand.number) (settled table) last) u × IsOpenedAt g (open_with key hand (drawn hand.number) table gone) u

-- of what is to be adopted
abbrev pub LeftHoldOf : Key → Hand → Table → Progress → Tale → Tale → Type 0
LeftHoldOf key hand table progress t u = (g : Geometry) → IsToAdopt g key hand table t → LeftHold g key hand table progress u

-- and of all of them between these, of which some block was written; where no call failed just so many were made
pub record Rewrites {S : Type 0} (shelf : Ghosts S) (old new : S) (key : Key) (hand : Hand) (table : Table) (calm : Bool) (progress : Progress) : Type 0 where
  pub moments : AtEachTale shelf (RewriteMoment key hand table) old new
  pub wrote : RoseByAtLeast 1 (shelf.written old) (shelf.written new)
  pub made : MadeRewriteCalls shelf old new hand table
  pub exact : calm ≡ true → MadeCalls shelf old new (calls_by hand.seats progress) (blocks_by hand.seats table progress)
  pub written : CameSoFar shelf old new key hand table progress

-- and in the end, where enough places took the table
pub record RewriteEnds (key : Key) (hand : Hand) (table : Table) (o : Opened) (t u : Tale) : Type 0 where
  pub opened : (g : Geometry) → IsToAdopt g key hand table t → IsOpenedAt g o u
  pub goes : (g : Geometry) (to : IsToAdopt g key hand table t) → BootGoes g (site_of g key) hand.identity table.plan.lists to.seen to.mark (spots_of hand.seats) (IsReadyWith (spots_of o.seats)) (λ log. IsLiveWith log o.mark o.table) t u

-- the opened database, behind both passes, and where the table had two lists with its new one alone
pub record IsRewritten (failed : ℕ → Failures) (key : Key) (hand : Hand) (table : Table) (gone : List Seat) (o : Opened) : Type 0 where
  pub over : AreLeft failed (TakesBoth hand.number (record_bytes table)) (seats_now hand.seats (gone_of table.plan.lists)) gone
  pub left : AreLeft failed (TakesAll hand.number table) (last_in hand.seats table.plan.lists) o.seats
  pub enough : short_of (need_of key) o.seats (One (last_of table.plan.lists)) ≡ None
  pub is : o ≡ record { key = key; identity = hand.identity; mark = record { boot = hand.number; count = settles table.plan.lists }; table = settled table; seats = o.seats }

-- not enough of a list is left behind what was written last
abbrev pub IsLostWith : (ℕ → Failures) → Key → Hand → Table → Progress → Share → Type 0
IsLostWith failed key hand table progress share =
    IsShortAt failed key hand.number table hand.seats (last_in hand.seats table.plan.lists) (seats_now hand.seats (gone_of table.plan.lists)) progress share

abbrev pub IsRewriteEnd : (ℕ → Failures) → Key → Hand → Table → Progress → BootEnd → Type 0
IsRewriteEnd failed key hand table progress (end.Adopted o) = (gone : List Seat) × (progress ≡ all_written table.plan.lists o.seats gone) × IsRewritten failed key hand table gone o
IsRewriteEnd failed key hand table progress end.Empty = ⊥
IsRewriteEnd failed key hand table progress (end.TwoDatabases a b) = ⊥
IsRewriteEnd failed key hand table progress (end.NoQuorum readable needed) = ⊥
IsRewriteEnd failed key hand table progress (end.Lost active listed) = IsLostWith failed key hand table progress (record { active = active; listed = listed })
IsRewriteEnd failed key hand table progress end.Spent = ⊥
IsRewriteEnd failed key hand table progress end.Memory = ⊥

-- no call failed, or one did on a drive of these replicas
abbrev pub IsCalmOver : {S : Type 0} → Ghosts S → S → S → List Replica → Bool → Type 0
IsCalmOver shelf old new replicas calm = MatchBool calm
    ((drive : DriveNo) → (DriveFailures shelf old new drive.0).none)
    ((r : Replica) × Contains replicas r × (DriveFailures shelf old new (drive_of r)).some)

pub record IsRewriteAnswer {S : Type 0} (shelf : Ghosts S) (old new : S) (key : Key) (hand : Hand) (table : Table) (taken : Taken) : Type 0 where
  pub progress : Progress
  pub ended : IsRewriteEnd (DriveFailures shelf old new) key hand table progress taken.end
  pub calm : IsCalmOver shelf old new (replicas_of hand.seats) taken.calm
  pub once : (drive : DriveNo) → IsOnce (DriveFailures shelf old new drive.0)
  pub wrote : RoseByAtLeast 1 (shelf.written old) (shelf.written new)
  pub made : MadeRewriteCalls shelf old new hand table
  pub exact : taken.calm ≡ true → MadeCalls shelf old new (calls_by hand.seats progress) (blocks_by hand.seats table progress)
  pub written : CameSoFar shelf old new key hand table progress
  pub shows : AtEnd shelf (LeftHoldOf key hand table progress) old new

-- what an adoption costs
pub record IsTakingCounted {S : Type 0} (shelf : Ghosts S) (old new : S) (taken : Taken) : Type 0 where
  pub most : MadeCallsBetween shelf old new 0 most_calls most_blocks
  pub calm : taken.calm ≡ true → IfAdopted taken.end (IsAnewCounted (MadeCalls shelf old new) 0)

-- the drives that a boot left as they were stay synced, and those on which its writes succeeded
abbrev pub StaySynced : {S : Type 0} → Ghosts S → S → S → Tale → Tale → Type 0
StaySynced shelf old new t u = (drive : DriveNo) → IsSynced drive.0 t → ((DriveFailures shelf old new drive.0).some → ⊥) → IsSynced drive.0 u

-- What was read: the table of drives is sound, the site is one of it, and what was read of its replicas, on drives of which no read failed, no crash takes back.
pub record WasRead (g : Geometry) (site : Site) (looked : Looked) (t : Tale) : Type 0 where
  pub sound : IsSound g
  pub site_is : site ≡ site_of g site.key
  pub of : IsSurveyOf g site looked.calm (last t) looked.survey
  pub synced : (r : Replica) → Contains looked.survey.replicas r → IsSynced (drive_of r) t
  pub on : (r : Replica) → Contains looked.survey.replicas r → has_drive looked.calm r.line.at.drive ≡ true
  pub none : (drive : DriveNo) → has_drive looked.calm drive ≡ true → has_drive looked.survey.failed drive ≡ false

-- what was written of what was read, and what the places that are left hold then
pub record WroteBy {S : Type 0} (shelf : Ghosts S) (old new : S) (site : Site) (looked : Looked) (calm : Bool) (hand : Hand) (table : Table) (progress : Progress) : Type 0 where
  pub rewrites : Rewrites shelf old new site.key hand table calm progress
  pub shows : AtEnd shelf (λ t u. (g : Geometry) → WasRead g site looked t → LeftHold g site.key hand table progress u) old new

-- What a boot makes of what it read: an end that follows from it, or memory was wanting; and it wrote nothing, or what it adopted.
pub record IsTaken {S : Type 0} (shelf : Ghosts S) (old new : S) (site : Site) (looked : Looked) (taken : Taken) : Type 0 where
  pub ended : (is_memory taken.end ≡ true) ⊎ IsEndBy (DriveFailures shelf old new) (WroteBy shelf old new site looked taken.calm) site looked.survey taken.end
  pub calm : IsCalmOver shelf old new looked.survey.replicas taken.calm
  pub once : (drive : DriveNo) → IsOnce (DriveFailures shelf old new drive.0)
  pub still : has_written taken.end ≡ false → new ≡ old
  pub laid : IfAdopted taken.end (λ o. AreLaid (shelf.sizes old) o.seats)

abbrev pub TakingMoment : Site → Looked → BootEnd → Tale → Tale → Type 0
TakingMoment site looked answer t m = (g : Geometry) → WasRead g site looked t → BootMomentOn looked.calm g site answer t m

abbrev pub TakingEnds : Site → Looked → BootEnd → Tale → Tale → Type 0
TakingEnds site looked answer t u = (g : Geometry) → WasRead g site looked t → IfAdopted answer (λ o. IsBootedOn looked.calm g site o t u)
