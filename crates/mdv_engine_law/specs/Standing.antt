-- How the drives stand with their history at each moment of a line.
use Rattle.std.specs.Prelude.{◌≡◌, ◌⊎◌, ◌+◌, ◌<◌, ℕ, Bool, ◌&&◌, not, true, List, [], ◌∷◌, ◌++◌, flat_map, length, slice_index_or, take, Option, None, Some, IfSome, Contains}
use Rattle.std.specs.Bool.{MatchBool}
use Rattle.mdv_engine_law.specs.Below.{Command, Database, Write, DriveNo, Drives, has_drive, IsOldOrNew, KeptOutside, nowhere, Wrote, Tale, told, MayLeave, last, Line, Changed, Map, IsOpenIn, IsOpenedAt, site_area, History, Deed, Created, Event, history_after, Adds, AreWoken, CanTell, Issue, OfChange, OfCreation, OfEnd, OfPlaces, OfPlan, AddPlaces, listed_by, Change, Deleted, DropPlaces, Opened, Place, PlaceAt, SliceLine, SliceName, joined, AreOnDisk, HasDriveBlock, IsKept, IsOff, blocks_of}
use Rattle.mdv_databases.specs.Booting.{MeetsStale}
use Rattle.mdv_databases.specs.Lasting.{AreFreed}
use Rattle.mdv_layout_law.specs.Laid.{plain_area}
use Rattle.mdv_places.specs.Asked.{seats_added}
use Rattle.mdv_places.specs.Asked as moves
use Rattle.mdv_places.specs.Moments.{IsBlankAt, places_dropped}
use Rattle.mdv_store_law.specs.Changes.{places_on}
use Rattle.mdv_store_law.specs.Changes as changes
use Rattle.mdv_engine_law.specs.Moves.{places_under}
use Rattle.mdv_engine_law.specs.Places.{are_all, list_of}
use Rattle.mdv_store_law.specs.Machine as machine
use Rattle.mdv_shelf.specs.Calls.{OnDrive}
use Rattle.mdv_shelf.specs.Made.{Made}
use Rattle.mdv_shelf.specs.Story.{FailuresBy, Moment}
use Rattle.mdv_volumes.specs.Histories as history
use Rattle.mdv_engine_law.specs.declared.answer.Answer.{Answer}
use Rattle.mdv_engine_law.specs.declared.answer.Answer.TheVariants.{Said, Over}
use Rattle.mdv_engine_law.specs.declared.answer.Outcome.TheVariants as outcome
use Rattle.mdv_engine_law.specs.declared.answer.Reply.{Reply}
use Rattle.mdv_engine_law.specs.declared.host.Host.{Host}
use Rattle.mdv_engine_law.specs.Answers.{IsMereRefusal, IsSaid}
use Rattle.mdv_engine_law.specs.Awake.{Happening, BootBegins}
use Rattle.mdv_shelf.specs.Failing.{Outcomes}
use Rattle.mdv_engine_law.specs.Hosts.{StaysHome, dropped_area, identity_of, key_of, lines_asked, listed_area, opened_area, places_area}
use Rattle.mdv_store.specs.Create.{seats_asked}
use Rattle.mdv_store.specs.Seats.{AreTheirs}
use Rattle.mdv_engine_law.specs.Commands.{ComesTo}
use Rattle.mdv_engine_law.specs.Efforts.{LineCalls, replied_to}
use Rattle.mdv_engine_law.specs.Line.{Ask, HasBlocks, Kept, Nothing, ToBoot, ToDo, ToDrop, ToMake, ToMakeListed, ToSee, Memory, IsSame, asked_by_line, deeds, contents, is_in, kept_at}
use Rattle.mdv_engine_law.specs.Replies.{Acks, AcksAnswer, AcksBy, IsReply, IsFront, IsTold, issuable, issuable_of, issued_by, text_of}

-- the drives stand with the history
abbrev pub StandsAt : Host → History → Tale → Type 0
StandsAt host h m = history.Stands host.drives h m

-- the change adds these places, and no others
abbrev pub AddsThese : Change → List Place → Type 0
AddsThese (OfPlan change) places = places ≡ []
AddsThese (changes.AddPlaces slices count blocks) places = places ≡ flat_map (places_on count blocks) slices
AddsThese (changes.AddListed number) places = (slices : List SliceName) × (count : ℕ) × (blocks : ℕ) × (places ≡ flat_map (places_on count blocks) slices)
AddsThese (changes.DropPlaces slices) places = places ≡ []
AddsThese changes.FirstPlace places = places ≡ []

-- What a run issues of databases where these deeds are asked: creations under its word, and changes; places are formatted again that such a change adds, and a database ends where that is asked.
abbrev pub IsOfRun : Host → List Deed → Issue → Type 0
IsOfRun host asks (OfCreation identity) = identity.fresh ≡ host.fresh
IsOfRun host asks (OfChange change) = Contains asks (Changed (key_of host) change)
IsOfRun host asks (OfPlaces places) = (change : Change) × Contains asks (Changed (key_of host) change) × AddsThese change places
IsOfRun host asks OfEnd = Contains asks (Deleted (key_of host))

-- the events tell these deeds, and begin only deeds that are asked, creations too, in that order and each once; and they issue what a run may
abbrev pub Does : Host → List Deed → List Deed → List Event → Type 0
Does host asks done es = Adds (IsOfRun host asks) asks done es

-- From a history by some events, which tell these deeds and begin only deeds that are asked, to one that the drives stand with, of
-- which more is known.
abbrev pub Goes : Host → List Deed → List Deed → (List Event → History → Type 0) → Tale → History → Type 0
Goes host asks done After m h = machine.Goes history_after (Happening host) (Does host asks done) (λ g. StandsAt host g m) After h

-- A boot of the host's that begins on these drives meets a stale vote, by the replicas of some drives that it could read: nothing is known of a history then.
abbrev pub MeetsStaleAt : Host → History → Tale → Type 0
MeetsStaleAt host h t = (up : Drives) × MeetsStale up host.drives h.databases (key_of host) (last t)

-- so does the boot that a line asks, which begins there
abbrev pub HasMet : Host → Ask → History → Tale → Type 0
HasMet host Nothing h t = ⊥
HasMet host ToBoot h t = MeetsStaleAt host h t
HasMet host (ToMake key lines count blocks) h t = ⊥
HasMet host (ToMakeListed key number) h t = ⊥
HasMet host (ToDrop key slices force) h t = ⊥
HasMet host (ToDo deed) h t = ⊥
HasMet host (ToSee key volume at count) h t = ⊥

abbrev pub Reached : List Event → History → Type 0
Reached es h = Unit {0}

-- a reply that was told
pub record Replied (failed : Type 0) (answer : Answer) (reply : Reply) (t u : Tale) : Type 0 where
  pub piece : List ℕ
  pub is_told : told u ≡ told t ++ piece
  pub as_told : IsTold failed answer reply piece

-- a reply that was told, and nothing else happened
pub record OnlyReplied (failed : Type 0) (answer : Answer) (reply : Reply) (t u : Tale) : Type 0 where
  pub replied : Replied failed answer reply t u
  pub kept : KeptOutside nowhere t u

-- a line that was carried out and replied to, with so many calls, of which those on drives came out so, and the giving of its reply may have failed
pub record Executed (calls : Outcomes) (replies : Type 0) (made : Made) (host : Host) (line : Line) (old new : Memory) (reply : Reply) (t u : Tale) : Type 0 where
  pub answer : Answer
  pub carried : ComesTo calls host (kept_at old t) line answer (kept_at new u)
  pub effort : LineCalls calls (replied_to answer made) host (kept_at old t) line answer (kept_at new u)
  pub replied : Replied replies answer reply t u

-- whether the last boot brought the drive up, and no write of blocks failed there since
abbrev pub is_steady : Memory → ℕ → Bool
is_steady memory drive = is_in memory.up drive && not (is_in memory.unsteady drive)

-- What is known of the drives between two lines: where a database is open, whatever a crash leaves has its replica at each active place, with the newest table; and of a block of a slice on which volumes may lie
-- a crash leaves what a read gives, where its drive is steady.
pub record Knows (host : Host) (memory : Memory) (t : Tale) : Type 0 where
  pub opened : IfSome memory.opened (λ o. (o.key ≡ key_of host) × IsOpenedAt host.drives o t)
  pub steady : (drive block : ℕ) → is_steady memory drive ≡ true → plain_area host.drives drive block ≡ true → (x : List ℕ) → MayLeave t drive block x → x ≡ last t drive block

-- The databases of a history are the host's own, and of those that this run began, so many so far, none has a number that is still to come.
pub record AreOwn (host : Host) (begun : ℕ) (h : History) : Type 0 where
  pub own : (d : Database) → Contains h.databases d → d.key ≡ key_of host
  pub before : (d : Database) → Contains h.databases d → d.identity.fresh ≡ host.fresh → d.identity.number < begun

-- what is known of a history there: the open database is its key's current one, with the newest table of its log; where none is open, and memory is clean, another one may be created; the last boot brought up the drives that are steady, and others on which a write failed since; it
-- has found one value of each block of each volume on steady drives, or the volume was made since
pub record IsKnown (host : Host) (memory : Memory) (h : History) (t : Tale) : Type 0 where
  pub stands : StandsAt host h t
  pub its : AreOwn host memory.begun h
  pub is_open : IfSome memory.opened (λ o. IsOpenIn host.drives o h.databases t)
  pub free : memory.opened ≡ None → memory.clean ≡ true → AreFreed host.drives h.databases (key_of host) t
  pub up : (drive : ℕ) → is_in (h.up (key_of host)) drive ≡ is_steady memory drive
  pub woken : IfSome memory.opened (λ o. AreWoken host.drives o.table (is_steady memory) h (key_of host))
  pub knows : Knows host memory t

-- a moment of a boot: nothing is told, nothing outside the blocks that replicas may have is touched, and each history goes on with nothing asked, if the boot meets no stale vote, by events among which one boot begins that brings all of the
-- host's own drives up
pub record BootMoment (host : Host) (t m : Tale) : Type 0 where
  pub kept : KeptOutside (site_area host.site) t m
  pub quiet : told m ≡ told t
  pub goes : (h : History) → StandsAt host h t → MeetsStaleAt host h t ⊎ Goes host [] [] (λ es after. (up : Drives) × BootBegins (key_of host) up es × ((drive : DriveNo) → Contains host.site.drives drive → has_drive up drive ≡ true)) m h

-- a boot that is answered, and leaves this in memory; of a history it says something if the boot met no stale vote
pub record BootedTo (host : Host) (memory : Memory) (t u : Tale) : Type 0 where
  pub kept : KeptOutside (site_area host.site) t u
  pub quiet : told u ≡ told t
  pub knows : Knows host memory u
  pub goes : (h : History) → StandsAt host h t → AreOwn host memory.begun h → MeetsStaleAt host h t ⊎ Goes host [] [] (λ es after. IsKnown host memory after u × BootBegins (key_of host) memory.up es) u h

-- blocks of a volume are written: wherever one lies, it is as it was, or as it was to be, also behind a crash, and all others are kept
pub record ArePutBy (v : Map) (at : ℕ) (blocks : List (List ℕ)) (t m : Tale) : Type 0 where
  pub inside : (k drive block : ℕ) → k < length blocks → HasDriveBlock (v.places (at + k)) drive block → IsOldOrNew t m drive block (slice_index_or blocks k [])
  pub outside : (drive block : ℕ) → IsOff v at (length blocks) drive block → IsKept t m drive block

-- The blocks that a line which asks this may write, and all others are kept: a boot those that replicas may have; replicas those of the places asked, and where a database is open of its active places; a line by which places go those of the
-- active places, and the masters of those that go; a change those of the active places; a write its own, each of which is old or new; and any other line none.
abbrev pub WritesOnly : Host → Ask → Memory → Tale → Tale → Type 0
WritesOnly host Nothing memory t m = KeptOutside nowhere t m
WritesOnly host ToBoot memory t m = KeptOutside (site_area host.site) t m
WritesOnly host (ToMake key lines count blocks) memory t m = KeptOutside (site_area host.site) t m × KeptOutside (joined (places_area lines count blocks) (opened_area memory.opened)) t m
WritesOnly host (ToMakeListed key number) memory t m = KeptOutside (site_area host.site) t m × KeptOutside (joined (listed_area host (listed_by memory.entries number)) (opened_area memory.opened)) t m
WritesOnly host (ToDrop key slices force) memory t m = KeptOutside (site_area host.site) t m × KeptOutside (joined (opened_area memory.opened) (dropped_area host.drives memory.opened slices)) t m
WritesOnly host (ToDo (Changed key change)) memory t m = KeptOutside (opened_area memory.opened) t m
WritesOnly host (ToDo (Wrote key volume at blocks)) memory t m = KeptOutside nowhere t m ⊎ ((v : Map) × HasBlocks host memory volume at (length blocks) v × ArePutBy v at blocks t m)
WritesOnly host (ToDo other) memory t m = KeptOutside nowhere t m
WritesOnly host (ToSee key volume at count) memory t m = KeptOutside nowhere t m

-- and those that a line may write, by what it asks
abbrev pub LineWrites : Host → Line → Memory → Tale → Tale → Type 0
LineWrites host line memory t m = WritesOnly host (asked_by_line host line) memory t m

-- Each of the places asked has, whatever a crash leaves, a replica of the new database, or of the one that is open.
abbrev pub LeavesFormed : Host → Memory → Option Opened → List SliceLine → ℕ → ℕ → Tale → Type 0
LeavesFormed host memory None lines count blocks u = AreTheirs host.drives (key_of host) (identity_of host memory.begun) (seats_asked (key_of host) (identity_of host memory.begun) lines count blocks) u
LeavesFormed host memory (Some o) lines count blocks u = AreTheirs host.drives o.key o.identity (seats_added o (moves.Adds lines count blocks)) u

-- the masters of these places are blank then, whatever a crash leaves; or of those on drives on which no call failed
abbrev pub AreBlankAt : List PlaceAt → Tale → Type 0
AreBlankAt places u = (a : PlaceAt) → Contains places a → IsBlankAt a u

abbrev pub AreBlankWhereCalm : Outcomes → List PlaceAt → Tale → Type 0
AreBlankWhereCalm calls places u = (a : PlaceAt) → Contains places a → ((calls a.drive.0).some → ⊥) → IsBlankAt a u

-- the masters of the places that go are blank: of all, where all go; and of some, those on drives on which no call failed
abbrev pub LeavesBlank : Outcomes → Host → Memory → List SliceName → Tale → Type 0
LeavesBlank calls host memory slices u =
    (o : Opened) → memory.opened ≡ Some o → MatchBool (are_all o slices) (AreBlankAt (places_under host.drives (list_of o)) u) (AreBlankWhereCalm calls (places_dropped host.drives o (moves.Drops slices)) u)

-- What a command leaves that was told `ok`, where its calls came out so: of a write its block on the disk, with all that the drive was given before; where places come a replica at each of them; and where they go nothing there.
abbrev pub LeavesDone : Outcomes → Host → Memory → Command → Tale → Type 0
LeavesDone calls host memory (Write volume at what) u = (v : Map) × HasBlocks host memory volume at (length (blocks_of what)) v × AreOnDisk v at (blocks_of what) u
LeavesDone calls host memory (AddPlaces slices force count blocks) u = LeavesFormed host memory memory.opened (lines_asked host slices) count blocks u
LeavesDone calls host memory (DropPlaces slices force) u = LeavesBlank calls host memory slices u
LeavesDone calls host memory other u = Unit {0}

-- What a command leaves that a failed call ended, where its calls came out so: of a deletion of all places, of those that were to be wiped before the first one, the masters on drives on which no call failed are blank.
abbrev pub LeavesTorn : Outcomes → Host → Memory → Command → Tale → Type 0
LeavesTorn calls host memory (DropPlaces slices force) u = (o : Opened) → memory.opened ≡ Some o → are_all o slices ≡ true → AreBlankWhereCalm calls (places_dropped host.drives o moves.KeepsFirst) u
LeavesTorn calls host memory other u = Unit {0}

-- a moment while a line is carried out that asks this, with nothing told, and nothing done outside the host's blocks, nor outside those that it may write
pub record CarryMoment (host : Host) (ask : Ask) (memory : Memory) (t m : Tale) : Type 0 where
  pub home : StaysHome host t m
  pub within : WritesOnly host ask memory t m
  pub quiet : told m ≡ told t
  pub goes : (h : History) → IsKnown host memory h t → HasMet host ask h t ⊎ Goes host (deeds ask) [] Reached m h

-- these deeds can be told
abbrev pub CanTellAll : Host → List Deed → History → Type 0
CanTellAll host [] h = Unit {0}
CanTellAll host (deed ∷ []) h = CanTell host.drives deed h
CanTellAll host (deed ∷ more) h = ⊥

-- what is known once a line was carried out: behind an `ok`, that its deeds may be told
abbrev pub IsKnownAfter : Host → List Deed → Answer → Memory → History → Tale → Type 0
IsKnownAfter host done (Said (outcome.Refused refusal)) next h u = IsKnown host next h u
IsKnownAfter host done (Said this) next h u = IsKnown host next h u × CanTellAll host done h
IsKnownAfter host done (Over end) next h u = Unit {0}

-- what is known of the drive alone, where a reply is to be told
abbrev pub KnowsAfter : Host → Answer → Memory → Tale → Type 0
KnowsAfter host (Said this) next u = Knows host next u
KnowsAfter host (Over end) next u = Unit {0}

-- no database is open, and memory is clean
abbrev pub IsBare : Memory → Type 0
IsBare memory = (memory.opened ≡ None) × (memory.clean ≡ true)

-- A line that was carried out, and came to this answer: each history goes on by what the answer says may have been begun, so by
-- nothing where it is refused for another cause than a failed call; and behind it may be told what the answer acknowledges, a creation only where no database was open, and memory was clean.
pub record CarriedTo (host : Host) (ask : Ask) (old : Memory) (answer : Answer) (new : Memory) (t u : Tale) : Type 0 where
  pub done : List Deed
  pub acks : AcksAnswer ask answer done
  pub free : Contains done (Created (key_of host)) → IsBare old
  pub goes : (h : History) → IsKnown host old h t → HasMet host ask h t ⊎ Goes host (issued_by ask answer) [] (λ es after. IsKnownAfter host done answer new after u) u h
  pub knows : Knows host old t → KnowsAfter host answer new u

-- The end of a line that was carried out: what it came to, and what it led to.
pub record CarryEnd (Comes : Kept → Answer → Kept → Type 0) (host : Host) (ask : Ask) (old : Memory) (answer : Answer) (new : Memory) (t u : Tale) : Type 0 where
  pub answered : Knows host old t → Comes (kept_at old t) answer (kept_at new u)
  pub carried : CarriedTo host ask old answer new t u

-- a moment while an answer is told
pub record TellMoment (text : List ℕ) (t m : Tale) : Type 0 where
  pub kept : KeptOutside nowhere t m
  pub count : ℕ
  pub is_told : told m ≡ told t ++ take count text

-- By this moment of a line a front of the reply was told to what it came to, as the calls on the drive had come out by then, and the drive's blocks
-- read as the line left them; where it is a refusal for another cause than a failed call, the line wrote none of them; and where the whole reply was told, the line led to what it came to.
pub record FrontTold (Comes : Outcomes → Kept → Answer → Kept → Type 0) (Leads : Memory → Tale → Tale → Type 0) (old : Memory) (t m : Moment) : Type 0 where
  pub answer : Answer
  pub next : Kept
  pub came : Comes (λ drive. FailuresBy t m (OnDrive drive)) (kept_at old t.tale) answer next
  pub count : ℕ
  pub is_told : told m.tale ≡ told t.tale ++ take count (text_of answer)
  pub shows : IsSame next.content (contents m.tale)
  pub unwritten : IsMereRefusal answer → KeptOutside nowhere t.tale m.tale
  pub led : take count (text_of answer) ≡ text_of answer → IsSaid answer → Leads next.memory t.tale m.tale

-- nothing of a reply, or a front of the one to what the line came to
abbrev pub TellsFront : (Outcomes → Kept → Answer → Kept → Type 0) → (Memory → Tale → Tale → Type 0) → Memory → Moment → Moment → Type 0
TellsFront Comes Leads old t m = (told m.tale ≡ told t.tale) ⊎ FrontTold Comes Leads old t m

-- A moment of a line that asks this, and of its reply: at most a front of one reply is told, which acknowledges these deeds, and each
-- history goes on by telling them, with what the front lets the line begin. A creation is told only where no database was open, and memory was clean.
pub record TurnMoment (host : Host) (ask : Ask) (old : Memory) (t m : Tale) : Type 0 where
  pub home : StaysHome host t m
  pub within : WritesOnly host ask old t m
  pub bytes : List ℕ
  pub is_told : told m ≡ told t ++ bytes
  pub front : IsFront bytes
  pub done : List Deed
  pub acks : Acks ask bytes done
  pub free : Contains done (Created (key_of host)) → IsBare old
  pub goes : (h : History) → IsKnown host old h t → HasMet host ask h t ⊎ Goes host (issuable_of ask bytes) done Reached m h

-- a line and its reply, told whole, that led from one memory to the other
pub record Turned (host : Host) (ask : Ask) (old new : Memory) (t u : Tale) : Type 0 where
  pub bytes : List ℕ
  pub is_told : told u ≡ told t ++ bytes
  pub reply : IsReply bytes
  pub done : List Deed
  pub acks : AcksBy ask bytes done
  pub free : Contains done (Created (key_of host)) → IsBare old
  pub knows : Knows host old t → Knows host new u
  pub goes : (h : History) → IsKnown host old h t → HasMet host ask h t ⊎ Goes host (issuable ask bytes) done (λ es after. IsKnown host new after u) u h
