-- By which events a call leads from each world that an image of its start shows to one that an image of the moment shows.
use Rattle.std.specs.Prelude.{◌≡◌, ℕ, ◌+◌, ◌<◌, ◌^◌, Bool, false, List, [], ◌∷◌, ◌++◌, map, Option, None, Some, IsTrue}
use Rattle.mdv_store_law.specs.Log.{Adds, ChangesAlone, Event as LogEvent, IsCourse, IsEmpty, IsMade, IsNotOver, Issue, log_after_all}
use Rattle.mdv_store_law.specs.Part.{IsPart}
use Rattle.mdv_standing.specs.Below.{Lives, Change, Claimed, Claims, Core, Event, Everywhere, Filled, Fills, FirstIs, Formatted, Formats, Geometry, Head, Identity, IsAbove, IsBodyOf, IsSpareSlot, LeftClosed, Leaves, Lists, Log, Mark, Master, MayClaim, MayFill, MayFormat, MayHappen, MayWipe, NextLists, PlaceAt, Reads, Seen, Site, SliceLine, Slot, Slotted, Spot, SpotLists, Table, Tale, Told, Version, WritesLog, Written, greatest_seen, is_claimed, is_in, is_named, is_none, is_written, log_after, master_on, place_on, spot_on, spots_seen, start}
use Rattle.mdv_standing.specs.Adopting.{IsLook, IsMarked, drawn}
use Rattle.mdv_standing.specs.Committing.{MayChangeLists, MayListNext}
use Rattle.mdv_standing.specs.Creating.{AreAllPlaced, IsCreating, MayBeFormatted, first_mark, issued_log}
use Rattle.mdv_standing.specs.Forming.{IsBehind, IsToFormat}
use Rattle.mdv_standing.specs.Laws.{HasNone}
use Rattle.mdv_standing.specs.Matching.{HasStaleVote, by_majority_on, is_set, spots_of, voted_table}
use Rattle.mdv_standing.specs.Others.{Anything}
use Rattle.mdv_standing.specs.Standing.{CoversWith}
use Rattle.mdv_standing.specs.Turning.{IsBootRead, IsNewest, IsPlaceAt}
use Rattle.mdv_standing.specs.Worlds.{IsNoneOr, IsReadyWith, IsTaking, IsWorld, MayBeClaimed, Turned}

-- Each world of the log that an image of the start shows, and of which so much is known, goes on by such events to one of the next log that the
-- image of the moment shows, and of which this is known.
abbrev pub Traces : (List ℕ → Table → Type 0) → Site → Identity → Log → Log → (Core → Type 0) → (List Event → Type 0) → (Core → Type 0) → Tale → Tale → Type 0
Traces Spells site identity log next Know Are Then =
    Leaves (λ old new. (w : Core) → IsWorld Spells site identity log w old → Know w → Turned Spells site identity next w new Are Then)

-- A log goes on by events that may happen and issue such things alone, with nothing told and only such changes begun as are asked, to one to which the call traces its worlds.
pub record GoesTracedBy (Which : Issue → Type 0) (Spells : List ℕ → Table → Type 0) (g : Geometry) (site : Site) (identity : Identity) (asks : List (Option Change)) (Know : Core → Type 0) (Are : List Event → Type 0) (Then : Core → Type 0) (After : Log → Type 0) (t m : Tale) (log : Log) : Type 0 where
  pub es : List LogEvent
  pub course : IsCourse g log es
  pub come : Adds Which asks [] es
  pub traces : Traces Spells site identity log (log_after_all log es) Know Are Then t m
  pub after : After (log_after_all log es)

-- So does each log that the drives stood with, of which so much was known, and of whose worlds this was known.
abbrev pub TracesBy : (Issue → Type 0) → (List ℕ → Table → Type 0) → Geometry → Site → Identity → (Log → Type 0) → List (Option Change) → (Core → Type 0) → (List Event → Type 0) → (Core → Type 0) → (Log → Type 0) → Tale → Tale → Type 0
TracesBy Which Spells g site identity Known asks Know Are Then After t m =
    (log : Log) → CoversWith Spells site identity (λ image w. Know w) log t → Known log → GoesTracedBy Which Spells g site identity asks Know Are Then After t m log

-- the same where changes alone are issued
abbrev pub GoesTraced : (List ℕ → Table → Type 0) → Geometry → Site → Identity → List (Option Change) → (Core → Type 0) → (List Event → Type 0) → (Core → Type 0) → (Log → Type 0) → Tale → Tale → Log → Type 0
GoesTraced = GoesTracedBy ChangesAlone

abbrev pub TracesFrom : (List ℕ → Table → Type 0) → Geometry → Site → Identity → (Log → Type 0) → List (Option Change) → (Core → Type 0) → (List Event → Type 0) → (Core → Type 0) → (Log → Type 0) → Tale → Tale → Type 0
TracesFrom = TracesBy ChangesAlone

-- The events begin so, and behind that come some of the plan's, in this order.
pub record IsRun (Begins : List Event → Type 0) (plan es : List Event) : Type 0 where
  pub first : List Event
  pub rest : List Event
  pub begins : Begins first
  pub part : IsPart rest plan
  pub is : es ≡ first ++ rest

abbrev pub claims_at : List Spot → List Event
claims_at places = map Claimed places

abbrev pub formats_at : List Spot → List Event
formats_at places = map Formatted places

abbrev pub fills_at : List Spot → List Event
fills_at places = map (λ q. Slotted q Filled) places

-- the table is taken, and its write is answered
abbrev pub taken_at : List Spot → List Event
taken_at places = fills_at places ++ Told ∷ []

-- it begins to be written here, before that
abbrev pub written_at : Spot → List Spot → List Event
written_at p places = Slotted p LeftClosed ∷ taken_at places

-- A boot looks at these places, claims some of those, begins to write the adopted table here, and writes it to some of those.
abbrev pub IsBootRun : List Spot → List Spot → Spot → List Spot → List Event → Type 0
IsBootRun read claims p places = IsRun (IsLook read) (claims_at claims ++ written_at p places)

-- A commit begins with the lists of the next table, and with its first write.
abbrev pub IsCommitBegin : SpotLists → Spot → List Event → Type 0
IsCommitBegin lists p es = es ≡ NextLists lists ∷ (Slotted p LeftClosed ∷ [])

-- Then it writes that to some of these places.
abbrev pub IsCommitRun : SpotLists → Spot → List Spot → List Event → Type 0
IsCommitRun lists p places = IsRun (IsCommitBegin lists p) (taken_at places)

abbrev pub IsCreationBegin : SpotLists → List Event → Type 0
IsCreationBegin lists es = es ≡ NextLists lists ∷ []

-- A creation has its lists, formats some of those places, begins to write the first table here, and writes it to some of these.
abbrev pub IsCreationRun : SpotLists → List Spot → Spot → List Spot → List Event → Type 0
IsCreationRun lists formats p places = IsRun (IsCreationBegin lists) (formats_at formats ++ written_at p places)

-- the version of the log with this mark has this table
pub record IsVersionWith (log : Log) (mark : Mark) (table : Table) (v : Version) : Type 0 where
  pub is : IsMarked log mark v
  pub same : v.table ≡ table

pub record BootsTrace : Type 0 where
  -- a boot read, and no stale vote for the table
  pub looks : (read : List ℕ → Option Table) (site : Site) (identity : Identity) (log : Log) (t : Tale) (seen : List Seen) (s : Seen) (slot : Slot) (mark : Mark) (table : Table) (v : Version)
      → IsBootRead (Reads read) site identity t seen s slot mark table → IsVersionWith log mark table v → (HasStaleVote site log seen mark → ⊥)
      → Traces (Reads read) site identity log log Anything (IsLook (spots_seen seen)) (MayBeClaimed mark (greatest_seen seen + 1) []) t t
  -- while it claims a place, and once it has
  pub claiming : (read : List ℕ → Option Table) (site : Site) (identity : Identity) (log : Log) (t m : Tale) (line : SliceLine) (k : ℕ) (first : Master) (head : Head) (mark : Mark) (table : Table) (v : Version) (number : ℕ) (ok : List Spot)
      → IsPlaceAt (Reads read) site identity t table line k first head → number < 2 ^ 63 → IsVersionWith log mark table v → Leaves (MayClaim (place_on line first.blocks first.count k) number) t m
      → Traces (Reads read) site identity log log (MayBeClaimed mark number ok) (IsNoneOr (Claimed (spot_on line first.blocks k))) (MayBeClaimed mark number ok) t m
  pub claimed : (read : List ℕ → Option Table) (site : Site) (identity : Identity) (log : Log) (t m : Tale) (line : SliceLine) (k : ℕ) (first : Master) (head : Head) (mark : Mark) (table : Table) (v : Version) (number : ℕ) (ok : List Spot)
      → IsPlaceAt (Reads read) site identity t table line k first head → number < 2 ^ 63 → IsVersionWith log mark table v → Leaves (Claims (place_on line first.blocks first.count k) number) t m
      → Traces (Reads read) site identity log log (MayBeClaimed mark number ok) (λ es. es ≡ Claimed (spot_on line first.blocks k) ∷ []) (MayBeClaimed mark number (spot_on line first.blocks k ∷ ok)) t m
  -- once enough claims were answered, one of them here, the table may be written anew, and begins to be
  pub may : (read : List ℕ → Option Table) (g : Geometry) (site : Site) (identity : Identity) (log : Log) (t : Tale) (line : SliceLine) (k : ℕ) (first : Master) (head : Head) (mark : Mark) (table : Table) (v : Version) (number : ℕ) (ok : List Spot)
      → IsPlaceAt (Reads read) site identity t table line k first head → IsTrue (is_in ok (spot_on line first.blocks k)) → IsTrue (is_claimed (is_set site.key) (voted_table site table) (is_in ok)) → IsVersionWith log mark table v
      → CoversWith (Reads read) site identity (λ image w. MayBeClaimed mark number ok w) log t → MayHappen g log (WritesLog (drawn number) None v.changes table)
  pub begins : (read : List ℕ → Option Table) (site : Site) (identity : Identity) (log : Log) (t : Tale) (line : SliceLine) (k : ℕ) (first : Master) (head : Head) (mark : Mark) (table : Table) (v : Version) (number : ℕ) (ok : List Spot)
      → IsPlaceAt (Reads read) site identity t table line k first head → IsTrue (is_in ok (spot_on line first.blocks k)) → IsTrue (is_claimed (is_set site.key) (voted_table site table) (is_in ok)) → IsVersionWith log mark table v
      → Traces (Reads read) site identity log (log_after log (WritesLog (drawn number) None v.changes table)) (MayBeClaimed mark number ok) (λ es. es ≡ Slotted (spot_on line first.blocks k) LeftClosed ∷ []) (IsTaking (by_majority_on site table) (drawn number) []) t t

-- The same for any table that is being written.
pub record WritesTrace : Type 0 where
  -- while a slot takes it, and once it has
  pub slotting : (read : List ℕ → Option Table) (site : Site) (identity : Identity) (log : Log) (t m : Tale) (line : SliceLine) (k : ℕ) (first : Master) (head : Head) (slot : Slot) (mark : Mark) (table : Table) (bytes : ℕ) (body : List (List ℕ)) (by_majority : Bool)
      (took : List Spot) → IsPlaceAt (Reads read) site identity t table line k first head → IsBodyOf (Reads read) (place_on line first.blocks first.count k) mark bytes body table → IsAbove mark head → IsSpareSlot head slot
      → IsNewest log mark table → Leaves (MayFill (place_on line first.blocks first.count k) slot mark bytes body) t m
      → Traces (Reads read) site identity log log (IsTaking by_majority mark took) (IsNoneOr (Slotted (spot_on line first.blocks k) Filled)) (IsTaking by_majority mark took) t m
  pub slotted : (read : List ℕ → Option Table) (site : Site) (identity : Identity) (log : Log) (t m : Tale) (line : SliceLine) (k : ℕ) (first : Master) (head : Head) (slot : Slot) (mark : Mark) (table : Table) (bytes : ℕ) (body : List (List ℕ)) (by_majority : Bool)
      (took : List Spot) → IsPlaceAt (Reads read) site identity t table line k first head → IsBodyOf (Reads read) (place_on line first.blocks first.count k) mark bytes body table → IsAbove mark head
      → IsNewest log mark table → Leaves (Fills (place_on line first.blocks first.count k) slot mark bytes body) t m
      → Traces (Reads read) site identity log log (IsTaking by_majority mark took) (λ es. es ≡ Slotted (spot_on line first.blocks k) Filled ∷ []) (IsTaking by_majority mark (spot_on line first.blocks k ∷ took)) t m
  -- once enough places took it, its write is answered
  pub answered : (read : List ℕ → Option Table) (site : Site) (identity : Identity) (log : Log) (t : Tale) (mark : Mark) (table : Table) (by_majority : Bool) (took : List Spot)
      → IsTrue (is_written (record (voted_table site table) { by_majority = by_majority }) (is_in took)) → IsNewest log mark table
      → Traces (Reads read) site identity log (log_after log Written) (IsTaking by_majority mark took) (λ es. es ≡ Told ∷ []) (IsReadyWith took) t t
  -- and what a change makes of it may be written, or it itself with its change of places over, and begins to be
  pub may : (read : List ℕ → Option Table) (g : Geometry) (site : Site) (identity : Identity) (log : Log) (t : Tale) (line : SliceLine) (k : ℕ) (first : Master) (head : Head) (mark : Mark) (table next : Table) (n : IsNewest log mark table) (asked : Option Change) (took : List Spot)
      → IsPlaceAt (Reads read) site identity t next line k first head → IsMade g asked table next → Everywhere (MayListNext (Reads read) site identity n.version next) t → MayChangeLists n.version next → mark.count + 1 < 2 ^ 63
      → CoversWith (Reads read) site identity (λ image w. IsReadyWith took w) log t → MayHappen g log (WritesLog (record mark { count = mark.count + 1 }) asked n.version.changes next)
  pub changes : (read : List ℕ → Option Table) (site : Site) (identity : Identity) (log : Log) (t : Tale) (line : SliceLine) (k : ℕ) (first : Master) (head : Head) (mark : Mark) (table next : Table) (n : IsNewest log mark table) (asked : Option Change) (took : List Spot)
      → IsPlaceAt (Reads read) site identity t next line k first head → Everywhere (MayListNext (Reads read) site identity n.version next) t → mark.count + 1 < 2 ^ 63
      → Traces (Reads read) site identity log (log_after log (WritesLog (record mark { count = mark.count + 1 }) asked n.version.changes next)) (IsReadyWith took) (IsCommitBegin (spots_of site next.plan.lists) (spot_on line first.blocks k))
      (IsTaking false (record mark { count = mark.count + 1 }) []) t t

-- nothing has happened to the database
abbrev pub IsStart : Site → Core → Type 0
IsStart site w = w ≡ start (is_set site.key)

-- The same while a database is created.
pub record CreationsTrace : Type 0 where
  -- where no replica of it is found nothing has happened
  pub none : (read : List ℕ → Option Table) (site : Site) (identity : Identity) (log : Log) (t : Tale) → Everywhere (λ image. HasNone (Reads read) site identity image) t → log.family ≡ [] → log.fate ≡ Lives
      → CoversWith (Reads read) site identity (λ image w. IsStart site w) log t
  -- so it is while a place is blanked, and none is found still
  pub clearing : (read : List ℕ → Option Table) (site : Site) (identity : Identity) (log : Log) (t m : Tale) (at : PlaceAt) → log.family ≡ [] → log.fate ≡ Lives → Everywhere (λ image. HasNone (Reads read) site identity image) m → Leaves (MayWipe at) t m
      → Traces (Reads read) site identity log log (IsStart site) (λ es. es ≡ []) (IsStart site) t m
  -- then its first table may be in hand
  pub begins : (read : List ℕ → Option Table) (site : Site) (identity : Identity) (log : Log) (t : Tale) (lists : Lists) → Everywhere (λ image. HasNone (Reads read) site identity image) t
      → Traces (Reads read) site identity log (issued_log identity) (IsStart site) (IsCreationBegin (spots_of site lists)) (IsCreating (spots_of site lists) []) t t
  -- while the first place of a slice is formatted, and once it is
  pub first_formatting : (read : List ℕ → Option Table) (site : Site) (identity : Identity) (log : Log) (t m : Tale) (line : SliceLine) (blocks count : ℕ) (before : Option Master) (lists : Lists) (done : List Spot) → log.family ≡ []
      → IsToFormat site identity t line blocks count 0 lists done → Everywhere (λ image. FirstIs site image line before) t → Leaves (MayFormat (place_on line blocks count 0) (master_on site identity line blocks count 0) 1) t m
      → Traces (Reads read) site identity log log (IsCreating (spots_of site lists) done) (IsNoneOr (Formatted (spot_on line blocks 0))) (MayBeFormatted (spots_of site lists) (spot_on line blocks 0) done) t m
  pub first_formatted : (read : List ℕ → Option Table) (site : Site) (identity : Identity) (log : Log) (t m : Tale) (line : SliceLine) (blocks count : ℕ) (before : Option Master) (lists : Lists) (done : List Spot) → log.family ≡ []
      → IsToFormat site identity t line blocks count 0 lists done → Everywhere (λ image. FirstIs site image line before) t → Leaves (Formats (place_on line blocks count 0) (master_on site identity line blocks count 0) 1) t m
      → Traces (Reads read) site identity log log (IsCreating (spots_of site lists) done) (λ es. es ≡ Formatted (spot_on line blocks 0) ∷ []) (IsCreating (spots_of site lists) (spot_on line blocks 0 ∷ done)) t m
  -- so with a later one
  pub later_formatting : (read : List ℕ → Option Table) (site : Site) (identity : Identity) (log : Log) (t m : Tale) (line : SliceLine) (k : ℕ) (first : Master) (lists : Lists) (done : List Spot) → log.family ≡ []
      → IsToFormat site identity t line first.blocks first.count k lists done → IsBehind (Reads read) site t line k first → Leaves (MayFormat (place_on line first.blocks first.count k) (master_on site identity line first.blocks first.count k) 1) t m
      → Traces (Reads read) site identity log log (IsCreating (spots_of site lists) done) (IsNoneOr (Formatted (spot_on line first.blocks k))) (MayBeFormatted (spots_of site lists) (spot_on line first.blocks k) done) t m
  pub later_formatted : (read : List ℕ → Option Table) (site : Site) (identity : Identity) (log : Log) (t m : Tale) (line : SliceLine) (k : ℕ) (first : Master) (lists : Lists) (done : List Spot) → log.family ≡ []
      → IsToFormat site identity t line first.blocks first.count k lists done → IsBehind (Reads read) site t line k first → Leaves (Formats (place_on line first.blocks first.count k) (master_on site identity line first.blocks first.count k) 1) t m
      → Traces (Reads read) site identity log log (IsCreating (spots_of site lists) done) (λ es. es ≡ Formatted (spot_on line first.blocks k) ∷ []) (IsCreating (spots_of site lists) (spot_on line first.blocks k ∷ done)) t m
  -- once each place of the first table was formatted that may be written, which has one list of places and nothing else, and begins to be
  pub may : (g : Geometry) (identity : Identity) (log : Log) (table : Table) → log.issued ≡ Some identity → log.family ≡ [] → IsNotOver log.fate → IsEmpty table → MayHappen g log (WritesLog first_mark None [] table)
  pub writes : (read : List ℕ → Option Table) (site : Site) (identity : Identity) (log : Log) (t : Tale) (p : Spot) (table : Table) (done : List Spot) → log.family ≡ [] → is_none (spots_of site table.plan.lists).first ≡ false
      → IsTrue (is_in done p) → IsTrue (is_named (spots_of site table.plan.lists) p) → Everywhere (AreAllPlaced (Reads read) site identity table.plan.lists) t
      → Traces (Reads read) site identity log (log_after log (WritesLog first_mark None [] table)) (IsCreating (spots_of site table.plan.lists) done) (λ es. es ≡ Slotted p LeftClosed ∷ []) (IsTaking false first_mark []) t t
