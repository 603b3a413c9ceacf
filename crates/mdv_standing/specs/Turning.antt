-- How a log and the worlds of all images go on together, call by call.
use Rattle.std.specs.Prelude.{◌≡◌, ℕ, ◌+◌, ◌<◌, ◌^◌, Bool, true, false, List, [], ◌∷◌, Option, None, IsTrue}
use Rattle.mdv_store_law.specs.Log.{IsMade}
use Rattle.mdv_standing.specs.Below.{Change, Claims, Everywhere, Fills, Geometry, Head, Identity, IsAbove, IsBodyOf, IsChosen, IsOwn, IsSite, IsSpareSlot, Leaves, Log, Mark, Master, MayClaim, MayFill, MayHappen, Reads, Seen, Site, SliceLine, Slot, SlotShows, Spot, Table, Tale, Version, WritesLog, Written, covers, greatest_seen, is_claimed, is_in, is_majority, is_named, is_written, log_after, place_on, spot_on, spots_seen}
use Rattle.mdv_standing.specs.Adopting.{AreOwn, IsMarked, drawn}
use Rattle.mdv_standing.specs.Committing.{MayFollow}
use Rattle.mdv_standing.specs.Matching.{HasStaleVote, by_majority_on, is_set, spots_of, voted_table}
use Rattle.mdv_standing.specs.Standing.{Covers, CoversWith}
use Rattle.mdv_standing.specs.Worlds.{IsReadyWith, IsTaking, MayBeClaimed}

-- Whatever a crash leaves has the replicas that a boot read, of which this one shows this table under the greatest mark; and more than half of each
-- of its lists was read.
pub record IsBootRead (Spells : List ℕ → Table → Type 0) (site : Site) (identity : Identity) (t : Tale) (seen : List Seen) (s : Seen) (slot : Slot) (mark : Mark) (table : Table) : Type 0 where
  pub own : Everywhere (λ image. AreOwn Spells site identity image seen) t
  pub chosen : IsChosen seen s slot mark
  pub shows : Everywhere (λ image. SlotShows Spells (place_on s.line s.first.blocks s.first.count s.number) (image s.line.at.drive.0) s.head slot mark table) t
  pub quorum : IsTrue (covers (is_majority (is_in (spots_seen seen))) (spots_of site table.plan.lists))

-- A boot adopts this table, of the version with this mark, under that number, which these places claimed.
pub record IsBooting (Spells : List ℕ → Table → Type 0) (site : Site) (identity : Identity) (log : Log) (t : Tale) (mark : Mark) (table : Table) (number : ℕ) (ok : List Spot) : Type 0 where
  pub version : Version
  pub is : IsMarked log mark version
  pub same : version.table ≡ table
  pub each : CoversWith Spells site identity (λ image w. MayBeClaimed mark number ok w) log t

-- the newest version has this mark and this table
pub record IsNewest (log : Log) (mark : Mark) (table : Table) : Type 0 where
  pub version : Version
  pub older : List Version
  pub family : log.family ≡ version ∷ older
  pub marked : version.mark ≡ mark
  pub same : version.table ≡ table

-- It is being written, and these places took it.
pub record IsWriting (Spells : List ℕ → Table → Type 0) (site : Site) (identity : Identity) (by_majority : Bool) (log : Log) (t : Tale) (mark : Mark) (table : Table) (took : List Spot) : Type 0 where
  pub newest : IsNewest log mark table
  pub each : CoversWith Spells site identity (λ image w. IsTaking by_majority mark took w) log t

-- Its write was answered, these places have it, and nothing is in work.
pub record IsOpen (Spells : List ℕ → Table → Type 0) (site : Site) (identity : Identity) (log : Log) (t : Tale) (mark : Mark) (table : Table) (took : List Spot) : Type 0 where
  pub newest : IsNewest log mark table
  pub written : newest.version.is_written ≡ true
  pub each : CoversWith Spells site identity (λ image w. IsReadyWith took w) log t

-- The log goes on: this table may be written under this mark, and what comes of it is being written.
pub record Begins (Spells : List ℕ → Table → Type 0) (g : Geometry) (site : Site) (identity : Identity) (by_majority : Bool) (log : Log) (t : Tale) (mark : Mark) (asked : Option Change) (table : Table) : Type 0 where
  pub before : List Change
  pub may : MayHappen g log (WritesLog mark asked before table)
  pub writing : IsWriting Spells site identity by_majority (log_after log (WritesLog mark asked before table)) t mark table []

-- a place of one of the table's lists, which whatever a crash leaves has a replica of the database at it
pub record IsPlaceAt (Spells : List ℕ → Table → Type 0) (site : Site) (identity : Identity) (t : Tale) (table : Table) (line : SliceLine) (k : ℕ) (first : Master) (head : Head) : Type 0 where
  pub site_is : IsSite site
  pub each : Everywhere (λ image. IsOwn Spells site identity line k image first head) t
  pub named : IsTrue (is_named (spots_of site table.plan.lists) (spot_on line first.blocks k))

pub record BootsTurn : Type 0 where
  -- a boot read, and no stale vote for the table
  pub reads : (read : List ℕ → Option Table) (site : Site) (identity : Identity) (log : Log) (t : Tale) (seen : List Seen) (s : Seen) (slot : Slot) (mark : Mark) (table : Table)
      → IsBootRead (Reads read) site identity t seen s slot mark table → Covers (Reads read) site identity log t → (HasStaleVote site log seen mark → ⊥)
      → IsBooting (Reads read) site identity log t mark table (greatest_seen seen + 1) []
  -- while it claims a place, and once it has
  pub claiming : (read : List ℕ → Option Table) (site : Site) (identity : Identity) (log : Log) (t m : Tale) (line : SliceLine) (k : ℕ) (first : Master) (head : Head) (mark : Mark) (table : Table) (number : ℕ) (ok : List Spot)
      → IsPlaceAt (Reads read) site identity t table line k first head → number < 2 ^ 63 → IsBooting (Reads read) site identity log t mark table number ok
      → Leaves (MayClaim (place_on line first.blocks first.count k) number) t m → IsBooting (Reads read) site identity log m mark table number ok
  pub claimed : (read : List ℕ → Option Table) (site : Site) (identity : Identity) (log : Log) (t m : Tale) (line : SliceLine) (k : ℕ) (first : Master) (head : Head) (mark : Mark) (table : Table) (number : ℕ) (ok : List Spot)
      → IsPlaceAt (Reads read) site identity t table line k first head → number < 2 ^ 63 → IsBooting (Reads read) site identity log t mark table number ok
      → Leaves (Claims (place_on line first.blocks first.count k) number) t m → IsBooting (Reads read) site identity log m mark table number (spot_on line first.blocks k ∷ ok)
  -- once enough claims were answered, one of them here, the table begins to be written anew
  pub begins : (read : List ℕ → Option Table) (g : Geometry) (site : Site) (identity : Identity) (log : Log) (t : Tale) (line : SliceLine) (k : ℕ) (first : Master) (head : Head) (mark : Mark) (table : Table) (number : ℕ) (ok : List Spot)
      → IsPlaceAt (Reads read) site identity t table line k first head → IsTrue (is_in ok (spot_on line first.blocks k)) → IsTrue (is_claimed (is_set site.key) (voted_table site table) (is_in ok))
      → IsBooting (Reads read) site identity log t mark table number ok → Begins (Reads read) g site identity (by_majority_on site table) log t (drawn number) None table

-- The same for any table that is being written.
pub record WritesTurn : Type 0 where
  -- while a slot takes it, and once it has
  pub slotting : (read : List ℕ → Option Table) (site : Site) (identity : Identity) (log : Log) (t m : Tale) (line : SliceLine) (k : ℕ) (first : Master) (head : Head) (slot : Slot) (mark : Mark) (table : Table) (bytes : ℕ) (body : List (List ℕ)) (by_majority : Bool)
      (took : List Spot) → IsPlaceAt (Reads read) site identity t table line k first head → IsBodyOf (Reads read) (place_on line first.blocks first.count k) mark bytes body table → IsAbove mark head → IsSpareSlot head slot
      → IsWriting (Reads read) site identity by_majority log t mark table took → Leaves (MayFill (place_on line first.blocks first.count k) slot mark bytes body) t m → IsWriting (Reads read) site identity by_majority log m mark table took
  pub slotted : (read : List ℕ → Option Table) (site : Site) (identity : Identity) (log : Log) (t m : Tale) (line : SliceLine) (k : ℕ) (first : Master) (head : Head) (slot : Slot) (mark : Mark) (table : Table) (bytes : ℕ) (body : List (List ℕ)) (by_majority : Bool)
      (took : List Spot) → IsPlaceAt (Reads read) site identity t table line k first head → IsBodyOf (Reads read) (place_on line first.blocks first.count k) mark bytes body table → IsAbove mark head
      → IsWriting (Reads read) site identity by_majority log t mark table took → Leaves (Fills (place_on line first.blocks first.count k) slot mark bytes body) t m
      → IsWriting (Reads read) site identity by_majority log m mark table (spot_on line first.blocks k ∷ took)
  -- once enough places took it, its write is answered
  pub answered : (read : List ℕ → Option Table) (site : Site) (identity : Identity) (log : Log) (t : Tale) (mark : Mark) (table : Table) (by_majority : Bool) (took : List Spot)
      → IsTrue (is_written (record (voted_table site table) { by_majority = by_majority }) (is_in took)) → IsWriting (Reads read) site identity by_majority log t mark table took
      → IsOpen (Reads read) site identity (log_after log Written) t mark table took
  -- and what a change makes of it begins to be written, or it itself with its change of places over
  pub changes : (read : List ℕ → Option Table) (g : Geometry) (site : Site) (identity : Identity) (log : Log) (t : Tale) (line : SliceLine) (k : ℕ) (first : Master) (head : Head) (mark : Mark) (table next : Table) (asked : Option Change) (took : List Spot)
      → IsPlaceAt (Reads read) site identity t next line k first head → IsMade g asked table next → MayFollow table.plan.lists next.plan.lists → mark.count + 1 < 2 ^ 63 → IsOpen (Reads read) site identity log t mark table took
      → Begins (Reads read) g site identity false log t (record mark { count = mark.count + 1 }) asked next
