-- How a database's worlds and its log go on while a boot adopts it.
use Rattle.std.specs.Prelude.{◌≡◌, ◌⊎◌, ℕ, ◌+◌, ◌<◌, ◌^◌, Bool, false, List, [], ◌∷◌, ◌++◌, map, Option, None, Contains, IsTrue}
use Rattle.mdv_store_law.specs.Machine.{AreAll}
use Rattle.mdv_standing.specs.Below.{Identity, Mark, Geometry, SliceLine, Master, Head, Slot, Seen, HaveRead, IsChosen, greatest_seen, spots_seen, IsOwn, IsOwnAt, IsSite, Site, SlotShows, place_on, spot_on, Reads, IsAbove, IsBodyOf, IsSpareSlot, Claims, Fills, MayClaim, MayFill, Image, Core, Event, Back, Claimed, Crash, Lose, Read, Slotted, Told, LeftClosed, Filled, Log, MayHappen, Version, WritesLog, Written, log_after, Table, Spot, covers, is_claimed, is_in, is_majority, is_named, is_written}
use Rattle.mdv_standing.specs.Matching.{HasStaleVote, by_majority_of, is_set, lists_of, tables_of, voted_of}
use Rattle.mdv_standing.specs.Worlds.{IsWorld, Turned, IsNoneOr, MayBeClaimed, IsTaking, IsReadyWith}

-- drives are lost or back
abbrev pub IsOfDrive : Event → Type 0
IsOfDrive e = (d : _) × ((e ≡ Lose d) ⊎ (e ≡ Back d))

-- A boot begins behind a crash, with some drives, and reads these places.
pub record IsLook (spots : List Spot) (es : List Event) : Type 0 where
  pub drives : List Event
  pub of_drives : AreAll IsOfDrive drives
  pub is : es ≡ Crash ∷ (drives ++ map Read spots)

abbrev pub AreOwn : (List ℕ → Table → Type 0) → Site → Identity → Image → List Seen → Type 0
AreOwn Spells site identity image seen = (s : Seen) → Contains seen s → IsOwn Spells site identity s.line s.number image s.first s.head

-- the version of the log that has this mark
pub record IsMarked (log : Log) (mark : Mark) (v : Version) : Type 0 where
  pub one_of : Contains log.family v
  pub marked : v.mark ≡ mark

-- the version that a replica's slot shows
pub record IsFoundVersion (Spells : List ℕ → Table → Type 0) (log : Log) (image : Image) (s : Seen) (slot : Slot) (mark : Mark) : Type 0 where
  pub version : Version
  pub is : IsMarked log mark version
  pub shows : SlotShows Spells (place_on s.line s.first.blocks s.first.count s.number) (image s.line.at.drive.0) s.head slot mark version.table

abbrev pub drawn : ℕ → Mark
drawn number = record { boot = number; count = 0 }

-- A claim is to be written to a replica that the image has, which the adopted version names.
pub record IsClaim (Spells : List ℕ → Table → Type 0) (site : Site) (identity : Identity) (log : Log) (w : Core) (old : Image) (line : SliceLine) (k : ℕ) (first : Master) (head : Head) (v : Version) (number : ℕ) (ok : List Spot) : Type 0 where
  pub site_is : IsSite site
  pub world : IsWorld Spells site identity log w old
  pub own : IsOwn Spells site identity line k old first head
  pub one_of : Contains log.family v
  pub named : IsTrue (is_named (lists_of site v) (spot_on line first.blocks k))
  pub small : number < 2 ^ 63
  pub known : MayBeClaimed v.mark number ok w

-- Enough claims were answered, one at this place among them.
pub record IsBeginning (Spells : List ℕ → Table → Type 0) (site : Site) (identity : Identity) (log : Log) (w : Core) (image : Image) (p : Spot) (v : Version) (number : ℕ) (ok : List Spot) : Type 0 where
  pub world : IsWorld Spells site identity log w image
  pub own : IsOwnAt Spells site identity image p
  pub one_of : Contains log.family v
  pub named : IsTrue (is_named (lists_of site v) p)
  pub answered : IsTrue (is_in ok p)
  pub enough : IsTrue (is_claimed (is_set site.key) (voted_of site v) (is_in ok))
  pub known : MayBeClaimed v.mark number ok w

-- the adopted version once more, under the number that was drawn
abbrev pub again : ℕ → Version → Version
again number v = record { mark = drawn number; table = v.table; changes = v.changes; is_written = false }

-- The newest version is to be written to a replica that the image has, which it names.
pub record IsSlotWrite (Spells : List ℕ → Table → Type 0) (site : Site) (identity : Identity) (log : Log) (w : Core) (old : Image) (line : SliceLine) (k : ℕ) (first : Master) (head : Head) (v : Version) (bytes : ℕ) (body : List (List ℕ)) (by_majority : Bool) (took : List Spot) : Type 0 where
  pub site_is : IsSite site
  pub world : IsWorld Spells site identity log w old
  pub own : IsOwn Spells site identity line k old first head
  pub older : List Version
  pub newest : log.family ≡ v ∷ older
  pub named : IsTrue (is_named (lists_of site v) (spot_on line first.blocks k))
  pub body_is : IsBodyOf Spells (place_on line first.blocks first.count k) v.mark bytes body v.table
  pub above : IsAbove v.mark head
  pub known : IsTaking by_majority v.mark took w

-- The newest version was taken by enough places.
pub record IsTaken (Spells : List ℕ → Table → Type 0) (site : Site) (identity : Identity) (log : Log) (w : Core) (image : Image) (v : Version) (by_majority : Bool) (took : List Spot) : Type 0 where
  pub world : IsWorld Spells site identity log w image
  pub older : List Version
  pub newest : log.family ≡ v ∷ older
  pub enough : IsTrue (is_written (record (voted_of site v) { by_majority = by_majority }) (is_in took))
  pub known : IsTaking by_majority v.mark took w

pub record AdoptionsGo : Type 0 where
  -- a boot that reads replicas of an image is one of its world's
  pub looks : (read : List ℕ → Option Table) (site : Site) (identity : Identity) (log : Log) (w : Core) (image : Image) (seen : List Seen)
      → IsWorld (Reads read) site identity log w image → AreOwn (Reads read) site identity image seen
      → Turned (Reads read) site identity log w image (IsLook (spots_seen seen)) (λ v. HaveRead (Reads read) site identity (tables_of log.family) v image seen)
  -- the newest table of these is a version of the log
  pub finds : (read : List ℕ → Option Table) (site : Site) (identity : Identity) (log : Log) (w : Core) (image : Image) (seen : List Seen) (s : Seen) (slot : Slot) (mark : Mark)
      → IsWorld (Reads read) site identity log w image → HaveRead (Reads read) site identity (tables_of log.family) w image seen → IsChosen seen s slot mark
      → IsFoundVersion (Reads read) log image s slot mark
  -- where more than half of each of its lists was read, and no stale vote for it, the boot may draw the next number for it
  pub draws : (read : List ℕ → Option Table) (site : Site) (identity : Identity) (log : Log) (w : Core) (image : Image) (seen : List Seen) (s : Seen) (slot : Slot) (v : Version)
      → IsWorld (Reads read) site identity log w image → HaveRead (Reads read) site identity (tables_of log.family) w image seen → IsChosen seen s slot v.mark → Contains log.family v
      → IsTrue (covers (is_majority (is_in (spots_seen seen))) (lists_of site v)) → (HasStaleVote site log seen v.mark → ⊥) → MayBeClaimed v.mark (greatest_seen seen + 1) [] w
  -- while a claim is written
  pub claiming : (read : List ℕ → Option Table) (site : Site) (identity : Identity) (log : Log) (w : Core) (old new : Image) (line : SliceLine) (k : ℕ) (first : Master) (head : Head) (v : Version) (number : ℕ) (ok : List Spot)
      → IsClaim (Reads read) site identity log w old line k first head v number ok → MayClaim (place_on line first.blocks first.count k) number old new
      → Turned (Reads read) site identity log w new (IsNoneOr (Claimed (spot_on line first.blocks k))) (MayBeClaimed v.mark number ok)
  -- once it is
  pub claimed : (read : List ℕ → Option Table) (site : Site) (identity : Identity) (log : Log) (w : Core) (old new : Image) (line : SliceLine) (k : ℕ) (first : Master) (head : Head) (v : Version) (number : ℕ) (ok : List Spot)
      → IsClaim (Reads read) site identity log w old line k first head v number ok → Claims (place_on line first.blocks first.count k) number old new
      → Turned (Reads read) site identity log w new (λ es. es ≡ Claimed (spot_on line first.blocks k) ∷ []) (MayBeClaimed v.mark number (spot_on line first.blocks k ∷ ok))
  -- the adopted version may be written anew, under the number
  pub may : (read : List ℕ → Option Table) (g : Geometry) (site : Site) (identity : Identity) (log : Log) (w : Core) (image : Image) (p : Spot) (v : Version) (number : ℕ) (ok : List Spot)
      → IsBeginning (Reads read) site identity log w image p v number ok → MayHappen g log (WritesLog (drawn number) None v.changes v.table)
  -- and so it begins to be
  pub begins : (read : List ℕ → Option Table) (site : Site) (identity : Identity) (log : Log) (w : Core) (image : Image) (p : Spot) (v : Version) (number : ℕ) (ok : List Spot)
      → IsBeginning (Reads read) site identity log w image p v number ok
      → Turned (Reads read) site identity (log_after log (WritesLog (drawn number) None v.changes v.table)) w image (λ es. es ≡ Slotted p LeftClosed ∷ []) (IsTaking (by_majority_of site v) (drawn number) [])
  -- while a slot takes the newest version
  pub slotting : (read : List ℕ → Option Table) (site : Site) (identity : Identity) (log : Log) (w : Core) (old new : Image) (line : SliceLine) (k : ℕ) (first : Master) (head : Head) (slot : Slot) (v : Version) (bytes : ℕ) (body : List (List ℕ)) (by_majority : Bool)
      (took : List Spot) → IsSlotWrite (Reads read) site identity log w old line k first head v bytes body by_majority took → IsSpareSlot head slot → MayFill (place_on line first.blocks first.count k) slot v.mark bytes body old new
      → Turned (Reads read) site identity log w new (IsNoneOr (Slotted (spot_on line first.blocks k) Filled)) (IsTaking by_majority v.mark took)
  -- once it has
  pub slotted : (read : List ℕ → Option Table) (site : Site) (identity : Identity) (log : Log) (w : Core) (old new : Image) (line : SliceLine) (k : ℕ) (first : Master) (head : Head) (slot : Slot) (v : Version) (bytes : ℕ) (body : List (List ℕ)) (by_majority : Bool)
      (took : List Spot) → IsSlotWrite (Reads read) site identity log w old line k first head v bytes body by_majority took → Fills (place_on line first.blocks first.count k) slot v.mark bytes body old new
      → Turned (Reads read) site identity log w new (λ es. es ≡ Slotted (spot_on line first.blocks k) Filled ∷ []) (IsTaking by_majority v.mark (spot_on line first.blocks k ∷ took))
  -- its write is answered once enough places have
  pub answered : (read : List ℕ → Option Table) (site : Site) (identity : Identity) (log : Log) (w : Core) (image : Image) (v : Version) (by_majority : Bool) (took : List Spot)
      → IsTaken (Reads read) site identity log w image v by_majority took
      → Turned (Reads read) site identity (log_after log Written) w image (λ es. es ≡ Told ∷ []) (IsReadyWith took)
