-- How a database's worlds and its log go on while places are blanked and formatted again, and while the database is deleted.
use Rattle.std.specs.Prelude.{◌≡◌, ◌⊎◌, ℕ, ◌+◌, ◌*◌, ◌<◌, ◌≤◌, ◌^◌, false, true, List, [], ◌∷◌, ◌++◌, Option, None, Some, Contains, IsTrue}
use Rattle.mdv_shown.specs.Formats.{lost_beside, lost_with}
use Rattle.mdv_shown.specs.Wipes.{spots_behind, wiped_all}
use Rattle.mdv_store_law.specs.Log.{Clearing, Gone, IsLog, IsRising, Placing, is_firm}
use Rattle.mdv_replica.specs.Images.{Wipes}
use Rattle.mdv_config.specs.Lists.{first_of, last_of}
use Rattle.mdv_standing.specs.Below.{Core, Ends, Event, FirstIs, Formatted, Formats, Geometry, HasFirst, HaveRead, Head, Identity, Image, IsChosen, IsFormat, IsInChain, IsSite, Log, Master, MayFormat, MayWipe, NextLists, One, Over, Place, Reads, Seen, Site, SliceLine, Slot, Spot, Table, Two, Version, covers, greatest_seen, is_in, is_majority, is_named, log_after, master_on, place_on, raised, slice_at, spot_on, spots_seen}
use Rattle.mdv_standing.specs.Laws.{ShowsNoTable}
use Rattle.mdv_standing.specs.Matching.{HasStaleVote, IsDeleted, LiesOn, lists_of, spot_floor, spot_of_place, spot_since, spots_of, tables_of}
use Rattle.mdv_standing.specs.Others.{IsLoose}
use Rattle.mdv_standing.specs.Worlds.{IsReadyWith, IsWorld, Turned}

-- each slice of the site is found by its name
abbrev pub AreNamed : Site → Type 0
AreNamed site = (line : SliceLine) → Contains site.lines line → slice_at site.lines line.name ≡ Some line.at

-- Nothing is in work, the write of the newest version was answered, and these places have it, each of which it names.
pub record IsIdle (Spells : List ℕ → Table → Type 0) (site : Site) (identity : Identity) (log : Log) (w : Core) (image : Image) (v : Version) (took : List Spot) : Type 0 where
  pub site_is : IsSite site
  pub lines : AreNamed site
  pub world : IsWorld Spells site identity log w image
  pub older : List Version
  pub newest : log.family ≡ v ∷ older
  pub written : v.is_written ≡ true
  pub known : IsReadyWith took w
  pub named : (q : Spot) → IsTrue (is_in took q) → IsTrue (is_named (lists_of site v) q)

-- The master of this number of a slice may be blanked: the newest version lists neither that place nor one behind it.
pub record IsUnlisted (site : Site) (v : Version) (image : Image) (line : SliceLine) (k : ℕ) (first : Master) : Type 0 where
  pub has : HasFirst site image line first
  pub within : 16 + k * first.blocks < line.at.blocks
  pub none : (q : Spot) → IsTrue (is_in (spots_behind line first k) q) → is_named (lists_of site v) q ≡ false

-- none of the places that the version lists lies on the slice
abbrev pub IsBare : Site → Version → SliceLine → Type 0
IsBare site v line = (q : Spot) → IsTrue (is_named (lists_of site v) q) → q.drive.0 ≡ line.at.drive.0 → line.at.start ≤ q.first → q.first < line.at.start + line.at.blocks → ⊥

-- Place number k of a slice is to be formatted, under the newest version's number, for a table that has a second list, which names it. The newest version
-- lists none on that slice, and the log knows that the place is formatted again, if it was dropped.
pub record IsAdding (Spells : List ℕ → Table → Type 0) (site : Site) (identity : Identity) (log : Log) (w : Core) (image : Image) (v : Version) (took : List Spot) (line : SliceLine) (blocks count k : ℕ) (old new : List Place) : Type 0 where
  pub idle : IsIdle Spells site identity log w image v took
  pub one : v.table.plan.lists ≡ One old
  pub small : v.mark.count + 1 < 2 ^ 63
  pub format : IsFormat site identity image line blocks count k v.mark.boot
  pub named : IsTrue (is_named (spots_of site (Two old new)) (spot_on line blocks k))
  pub bare : IsBare site v line
  pub noted : raised 0 (spot_since site log.family (spot_on line blocks k)) ≤ spot_floor site log (spot_on line blocks k)

-- The newest version lists the first place of this slice alone, and the blanking of its master began.
pub record IsEnding (Spells : List ℕ → Table → Type 0) (site : Site) (identity : Identity) (log : Log) (w : Core) (image : Image) (v : Version) (took : List Spot) (line : SliceLine) (first : Master) : Type 0 where
  pub idle : IsIdle Spells site identity log w image v took
  pub place : Place
  pub only : v.table.plan.lists ≡ One (place ∷ [])
  pub spot : spot_of_place site place ≡ spot_on line first.blocks 0
  pub has : HasFirst site image line first
  pub fits : 16 + 0 * first.blocks + first.blocks ≤ line.at.blocks
  pub ends : log.fate ≡ Ends

-- these are blanked, or none
abbrev pub AreWipedOrNone : List Spot → List Event → Type 0
AreWipedOrNone spots es = (es ≡ []) ⊎ (es ≡ wiped_all spots)

-- some are blanked, then a table is in hand with these lists, and the place is formatted for it
abbrev pub IsAdded : List Spot → Site → List Place → List Place → Spot → List Event → Type 0
IsAdded spots site old new p es = es ≡ wiped_all spots ++ (NextLists (spots_of site (Two old new)) ∷ (Formatted p ∷ []))

-- each place of its lists lies on a slice of the site
abbrev pub AllLie : Site → Version → Type 0
AllLie site v = (place : Place) → Contains (first_of v.table.plan.lists) place ⊎ Contains (last_of v.table.plan.lists) place → LiesOn site place

-- None of its places is on this slice from that number on: they lie on other slices, or in front.
abbrev pub LieInFront : Version → SliceLine → ℕ → Type 0
LieInFront v line start = (place : Place) → Contains (first_of v.table.plan.lists) place ⊎ Contains (last_of v.table.plan.lists) place → place.slice ≡ line.name → place.start < start

-- What the places that a version lists say of the spots that it names.
pub record NamesGo : Type 0 where
  pub bare : (site : Site) (v : Version) (line : SliceLine) → IsSite site → AreNamed site → AllLie site v → Contains site.lines line → LieInFront v line 0 → IsBare site v line
  pub unlisted : (site : Site) (v : Version) (image : Image) (line : SliceLine) (k : ℕ) (first : Master) → IsSite site → AreNamed site → AllLie site v → HasFirst site image line first → 16 + k * first.blocks < line.at.blocks
      → LieInFront v line (16 + k * first.blocks) → IsUnlisted site v image line k first

-- What the log notes: the world stays.
pub record NotesGo : Type 0 where
  pub placing : (read : List ℕ → Option Table) (site : Site) (identity : Identity) (log : Log) (w : Core) (image : Image) (places : List Place) → IsWorld (Reads read) site identity log w image
      → IsWorld (Reads read) site identity (log_after log (Placing places)) w image
  -- so the log knows these places, each of which lies on a slice of the site, as formatted again
  pub noted : (read : List ℕ → Option Table) (site : Site) (identity : Identity) (log : Log) (w : Core) (image : Image) (places : List Place) (line : SliceLine) (blocks count k : ℕ) → IsSite site → AreNamed site
      → IsWorld (Reads read) site identity log w image → Contains site.lines line → 16 + k * blocks + blocks ≤ line.at.blocks → 16 ≤ blocks → Contains places (place_on line blocks count k).place
      → raised 0 (spot_since site log.family (spot_on line blocks k)) ≤ spot_floor site (log_after log (Placing places)) (spot_on line blocks k)
  pub clearing : (read : List ℕ → Option Table) (site : Site) (identity : Identity) (log : Log) (w : Core) (image : Image) → IsWorld (Reads read) site identity log w image
      → IsWorld (Reads read) site identity (log_after log Clearing) w image
  -- the blanking of a firm database's last master began, and no replica shows a table: it is gone
  pub gone : (read : List ℕ → Option Table) (site : Site) (identity : Identity) (log : Log) (w : Core) (image : Image) → is_firm log ≡ true → log.fate ≡ Ends → IsWorld (Reads read) site identity log w image
      → ShowsNoTable (Reads read) site identity image → IsWorld (Reads read) site identity (log_after log Gone) w image

-- A place that the newest version doesn't list is blanked, with those behind it.
pub record UnlistedGo : Type 0 where
  -- the first master of a slice where it lists none, whatever that led to
  pub clearing : (read : List ℕ → Option Table) (site : Site) (identity : Identity) (log : Log) (w : Core) (old new : Image) (v : Version) (took : List Spot) (line : SliceLine) (blocks count : ℕ) (before : Option Master)
      → IsIdle (Reads read) site identity log w old v took → Contains site.lines line → 16 + 0 * blocks < line.at.blocks → IsBare site v line → FirstIs site old line before → MayWipe (place_on line blocks count 0) old new
      → Turned (Reads read) site identity log w new (AreWipedOrNone (lost_with line before)) (IsReadyWith took)
  -- then nothing is found there, whatever is blanked
  pub resting : (read : List ℕ → Option Table) (site : Site) (identity : Identity) (log : Log) (w : Core) (old new : Image) (line : SliceLine) (blocks count k : ℕ) → IsSite site → Contains site.lines line → 16 + k * blocks < line.at.blocks
      → FirstIs site old line None → MayWipe (place_on line blocks count k) old new → IsWorld (Reads read) site identity log w old → IsWorld (Reads read) site identity log w new
  pub wiping : (read : List ℕ → Option Table) (site : Site) (identity : Identity) (log : Log) (w : Core) (old new : Image) (v : Version) (took : List Spot) (line : SliceLine) (k : ℕ) (first : Master)
      → IsIdle (Reads read) site identity log w old v took → IsUnlisted site v old line k first → MayWipe (place_on line first.blocks first.count k) old new
      → Turned (Reads read) site identity log w new (AreWipedOrNone (spots_behind line first k)) (IsReadyWith took)
  pub wiped : (read : List ℕ → Option Table) (site : Site) (identity : Identity) (log : Log) (w : Core) (old new : Image) (v : Version) (took : List Spot) (line : SliceLine) (k : ℕ) (first : Master)
      → IsIdle (Reads read) site identity log w old v took → IsUnlisted site v old line k first → Wipes (place_on line first.blocks first.count k) old new
      → Turned (Reads read) site identity log w new (λ es. es ≡ wiped_all (spots_behind line first k)) (IsReadyWith took)

-- A place is formatted that the newest version doesn't list, for a table with a second list that names it.
pub record AddingGo : Type 0 where
  -- the first place of a slice, whatever its old first master led to
  pub first_formatting : (read : List ℕ → Option Table) (site : Site) (identity : Identity) (log : Log) (w : Core) (old new : Image) (v : Version) (took : List Spot) (line : SliceLine) (blocks count : ℕ) (olds news : List Place) (before : Option Master)
      → IsAdding (Reads read) site identity log w old v took line blocks count 0 olds news → FirstIs site old line before → MayFormat (place_on line blocks count 0) (master_on site identity line blocks count 0) v.mark.boot old new
      → Turned (Reads read) site identity log w new (λ es. AreWipedOrNone (lost_with line before) es ⊎ IsAdded (lost_beside line before blocks count) site olds news (spot_on line blocks 0) es) (IsReadyWith took)
  pub first_formatted : (read : List ℕ → Option Table) (site : Site) (identity : Identity) (log : Log) (w : Core) (old new : Image) (v : Version) (took : List Spot) (line : SliceLine) (blocks count : ℕ) (olds news : List Place) (before : Option Master)
      → IsAdding (Reads read) site identity log w old v took line blocks count 0 olds news → FirstIs site old line before → Formats (place_on line blocks count 0) (master_on site identity line blocks count 0) v.mark.boot old new
      → Turned (Reads read) site identity log w new (IsAdded (lost_beside line before blocks count) site olds news (spot_on line blocks 0)) (IsReadyWith took)
  -- a later one, behind readable ones
  pub later_formatting : (read : List ℕ → Option Table) (site : Site) (identity : Identity) (log : Log) (w : Core) (old new : Image) (v : Version) (took : List Spot) (line : SliceLine) (k : ℕ) (first : Master) (olds news : List Place)
      → 0 < k → IsAdding (Reads read) site identity log w old v took line first.blocks first.count k olds news → HasFirst site old line first
      → ((j : ℕ) → j < k → (h : Head) × IsInChain (Reads read) site line j (old line.at.drive.0) first h) → MayFormat (place_on line first.blocks first.count k) (master_on site identity line first.blocks first.count k) v.mark.boot old new
      → Turned (Reads read) site identity log w new (λ es. AreWipedOrNone (spots_behind line first k) es ⊎ IsAdded [] site olds news (spot_on line first.blocks k) es) (IsReadyWith took)
  pub later_formatted : (read : List ℕ → Option Table) (site : Site) (identity : Identity) (log : Log) (w : Core) (old new : Image) (v : Version) (took : List Spot) (line : SliceLine) (k : ℕ) (first : Master) (olds news : List Place)
      → 0 < k → IsAdding (Reads read) site identity log w old v took line first.blocks first.count k olds news → HasFirst site old line first
      → ((j : ℕ) → j < k → (h : Head) × IsInChain (Reads read) site line j (old line.at.drive.0) first h) → Formats (place_on line first.blocks first.count k) (master_on site identity line first.blocks first.count k) v.mark.boot old new
      → Turned (Reads read) site identity log w new (IsAdded [] site olds news (spot_on line first.blocks k)) (IsReadyWith took)

-- The master of a database's only place is blanked.
pub record EndingGo : Type 0 where
  pub wiping : (read : List ℕ → Option Table) (site : Site) (identity : Identity) (log : Log) (w : Core) (old new : Image) (v : Version) (took : List Spot) (line : SliceLine) (first : Master)
      → IsEnding (Reads read) site identity log w old v took line first → MayWipe (place_on line first.blocks first.count 0) old new
      → Turned (Reads read) site identity log w new (AreWipedOrNone (spots_behind line first 0)) (λ x. IsReadyWith took x ⊎ IsDeleted x)
  pub wiped : (read : List ℕ → Option Table) (site : Site) (identity : Identity) (log : Log) (w : Core) (old new : Image) (v : Version) (took : List Spot) (line : SliceLine) (first : Master)
      → IsEnding (Reads read) site identity log w old v took line first → Wipes (place_on line first.blocks first.count 0) old new
      → Turned (Reads read) site identity log w new (λ es. es ≡ wiped_all (spots_behind line first 0)) IsDeleted
  -- then no boot goes past reading, that read more than half of each list of the table that it would adopt, and no stale vote for it
  pub none : (read : List ℕ → Option Table) (g : Geometry) (site : Site) (identity : Identity) (log : Log) (w : Core) (image : Image) (seen : List Seen) (s : Seen) (slot : Slot) (v : Version)
      → IsSite site → IsLog g log → IsWorld (Reads read) site identity log w image → IsDeleted w → HaveRead (Reads read) site identity (tables_of log.family) w image seen → IsChosen seen s slot v.mark
      → Contains log.family v → IsTrue (covers (is_majority (is_in (spots_seen seen))) (lists_of site v)) → (HasStaleVote site log seen v.mark → ⊥) → greatest_seen seen + 1 < 2 ^ 63 → ⊥
  -- and what it has left doesn't count, once it is gone
  pub left : (read : List ℕ → Option Table) (site : Site) (identity : Identity) (log : Log) (w : Core) (image : Image) (v : Version) (older : List Version) (line : SliceLine) → IsWorld (Reads read) site identity log w image → log.fate ≡ Over
      → log.family ≡ v ∷ older → v.is_written ≡ true → IsRising log.family → IsLoose (Reads read) site identity log image line
