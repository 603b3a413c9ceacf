-- The same in each world, with the events of each call, while places are blanked and formatted again, and while a database is deleted.
use Rattle.std.specs.Prelude.{Contains, None, ◌≡◌, ◌⊎◌, ℕ, ◌+◌, ◌*◌, ◌<◌, ◌≤◌, ◌^◌, true, List, [], ◌∷◌, Option, IsTrue}
use Rattle.mdv_shown.specs.Formats.{lost_beside, lost_with}
use Rattle.mdv_shown.specs.Wipes.{spots_behind, wiped_all}
use Rattle.mdv_replica.specs.Images.{Wipes}
use Rattle.mdv_store_law.specs.Log.{Clearing, Gone, IsLog, Placing, is_firm}
use Rattle.mdv_standing.specs.Below.{Ends, Everywhere, FirstIs, Formats, Geometry, HasFirst, Identity, IsFormat, IsSite, Leaves, Log, Mark, Master, MayFormat, MayWipe, One, Over, Place, Reads, Seen, Site, SliceLine, Slot, Spot, Table, Tale, Two, Version, greatest_seen, is_in, is_named, log_after, master_on, place_on, raised, spot_on}
use Rattle.mdv_standing.specs.Forming.{IsBehind}
use Rattle.mdv_standing.specs.Laws.{ShowsNoTable}
use Rattle.mdv_standing.specs.Matching.{HasStaleVote, IsDeleted, lists_of, spot_floor, spot_of_place, spot_since, spots_of}
use Rattle.mdv_standing.specs.Others.{Anything}
use Rattle.mdv_standing.specs.Placing.{AreNamed, AreWipedOrNone, IsAdded, IsBare, IsUnlisted}
use Rattle.mdv_standing.specs.Standing.{Covers}
use Rattle.mdv_standing.specs.Tracing.{Traces}
use Rattle.mdv_standing.specs.Turning.{IsBootRead}
use Rattle.mdv_standing.specs.Worlds.{IsReadyWith}

-- The write of the log's newest version was answered, and it names each of these places.
pub record IsAnswered (site : Site) (log : Log) (v : Version) (took : List Spot) : Type 0 where
  pub site_is : IsSite site
  pub lines : AreNamed site
  pub older : List Version
  pub newest : log.family ≡ v ∷ older
  pub written : v.is_written ≡ true
  pub named : (q : Spot) → IsTrue (is_in took q) → IsTrue (is_named (lists_of site v) q)

-- Place number k of a slice is to be formatted, for a table with a second list that names it, whatever a crash leaves.
pub record IsToAdd (site : Site) (identity : Identity) (log : Log) (v : Version) (t : Tale) (line : SliceLine) (blocks count k : ℕ) (olds news : List Place) : Type 0 where
  pub one : v.table.plan.lists ≡ One olds
  pub small : v.mark.count + 1 < 2 ^ 63
  pub format : Everywhere (λ image. IsFormat site identity image line blocks count k v.mark.boot) t
  pub named : IsTrue (is_named (spots_of site (Two olds news)) (spot_on line blocks k))
  pub bare : IsBare site v line
  pub noted : raised 0 (spot_since site log.family (spot_on line blocks k)) ≤ spot_floor site log (spot_on line blocks k)

-- The newest version lists the first place of this slice alone, and the blanking of its master began.
pub record IsToEnd (site : Site) (log : Log) (v : Version) (t : Tale) (line : SliceLine) (first : Master) : Type 0 where
  pub place : Place
  pub only : v.table.plan.lists ≡ One (place ∷ [])
  pub spot : spot_of_place site place ≡ spot_on line first.blocks 0
  pub has : Everywhere (λ image. HasFirst site image line first) t
  pub fits : 16 + 0 * first.blocks + first.blocks ≤ line.at.blocks
  pub ends : log.fate ≡ Ends

-- what the log notes
pub record NotesTrace : Type 0 where
  pub placing : (read : List ℕ → Option Table) (site : Site) (identity : Identity) (log : Log) (t : Tale) (places : List Place) (took : List Spot)
      → Traces (Reads read) site identity log (log_after log (Placing places)) (IsReadyWith took) (λ es. es ≡ []) (IsReadyWith took) t t
  pub clearing : (read : List ℕ → Option Table) (site : Site) (identity : Identity) (log : Log) (t : Tale) (took : List Spot)
      → Traces (Reads read) site identity log (log_after log Clearing) (IsReadyWith took) (λ es. es ≡ []) (IsReadyWith took) t t
  pub gone : (read : List ℕ → Option Table) (site : Site) (identity : Identity) (log : Log) (t : Tale) → is_firm log ≡ true → log.fate ≡ Ends → Everywhere (ShowsNoTable (Reads read) site identity) t
      → Traces (Reads read) site identity log (log_after log Gone) Anything (λ es. es ≡ []) IsDeleted t t

-- places that the newest version doesn't list are blanked
pub record UnlistedTrace : Type 0 where
  pub clearing : (read : List ℕ → Option Table) (site : Site) (identity : Identity) (log : Log) (t m : Tale) (v : Version) (took : List Spot) (line : SliceLine) (blocks count : ℕ) (before : Option Master)
      → IsAnswered site log v took → Contains site.lines line → 16 + 0 * blocks < line.at.blocks → IsBare site v line → Everywhere (λ image. FirstIs site image line before) t → Leaves (MayWipe (place_on line blocks count 0)) t m
      → Traces (Reads read) site identity log log (IsReadyWith took) (AreWipedOrNone (lost_with line before)) (IsReadyWith took) t m
  pub resting : (read : List ℕ → Option Table) (site : Site) (identity : Identity) (log : Log) (t m : Tale) (took : List Spot) (line : SliceLine) (blocks count k : ℕ) → IsSite site → Contains site.lines line → 16 + k * blocks < line.at.blocks
      → Everywhere (λ image. FirstIs site image line None) t → Leaves (MayWipe (place_on line blocks count k)) t m
      → Traces (Reads read) site identity log log (IsReadyWith took) (λ es. es ≡ []) (IsReadyWith took) t m
  pub wiping : (read : List ℕ → Option Table) (site : Site) (identity : Identity) (log : Log) (t m : Tale) (v : Version) (took : List Spot) (line : SliceLine) (k : ℕ) (first : Master)
      → IsAnswered site log v took → Everywhere (λ image. IsUnlisted site v image line k first) t → Leaves (MayWipe (place_on line first.blocks first.count k)) t m
      → Traces (Reads read) site identity log log (IsReadyWith took) (AreWipedOrNone (spots_behind line first k)) (IsReadyWith took) t m
  pub wiped : (read : List ℕ → Option Table) (site : Site) (identity : Identity) (log : Log) (t m : Tale) (v : Version) (took : List Spot) (line : SliceLine) (k : ℕ) (first : Master)
      → IsAnswered site log v took → Everywhere (λ image. IsUnlisted site v image line k first) t → Leaves (Wipes (place_on line first.blocks first.count k)) t m
      → Traces (Reads read) site identity log log (IsReadyWith took) (λ es. es ≡ wiped_all (spots_behind line first k)) (IsReadyWith took) t m

-- places are formatted for a second list
pub record AddingTrace : Type 0 where
  pub first_formatting : (read : List ℕ → Option Table) (site : Site) (identity : Identity) (log : Log) (t m : Tale) (v : Version) (took : List Spot) (line : SliceLine) (blocks count : ℕ) (olds news : List Place) (before : Option Master)
      → IsAnswered site log v took → IsToAdd site identity log v t line blocks count 0 olds news → Everywhere (λ image. FirstIs site image line before) t
      → Leaves (MayFormat (place_on line blocks count 0) (master_on site identity line blocks count 0) v.mark.boot) t m
      → Traces (Reads read) site identity log log (IsReadyWith took) (λ es. AreWipedOrNone (lost_with line before) es ⊎ IsAdded (lost_beside line before blocks count) site olds news (spot_on line blocks 0) es) (IsReadyWith took) t m
  pub first_formatted : (read : List ℕ → Option Table) (site : Site) (identity : Identity) (log : Log) (t m : Tale) (v : Version) (took : List Spot) (line : SliceLine) (blocks count : ℕ) (olds news : List Place) (before : Option Master)
      → IsAnswered site log v took → IsToAdd site identity log v t line blocks count 0 olds news → Everywhere (λ image. FirstIs site image line before) t
      → Leaves (Formats (place_on line blocks count 0) (master_on site identity line blocks count 0) v.mark.boot) t m
      → Traces (Reads read) site identity log log (IsReadyWith took) (IsAdded (lost_beside line before blocks count) site olds news (spot_on line blocks 0)) (IsReadyWith took) t m
  pub later_formatting : (read : List ℕ → Option Table) (site : Site) (identity : Identity) (log : Log) (t m : Tale) (v : Version) (took : List Spot) (line : SliceLine) (k : ℕ) (first : Master) (olds news : List Place)
      → IsAnswered site log v took → IsToAdd site identity log v t line first.blocks first.count k olds news → IsBehind (Reads read) site t line k first
      → Leaves (MayFormat (place_on line first.blocks first.count k) (master_on site identity line first.blocks first.count k) v.mark.boot) t m
      → Traces (Reads read) site identity log log (IsReadyWith took) (λ es. AreWipedOrNone (spots_behind line first k) es ⊎ IsAdded [] site olds news (spot_on line first.blocks k) es) (IsReadyWith took) t m
  pub later_formatted : (read : List ℕ → Option Table) (site : Site) (identity : Identity) (log : Log) (t m : Tale) (v : Version) (took : List Spot) (line : SliceLine) (k : ℕ) (first : Master) (olds news : List Place)
      → IsAnswered site log v took → IsToAdd site identity log v t line first.blocks first.count k olds news → IsBehind (Reads read) site t line k first
      → Leaves (Formats (place_on line first.blocks first.count k) (master_on site identity line first.blocks first.count k) v.mark.boot) t m
      → Traces (Reads read) site identity log log (IsReadyWith took) (IsAdded [] site olds news (spot_on line first.blocks k)) (IsReadyWith took) t m

-- the master of the only place is blanked
pub record EndingTrace : Type 0 where
  pub wiping : (read : List ℕ → Option Table) (site : Site) (identity : Identity) (log : Log) (t m : Tale) (v : Version) (took : List Spot) (line : SliceLine) (first : Master)
      → IsAnswered site log v took → IsToEnd site log v t line first → Leaves (MayWipe (place_on line first.blocks first.count 0)) t m
      → Traces (Reads read) site identity log log (IsReadyWith took) (AreWipedOrNone (spots_behind line first 0)) (λ w. IsReadyWith took w ⊎ IsDeleted w) t m
  pub wiped : (read : List ℕ → Option Table) (site : Site) (identity : Identity) (log : Log) (t m : Tale) (v : Version) (took : List Spot) (line : SliceLine) (first : Master)
      → IsAnswered site log v took → IsToEnd site log v t line first → Leaves (Wipes (place_on line first.blocks first.count 0)) t m
      → Traces (Reads read) site identity log log (IsReadyWith took) (λ es. es ≡ wiped_all (spots_behind line first 0)) IsDeleted t m
  -- then no boot reads more than half of each list of the table that it would adopt, and no stale vote for it
  pub none : (read : List ℕ → Option Table) (g : Geometry) (site : Site) (identity : Identity) (log : Log) (t : Tale) (seen : List Seen) (s : Seen) (slot : Slot) (mark : Mark) (table : Table)
      → IsSite site → IsLog g log → log.fate ≡ Over → Covers (Reads read) site identity log t → IsBootRead (Reads read) site identity t seen s slot mark table → (HasStaleVote site log seen mark → ⊥) → greatest_seen seen + 1 < 2 ^ 63 → ⊥
