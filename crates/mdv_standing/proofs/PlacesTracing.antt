-- The same in each world, with the events of each call, while places are blanked and formatted again, and while a database is deleted.
use Rattle.std.proofs.Common.{Contains, None, ◌*◌, ◌≡◌, ◌⊎◌, ℕ, ◌+◌, ◌<◌, ◌^◌, true, List, [], refl, Option}
use Rattle.mdv_replica.specs.Images.{Wipes}
use Rattle.mdv_shelf.proofs.Everywhere.{last_image}
use Rattle.mdv_shelf.specs.Tale.{last}
use Rattle.mdv_shown.specs.Formats.{lost_beside, lost_with}
use Rattle.mdv_shown.specs.Wipes.{spots_behind, wiped_all}
use Rattle.mdv_shown.proofs.Slots.{OneTable}
use Rattle.mdv_store_law.specs.Log.{Clearing, Gone, IsLog, Placing, is_firm}
use Rattle.mdv_standing.specs.Below.{Reads, Core, Everywhere, FirstIs, Formats, Geometry, Identity, Image, IsImage, IsSite, Leaves, Log, Mark, Master, MayFormat, MayWipe, Over, Place, Seen, Site, SliceLine, Slot, Spot, Table, Tale, Version, greatest_seen, log_after, master_on, place_on, spot_on}
use Rattle.mdv_standing.specs.Forming.{IsBehind}
use Rattle.mdv_standing.specs.Laws.{ShowsNoTable}
use Rattle.mdv_standing.specs.Matching.{HasStaleVote, IsDeleted}
use Rattle.mdv_standing.specs.Others.{Anything}
use Rattle.mdv_standing.specs.Placing.{AreWipedOrNone, IsAdded, IsAdding, IsBare, IsEnding, IsIdle, IsUnlisted}
use Rattle.mdv_standing.specs.PlacesTracing.{IsAnswered, IsToAdd, IsToEnd}
use Rattle.mdv_standing.specs.Standing.{Covers}
use Rattle.mdv_standing.specs.Tracing.{Traces}
use Rattle.mdv_standing.specs.Turning.{IsBootRead}
use Rattle.mdv_standing.specs.Worlds.{IsReadyWith, IsWorld}
use Rattle.mdv_standing.proofs.Adding.{first_added, first_adding, later_added, later_adding}
use Rattle.mdv_standing.proofs.Clearing.{first_going, world_rests}
use Rattle.mdv_standing.proofs.Deleting.{ending_wiped, ending_wiping}
use Rattle.mdv_standing.proofs.Noting.{world_clearing, world_gone, world_placing}
use Rattle.mdv_standing.proofs.Over.{none_here}
use Rattle.mdv_standing.proofs.Tracing.{trace_by, trace_here}
use Rattle.mdv_standing.proofs.Unlisting.{unlisted_wiped, unlisted_wiping}

module _ (Spells : List ℕ → Table → Type 0) (site : Site) (identity : Identity) (log : Log) (t : Tale) where
  -- what the log notes
  module _ (Know : Core → Type 0) where
    pub traced_placing : (places : List Place) → Traces Spells site identity log (log_after log (Placing places)) Know (λ es. es ≡ []) Know t t
    traced_placing places =
        trace_here Spells site identity log (log_after log (Placing places)) Know (λ es. es ≡ []) Know t
        (λ w image is world known. record { events = []; are = refl; may = tt; world = world_placing Spells site identity log w image world places; known = known })

    pub traced_ends : Traces Spells site identity log (log_after log Clearing) Know (λ es. es ≡ []) Know t t
    traced_ends =
        trace_here Spells site identity log (log_after log Clearing) Know (λ es. es ≡ []) Know t
        (λ w image is world known. record { events = []; are = refl; may = tt; world = world_clearing Spells site identity log w image world; known = known })

  pub traced_gone : is_firm log ≡ true → Everywhere (ShowsNoTable Spells site identity) t → Traces Spells site identity log (log_after log Gone) Anything (λ es. es ≡ []) IsDeleted t t
  traced_gone firm none =
      trace_here Spells site identity log (log_after log Gone) Anything (λ es. es ≡ []) IsDeleted t
      (λ w image is world known. let over = world_gone Spells site identity log w image world firm (none image is) in record { events = []; are = refl; may = tt; world = over; known = over.matches.gone refl })

  module _ (m : Tale) (v : Version) (took : List Spot) (a : IsAnswered site log v took) where
    idle : (w : Core) (image : Image) → IsWorld Spells site identity log w image → IsReadyWith took w → IsIdle Spells site identity log w image v took
    idle w image world known = record { site_is = a.site_is; lines = a.lines; world = world; older = a.older; newest = a.newest; written = a.written; known = known; named = a.named }

    -- places that aren't listed are blanked
    module _ (line : SliceLine) (k : ℕ) (first : Master) (u : Everywhere (λ image. IsUnlisted site v image line k first) t) where
      pub traced_wiping : Leaves (MayWipe (place_on line first.blocks first.count k)) t m → Traces Spells site identity log log (IsReadyWith took) (AreWipedOrNone (spots_behind line first k)) (IsReadyWith took) t m
      traced_wiping leaves =
          trace_by Spells site identity (MayWipe (place_on line first.blocks first.count k)) log log (IsReadyWith took) (AreWipedOrNone (spots_behind line first k)) (IsReadyWith took) t m leaves
          (λ w old new is world known change. unlisted_wiping Spells site identity log w old new v took line k first (idle w old world known) (u old is) change)

      pub traced_wiped : Leaves (Wipes (place_on line first.blocks first.count k)) t m → Traces Spells site identity log log (IsReadyWith took) (λ es. es ≡ wiped_all (spots_behind line first k)) (IsReadyWith took) t m
      traced_wiped leaves =
          trace_by Spells site identity (Wipes (place_on line first.blocks first.count k)) log log (IsReadyWith took) (λ es. es ≡ wiped_all (spots_behind line first k)) (IsReadyWith took) t m leaves
          (λ w old new is world known wipes. unlisted_wiped Spells site identity log w old new v took line k first (idle w old world known) (u old is) wipes)

    -- places are formatted
    adding : (line : SliceLine) (blocks count k : ℕ) (olds news : List Place) → IsToAdd site identity log v t line blocks count k olds news → (w : Core) (image : Image) → IsImage t image → IsWorld Spells site identity log w image → IsReadyWith took w
        → IsAdding Spells site identity log w image v took line blocks count k olds news
    adding line blocks count k olds news to w image is world known =
        record { idle = idle w image world known; one = to.one; small = to.small; format = to.format image is; named = to.named; bare = to.bare; noted = to.noted }

    module _ (line : SliceLine) (blocks count : ℕ) (olds news : List Place) (before : Option Master) (to : IsToAdd site identity log v t line blocks count 0 olds news) (located : Everywhere (λ image. FirstIs site image line before) t) where
      pub traced_first_adding : Leaves (MayFormat (place_on line blocks count 0) (master_on site identity line blocks count 0) v.mark.boot) t m
          → Traces Spells site identity log log (IsReadyWith took) (λ es. AreWipedOrNone (lost_with line before) es ⊎ IsAdded (lost_beside line before blocks count) site olds news (spot_on line blocks 0) es) (IsReadyWith took) t m
      traced_first_adding leaves =
          trace_by Spells site identity (MayFormat (place_on line blocks count 0) (master_on site identity line blocks count 0) v.mark.boot) log log (IsReadyWith took)
          (λ es. AreWipedOrNone (lost_with line before) es ⊎ IsAdded (lost_beside line before blocks count) site olds news (spot_on line blocks 0) es) (IsReadyWith took) t m leaves
          (λ w old new is world known change. first_adding Spells site identity log w old new v took line blocks count olds news before (adding line blocks count 0 olds news to w old is world known) (located old is) change)

      pub traced_first_added : Leaves (Formats (place_on line blocks count 0) (master_on site identity line blocks count 0) v.mark.boot) t m
          → Traces Spells site identity log log (IsReadyWith took) (IsAdded (lost_beside line before blocks count) site olds news (spot_on line blocks 0)) (IsReadyWith took) t m
      traced_first_added leaves =
          trace_by Spells site identity (Formats (place_on line blocks count 0) (master_on site identity line blocks count 0) v.mark.boot) log log (IsReadyWith took)
          (IsAdded (lost_beside line before blocks count) site olds news (spot_on line blocks 0)) (IsReadyWith took) t m leaves
          (λ w old new is world known formats. first_added Spells site identity log w old new v took line blocks count olds news before (adding line blocks count 0 olds news to w old is world known) (located old is) formats)

    module _ (line : SliceLine) (k : ℕ) (first : Master) (olds news : List Place) (to : IsToAdd site identity log v t line first.blocks first.count k olds news) (behind : IsBehind Spells site t line k first) where
      pub traced_later_adding : Leaves (MayFormat (place_on line first.blocks first.count k) (master_on site identity line first.blocks first.count k) v.mark.boot) t m
          → Traces Spells site identity log log (IsReadyWith took) (λ es. AreWipedOrNone (spots_behind line first k) es ⊎ IsAdded [] site olds news (spot_on line first.blocks k) es) (IsReadyWith took) t m
      traced_later_adding leaves =
          trace_by Spells site identity (MayFormat (place_on line first.blocks first.count k) (master_on site identity line first.blocks first.count k) v.mark.boot) log log (IsReadyWith took)
          (λ es. AreWipedOrNone (spots_behind line first k) es ⊎ IsAdded [] site olds news (spot_on line first.blocks k) es) (IsReadyWith took) t m leaves
          (λ w old new is world known change. later_adding Spells site identity log w old new v took line k first olds news behind.later (adding line first.blocks first.count k olds news to w old is world known) (behind.has old is) (behind.chain old is) change)

      pub traced_later_added : Leaves (Formats (place_on line first.blocks first.count k) (master_on site identity line first.blocks first.count k) v.mark.boot) t m
          → Traces Spells site identity log log (IsReadyWith took) (IsAdded [] site olds news (spot_on line first.blocks k)) (IsReadyWith took) t m
      traced_later_added leaves =
          trace_by Spells site identity (Formats (place_on line first.blocks first.count k) (master_on site identity line first.blocks first.count k) v.mark.boot) log log (IsReadyWith took)
          (IsAdded [] site olds news (spot_on line first.blocks k)) (IsReadyWith took) t m leaves
          (λ w old new is world known formats. later_added Spells site identity log w old new v took line k first olds news behind.later (adding line first.blocks first.count k olds news to w old is world known) (behind.has old is) (behind.chain old is) formats)

    -- the master of the only place is blanked
    module _ (line : SliceLine) (first : Master) (to : IsToEnd site log v t line first) where
      ending : (w : Core) (image : Image) → IsImage t image → IsWorld Spells site identity log w image → IsReadyWith took w → IsEnding Spells site identity log w image v took line first
      ending w image is world known = record { idle = idle w image world known; place = to.place; only = to.only; spot = to.spot; has = to.has image is; fits = to.fits; ends = to.ends }

      pub traced_ending : Leaves (MayWipe (place_on line first.blocks first.count 0)) t m → Traces Spells site identity log log (IsReadyWith took) (AreWipedOrNone (spots_behind line first 0)) (λ w. IsReadyWith took w ⊎ IsDeleted w) t m
      traced_ending leaves =
          trace_by Spells site identity (MayWipe (place_on line first.blocks first.count 0)) log log (IsReadyWith took) (AreWipedOrNone (spots_behind line first 0)) (λ w. IsReadyWith took w ⊎ IsDeleted w) t m leaves
          (λ w old new is world known change. ending_wiping Spells site identity log w old new v took line first (ending w old is world known) change)

      pub traced_ended : Leaves (Wipes (place_on line first.blocks first.count 0)) t m → Traces Spells site identity log log (IsReadyWith took) (λ es. es ≡ wiped_all (spots_behind line first 0)) IsDeleted t m
      traced_ended leaves =
          trace_by Spells site identity (Wipes (place_on line first.blocks first.count 0)) log log (IsReadyWith took) (λ es. es ≡ wiped_all (spots_behind line first 0)) IsDeleted t m leaves
          (λ w old new is world known wipes. ending_wiped Spells site identity log w old new v took line first (ending w old is world known) wipes)

  -- no boot goes past reading once the log is over
  pub none_boots : (g : Geometry) (one : OneTable Spells) (seen : List Seen) (s : Seen) (slot : Slot) (mark : Mark) (table : Table) → IsSite site → IsLog g log → log.fate ≡ Over → Covers Spells site identity log t
      → IsBootRead Spells site identity t seen s slot mark table → (HasStaleVote site log seen mark → ⊥) → greatest_seen seen + 1 < 2 ^ 63 → ⊥
  none_boots g one seen s slot mark table site_is is_log over covered r fair small =
      let here = last t in
      let is = last_image t in
      let w = covered here is in
      none_here Spells site identity log g one w.0 here seen s slot mark table site_is is_log over w.1 (r.own here is) r.chosen (r.shows here is) r.quorum fair small

-- Masters of a slice are blanked on which the newest version lists no place.
module _ (read : List ℕ → Option Table) (site : Site) (identity : Identity) (log : Log) (t m : Tale) (took : List Spot) (line : SliceLine) (blocks count : ℕ) (looks : Contains site.lines line) where
  pub traced_clearing_first : (v : Version) (before : Option Master) → IsAnswered site log v took → 16 + 0 * blocks < line.at.blocks → IsBare site v line → Everywhere (λ image. FirstIs site image line before) t
      → Leaves (MayWipe (place_on line blocks count 0)) t m → Traces (Reads read) site identity log log (IsReadyWith took) (AreWipedOrNone (lost_with line before)) (IsReadyWith took) t m
  traced_clearing_first v before a within bare located leaves =
      trace_by (Reads read) site identity (MayWipe (place_on line blocks count 0)) log log (IsReadyWith took) (AreWipedOrNone (lost_with line before)) (IsReadyWith took) t m leaves
      (λ w old new is world known change. first_going read site identity log w old new v took line blocks count (idle (Reads read) site identity log t m v took a w old world known) looks within bare before (located old is) change)

  pub traced_resting : (k : ℕ) → IsSite site → 16 + k * blocks < line.at.blocks → Everywhere (λ image. FirstIs site image line None) t → Leaves (MayWipe (place_on line blocks count k)) t m
      → Traces (Reads read) site identity log log (IsReadyWith took) (λ es. es ≡ []) (IsReadyWith took) t m
  traced_resting k ok within none leaves =
      trace_by (Reads read) site identity (MayWipe (place_on line blocks count k)) log log (IsReadyWith took) (λ es. es ≡ []) (IsReadyWith took) t m leaves
      (λ w old new is world known change. record { events = []; are = refl; may = tt; world = world_rests read site identity log w old new line blocks count k ok looks within (none old is) change world; known = known })
