-- What a world of the votes has to do with the log of its database.
use Rattle.std.specs.Prelude.{◌≡◌, ◌<◌, ◌≤◌, ◌+◌, ◌&&◌, ℕ, Bool, true, false, cond, max, List, [], ◌∷◌, length, map, reverse, slice_index_or, Option, None, Some, Contains, IsTrue}
use Rattle.std.specs.List.{filter_map}
use Rattle.mdv_config.specs.Lists.{places_of}
use Rattle.mdv_plan.specs.Table.{empty_table}
use Rattle.mdv_standing.specs.Below.{Key, Local, Mark, Set, Place, Seen, SliceAt, SliceLine, slice_at, Site, Core, MayAll, after_all, start, Event, Log, Again, Lives, Over, Version, Change, Lists, One, Two, Table, FamilyTable, Spot, SpotLists, Since, Never, Listed, Dropped, is_in, is_named, is_none, last_list, no_table, place_at, same_spot, shows, since_after, spot_seen, table_at}

abbrev pub is_set : Key → Bool
is_set (Local host) = false
is_set (Set name) = true

-- what stands where a log has no version
abbrev pub no_version : Version
no_version = record { mark = record { boot = 0; count = 0 }; table = empty_table []; changes = []; is_written = false }

-- the version of this number: the oldest one has number 0
abbrev pub version_at : List Version → ℕ → Version
version_at family i = slice_index_or (reverse family) i no_version

abbrev pub tables_of : List Version → ℕ → Table
tables_of family i = (version_at family i).table

-- Where a place lies, by the slices of the site. No replica is found at a place of another slice.
abbrev pub spot_in : Option SliceAt → Place → Spot
spot_in None place = record { drive = record { 0 = 0 }; first = 0; mediator = false }
spot_in (Some at) place = record { drive = at.drive; first = at.start + place.start; mediator = false }

abbrev pub spot_of_place : Site → Place → Spot
spot_of_place site place = spot_in (slice_at site.lines place.slice) place

abbrev pub spots_in : Site → List Place → List Spot
spots_in site places = map (λ (place : Place). spot_in (slice_at site.lines place.slice) place) places

-- while places change the old list is the first one, and the one that comes the second
abbrev pub spots_of : Site → Lists → SpotLists
spots_of site (One places) = record { first = spots_in site places; second = None; mediators = [] }
spots_of site (Two old new) = record { first = spots_in site old; second = Some (spots_in site new); mediators = [] }

abbrev pub lists_of : Site → Version → SpotLists
lists_of site v = spots_of site v.table.plan.lists

-- of a set's table without mediators half of a list never suffices
abbrev pub by_majority_on : Site → Table → Bool
by_majority_on site table = is_set site.key && is_none (spots_of site table.plan.lists).mediators

abbrev pub by_majority_of : Site → Version → Bool
by_majority_of site v = by_majority_on site v.table

-- a table as the votes count it where a boot writes it
abbrev pub voted_table : Site → Table → FamilyTable
voted_table site table = record no_table { lists = spots_of site table.plan.lists; by_majority = by_majority_on site table }

abbrev pub voted_of : Site → Version → FamilyTable
voted_of site v = voted_table site v.table

-- the place lies on a slice of the site, behind the blocks in front of the first place
pub record LiesOn (site : Site) (place : Place) : Type 0 where
  pub line : SliceLine
  pub one_of : Contains site.lines line
  pub slice : place.slice ≡ line.name
  pub from : 16 ≤ place.start
  pub long : 16 ≤ place.blocks
  pub to : place.start + place.blocks ≤ line.at.blocks

-- The family's table is this version of the log. `book` says which change a number of the plan stands for: none for the creation's.
pub record IsVersionAt (site : Site) (book : ℕ → Option Change) (limit : ℕ) (t : FamilyTable) (v : Version) : Type 0 where
  pub mark : t.mark ≡ v.mark
  pub lists : t.lists ≡ lists_of site v
  pub some : is_none t.lists.first ≡ false
  pub changes : v.changes ≡ reverse (filter_map book t.plan)
  pub numbered : (c : ℕ) → Contains t.plan c → c < limit
  pub lie : (place : Place) → Contains (places_of v.table.plan.lists) place → LiesOn site place

-- Where a place stands by what the log has answered, as the votes know places: never listed, listed, or dropped by the version of that number.
abbrev pub spot_since : Site → List Version → Spot → Since
spot_since site [] p = Never
spot_since site (v ∷ older) p = cond v.is_written (since_after (length older) (is_in (last_list (lists_of site v)) p) (spot_since site older p)) (spot_since site older p)

-- a place that stands so wasn't dropped before the version of that number, which the votes know to have dropped it
abbrev pub IsNotBehind : Since → ℕ → Type 0
IsNotBehind Never i = ⊥
IsNotBehind Listed i = Unit {0}
IsNotBehind (Dropped j) i = i ≤ j

-- A place that was formatted again has a floor: the greatest number of a version that had dropped it.
abbrev pub floor_among : Site → List Again → Spot → ℕ
floor_among site [] p = 0
floor_among site (a ∷ again) p = cond (same_spot (spot_of_place site a.place) p) (max a.number (floor_among site again p)) (floor_among site again p)

abbrev pub spot_floor : Site → Log → Spot → ℕ
spot_floor site log p = floor_among site log.again p

-- Some table that was firm doesn't have the place in its last list; where the log has answered that, it has dropped the place no earlier.
pub record IsDroppedBy (site : Site) (log : Log) (p : Spot) (i : ℕ) : Type 0 where
  pub known : i < length log.family
  pub lacks : is_in (last_list (lists_of site (version_at log.family i))) p ≡ false
  pub by : IsNotBehind (spot_since site log.family p) i

-- A list changes only from an answered version: as long as that of the firm table wasn't, the versions behind it have its last list.
abbrev pub IsSteady : Site → Log → Core → Type 0
IsSteady site log w =
    (f k : ℕ) → w.firm ≡ Some f → f ≤ k → k < length w.family → (version_at log.family f).is_written ≡ false
    → last_list (lists_of site (version_at log.family k)) ≡ last_list (lists_of site (version_at log.family f))

-- the database's only replica was blanked
abbrev pub IsDeleted : Core → Type 0
IsDeleted w = (p : Spot) × (w.deleted ≡ Some p)

-- The world is one of this log: it has the same tables, and the firm one isn't below any whose write was answered. A place that was formatted
-- again has no greater floor than the log knows. As long as the log lives the database is there, and once the log is over it isn't.
pub record Matches (site : Site) (log : Log) (w : Core) : Type 0 where
  pub kind : w.set ≡ is_set site.key
  pub book : ℕ → Option Change
  pub as_many : length w.family ≡ length log.family
  pub each : (i : ℕ) → i < length w.family → IsVersionAt site book w.changes (table_at w.family i) (version_at log.family i)
  pub answered : (i : ℕ) → i < length w.family → (version_at log.family i).is_written ≡ true → (f : ℕ) × (w.firm ≡ Some f) × (i ≤ f)
  pub dropped : (p : Spot) (i : ℕ) → (place_at w.places p).since ≡ Dropped i → IsDroppedBy site log p i
  pub steady : IsSteady site log w
  pub reused : (p : Spot) → (place_at w.places p).floor ≤ spot_floor site log p
  pub there : log.fate ≡ Lives → w.deleted ≡ None
  pub gone : log.fate ≡ Over → IsDeleted w

-- What a boot read has a stale vote for the version with this mark: a replica that shows no table, at a place that this version names and that was
-- formatted again since a later version dropped it.
pub record HasStaleVote (site : Site) (log : Log) (seen : List Seen) (mark : Mark) : Type 0 where
  pub version : ℕ
  pub marked : (version_at log.family version).mark ≡ mark
  pub replica : Seen
  pub one_of : Contains seen replica
  pub named : IsTrue (is_named (lists_of site (version_at log.family version)) (spot_seen replica))
  pub empty : shows replica.head ≡ false
  pub later : version < spot_floor site log (spot_seen replica)

-- events lead to it, each of which may happen where it happens
abbrev pub Reached : Site → Core → Type 0
Reached site w = (es : List Event) × MayAll (start (is_set site.key)) es × (after_all (start (is_set site.key)) es ≡ w)
