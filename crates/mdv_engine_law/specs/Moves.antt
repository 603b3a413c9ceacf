-- What a change of the places of an open database comes to.
use Rattle.std.specs.Prelude.{◌≡◌, ◌⊎◌, ◌+◌, ◌≤◌, ◌^◌, ℕ, Bool, true, false, if◌then◌else◌, [], ◌∷◌, List, filter_map, take, Contains, None, Some}
use Rattle.mdv_name.specs.SliceIndex.{slice_at}
use Rattle.mdv_places.specs.Asked.{Adds, Asks, Drops, KeepsFirst, seats_added}
use Rattle.mdv_places.specs.Changing.{drives_moved}
use Rattle.mdv_places.specs.Moments.{area_moved, found_at, places_dropped}
use Rattle.mdv_places.specs.Outcomes.{IsLostBoth, IsLostLast, IsMoved, IsUnmoved}
use Rattle.mdv_replica.specs.Forms.{block_of}
use Rattle.mdv_shelf.specs.Failing.{AreCalm, Outcomes}
use Rattle.mdv_store.specs.Commit.{next_mark}
use Rattle.mdv_survey.specs.declared.replica.Replica.{Replica}
use Rattle.mdv_engine_law.specs.Below.{Geometry, Head, Identity, Image, IsOwn, Key, Opened, Place, PlaceAt, Seat, SliceLine, SliceName, Spells, replicas_of, site_of}
use Rattle.mdv_engine_law.specs.declared.host.Host.{Host}
use Rattle.mdv_engine_law.specs.Hosts.{places_area}
use Rattle.mdv_engine_law.specs.Line.{AreCalmBeside, IsOpenOn, IsSameBeside, Kept, Stays}
use Rattle.mdv_engine_law.specs.Places.{are_all, list_of}

-- no places on these slices any more: where all go, the first one alone is left before
abbrev pub drop_of : Opened → List SliceName → Asks
drop_of o slices = if are_all o slices then KeepsFirst else Drops slices

-- where the places lie by the table of drives
abbrev pub places_under : Geometry → List Place → List PlaceAt
places_under g places = filter_map (λ (p : Place). found_at p (slice_at g.slices p.slice)) places

-- each of these has a replica of the database
abbrev pub AreTheirsOn : Geometry → Key → Identity → List Seat → Image → Type 0
AreTheirsOn g key identity seats content = (r : Replica) → Contains (replicas_of seats) r → (head : Head) × IsOwn (Spells g) (site_of g key) identity r.line r.number content r.first head

-- the place's master reads as zeros
abbrev pub IsBlankOn : PlaceAt → Image → Type 0
IsBlankOn a content = content a.drive.0 a.first ≡ block_of []

-- The masters of the dropped places read as zeros: all where no wipe failed, and else those on drives on which no call did.
pub record AreWipedOn (calls : Outcomes) (g : Geometry) (o : Opened) (asked : Asks) (clean : Bool) (content : Image) : Type 0 where
  pub all : clean ≡ true → (a : PlaceAt) → Contains (places_dropped g o asked) a → IsBlankOn a content
  pub each : (a : PlaceAt) → Contains (places_dropped g o asked) a → ((calls a.drive.0).some → ⊥) → IsBlankOn a content

-- The places changed: the new list is the only one, at least half of its places took the table, and memory has it; each of these has it, and each that was added has a replica of the database; what was dropped is wiped, `clean` where
-- no call failed on its drives; and each block outside the active places, those added and the masters of those dropped is as it was.
pub record IsMovedOn (calls : Outcomes) (host : Host) (o : Opened) (asked : Asks) (clean : Bool) (kept next : Kept) : Type 0 where
  pub opened : Opened
  pub moved : IsMoved calls host.drives o asked opened clean
  pub calm : AreCalmBeside (drives_moved host.drives o asked) calls
  pub memory : next.memory ≡ record kept.memory { opened = Some opened }
  pub content : IsOpenOn host.drives opened next.content
  pub formed : AreTheirsOn host.drives o.key o.identity (seats_added o asked) next.content
  pub wiped : AreWipedOn calls host.drives o asked clean next.content
  pub beside : IsSameBeside (area_moved host.drives o asked) kept.content next.content

-- whether the wipes failed or not
abbrev pub HasMovedOn : Outcomes → Host → Opened → Asks → Kept → Kept → Type 0
HasMovedOn calls host o asked kept next = (clean : Bool) × IsMovedOn calls host o asked clean kept next

-- A call failed as places were formatted: the database is open as it was, and each block outside the places asked is as it was.
pub record IsUnmovedOn (calls : Outcomes) (host : Host) (o : Opened) (lines : List SliceLine) (count blocks : ℕ) (kept next : Kept) : Type 0 where
  pub unmoved : IsUnmoved calls host.drives o (Adds lines count blocks)
  pub memory : next.memory ≡ kept.memory
  pub content : IsOpenOn host.drives o next.content
  pub beside : IsSameBeside (places_area lines count blocks) kept.content next.content

-- The database is gone: no call failed, its first place alone was left before, none is open, and the master of each place that it had reads as zeros; each block outside its active places and those masters is as it was.
-- Memory stays as clean as it was.
pub record IsDeletedOn (calls : Outcomes) (host : Host) (o : Opened) (kept next : Kept) : Type 0 where
  pub calm : AreCalm calls
  pub memory : next.memory ≡ record kept.memory { opened = None }
  pub left : (one : Opened) × IsMoved calls host.drives o KeepsFirst one true
  pub wiped : (a : PlaceAt) → Contains (places_under host.drives (list_of o)) a → IsBlankOn a next.content
  pub beside : IsSameBeside (area_moved host.drives o KeepsFirst) kept.content next.content

-- The first place alone was left, all others were wiped, and the blanking of its master failed: none is open, nor may one be made till a boot finds what is there; no call failed on another drive.
pub record IsUnblankedOn (calls : Outcomes) (host : Host) (o : Opened) (kept next : Kept) : Type 0 where
  pub first : PlaceAt
  pub is : places_under host.drives (take 1 (list_of o)) ≡ first ∷ []
  pub failed : (calls first.drive.0).some
  pub calm : AreCalmBeside (first.drive ∷ []) calls
  pub memory : next.memory ≡ record kept.memory { opened = None; clean = false }
  pub wiped : (a : PlaceAt) → Contains (places_dropped host.drives o KeepsFirst) a → IsBlankOn a next.content
  pub beside : IsSameBeside (area_moved host.drives o KeepsFirst) kept.content next.content

-- A deletion of all places that isn't done: a wipe failed, and the first place alone is left and open; or the blanking of its master did.
abbrev pub IsUndeletedOn : Outcomes → Host → Opened → Kept → Kept → Type 0
IsUndeletedOn calls host o kept next = IsMovedOn calls host o KeepsFirst false kept next ⊎ IsUnblankedOn calls host o kept next

-- of a list, the first one of which that is so, fewer than half took the table with both lists, or that with the new one alone; no call failed beside the drives of the change
pub record IsLostChange (calls : Outcomes) (g : Geometry) (o : Opened) (asked : Asks) (active listed : ℕ) : Type 0 where
  pub new : Opened
  pub calm : AreCalmBeside (drives_moved g o asked) calls
  pub lost : IsLostBoth calls g o asked new (record { active = active; listed = listed }) ⊎ IsLostLast calls g o asked new (record { active = active; listed = listed })

-- and those that took it have it, and each that was added has a replica of the database; each block outside the active places, those added and the masters of those dropped is as it was
pub record LeavesLists (calls : Outcomes) (host : Host) (o : Opened) (asked : Asks) (active listed : ℕ) (kept next : Kept) : Type 0 where
  pub lost : IsLostChange calls host.drives o asked active listed
  pub left : IsOpenOn host.drives (record lost.new { mark = next_mark lost.new.mark }) next.content
  pub formed : AreTheirsOn host.drives o.key o.identity (seats_added o asked) next.content
  pub beside : IsSameBeside (area_moved host.drives o asked) kept.content next.content

-- the count of the second mark would reach its limit, and nothing was done
pub record IsSpentChange (calls : Outcomes) (o : Opened) (kept next : Kept) : Type 0 where
  pub calm : AreCalm calls
  pub spent : 2 ^ 63 ≤ o.mark.count + 2
  pub stays : Stays kept next
