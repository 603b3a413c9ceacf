-- Which worlds an image shows, what is known of them, and how they go on.
use Rattle.std.specs.Prelude.{◌≡◌, ◌⊎◌, ◌&&◌, ℕ, ◌+◌, ◌<◌, Bool, List, [], ◌∷◌, length, Option, None, Some, IsTrue}
use Rattle.mdv_standing.specs.Below.{is_fair, Identity, Mark, Site, Image, Core, Reading, Claiming, Writing, Ready, MayAll, after_all, last_table, last_number, Event, Log, Table, FamilyTable, Spot, Shows, IsWithin, is_in, is_none, is_read, greatest_of, knows_above, newest_of, table_at}
use Rattle.mdv_standing.specs.Listed.{HoldsNewest, HavePlaces, IsShut}
use Rattle.mdv_standing.specs.Matching.{Matches, Reached, tables_of}

-- Events led to the world, it is one of the log, and the image shows it; and the image has each place of the tables that a boot may find, or no boot goes
-- past reading.
pub record IsWorld (Spells : List ℕ → Table → Type 0) (site : Site) (identity : Identity) (log : Log) (w : Core) (image : Image) : Type 0 where
  pub reached : Reached site w
  pub matches : Matches site log w
  pub shows : Shows Spells site identity (tables_of log.family) w image
  pub listed : HavePlaces Spells site identity log image ⊎ IsShut w

-- The world goes on by such events to one of that log which the new image shows, and of which this is known.
pub record Turned (Spells : List ℕ → Table → Type 0) (site : Site) (identity : Identity) (log : Log) (w : Core) (new : Image) (Are : List Event → Type 0) (Known : Core → Type 0) : Type 0 where
  pub events : List Event
  pub are : Are events
  pub may : MayAll w events
  pub world : IsWorld Spells site identity log (after_all w events) new
  pub known : Known (after_all w events)

-- this event, or none
abbrev pub IsNoneOr : Event → List Event → Type 0
IsNoneOr e es = (es ≡ []) ⊎ (es ≡ e ∷ [])

-- A boot read these places, and will adopt the table with this mark, under this number.
pub record WillAdopt (mark : Mark) (number : ℕ) (w : Core) : Type 0 where
  pub read : List Spot
  pub stage : w.stage ≡ Reading read
  pub table : ℕ
  pub known : table < length w.family
  pub voted : newest_of w.family w.places None read ≡ Some table
  pub place : Spot
  pub shown : HoldsNewest w place table
  pub marked : (table_at w.family table).mark ≡ mark
  pub quorum : IsTrue (is_read (table_at w.family table) (is_in read) (knows_above w.family w.places (table_at w.family table)))
  pub drawn : greatest_of w.family w.places 0 read + 1 ≡ number
  pub fair : IsTrue (is_fair w table read)

-- It has claimed this number, at these places and maybe at more.
pub record HasClaimed (mark : Mark) (number : ℕ) (ok : List Spot) (w : Core) : Type 0 where
  pub table : ℕ
  pub next : FamilyTable
  pub claimed : List Spot
  pub stage : w.stage ≡ Claiming table next claimed
  pub known : table < length w.family
  pub marked : (table_at w.family table).mark ≡ mark
  pub drawn : next.mark ≡ record { boot = number; count = 0 }
  pub lists : next.lists ≡ (table_at w.family table).lists
  pub kind : next.by_majority ≡ (w.set && is_none next.lists.mediators)
  pub within : IsWithin (is_in ok) (is_in claimed)

-- claims were answered at these places: as long as at none, the boot may not have claimed yet
pub data MayBeClaimed (mark : Mark) (number : ℕ) (ok : List Spot) (w : Core) : Type 0 where
  not_yet : ok ≡ [] → WillAdopt mark number w → MayBeClaimed mark number ok w
  claimed : HasClaimed mark number ok w → MayBeClaimed mark number ok w

-- the place holds a replica, whose newest table is the last one
abbrev pub HasLast : Core → Spot → Type 0
HasLast w p = HoldsNewest w p (last_number w)

-- The last table is being written, under this mark. These places took it, and maybe more did.
pub record IsTaking (by_majority : Bool) (mark : Mark) (took : List Spot) (w : Core) : Type 0 where
  pub boot : Option ℕ
  pub all : List Spot
  pub stage : w.stage ≡ Writing boot all
  pub marked : (last_table w).mark ≡ mark
  pub kind : (last_table w).by_majority ≡ by_majority
  pub within : IsWithin (is_in took) (is_in all)
  pub taken : (p : Spot) → IsTrue (is_in took p) → HasLast w p

-- nothing is in work but maybe a table of which nothing was written, and these places have the last table
pub record IsReadyWith (took : List Spot) (w : Core) : Type 0 where
  pub in_hand : Option FamilyTable
  pub stage : w.stage ≡ Ready in_hand
  pub taken : (p : Spot) → IsTrue (is_in took p) → HasLast w p
