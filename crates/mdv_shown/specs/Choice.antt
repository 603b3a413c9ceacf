-- What a boot chooses of the replicas that it read, and that it is what the votes choose.
use Rattle.std.specs.Prelude.{◌≡◌, ◌↔◌, ℕ, ◌+◌, ◌<◌, ◌^◌, max, false, List, [], ◌∷◌, map, Option, None, Some, Contains, IsTrue}
use Rattle.mdv_shown.specs.Below.{IsBelow, Identity, Mark, SliceLine, Master, Head, Slot, Open, gate_of, greatest, shows, Image, Core, Reading, IsFamily, covers, greatest_of, is_in, is_majority, is_named, newest_of, place_at, table_at, Spot}
use Rattle.mdv_quorum.specs.May.{is_fair}
use Rattle.mdv_shown.specs.Site.{Site, place_on, spot_on}
use Rattle.mdv_shown.specs.Found.{IsOwn}
use Rattle.mdv_shown.specs.Shown.{SlotShows, Shows}
use Rattle.mdv_shown.specs.Laws.{Reads}
use Rattle.mdv_shown.specs.Worlds.{IsClaimable}

-- a replica that a boot read: its number on a slice with this first master, and its head
pub record Seen : Type 0 where
  pub line : SliceLine
  pub number : ℕ
  pub first : Master
  pub head : Head

abbrev pub spot_seen : Seen → Spot
spot_seen s = spot_on s.line s.first.blocks s.number

abbrev pub spots_seen : List Seen → List Spot
spots_seen seen = map spot_seen seen

-- The image shows the world; each of these is found in it, as a replica of the database; and the boot in work read them, in this order.
pub record HaveRead {Table : Type 0} (Spells : List ℕ → Table → Type 0) (site : Site) (identity : Identity) (tables : ℕ → Table) (w : Core) (image : Image) (seen : List Seen) : Type 0 where
  pub shows : Shows Spells site identity tables w image
  pub family : IsFamily w
  pub own : (s : Seen) → Contains seen s → IsOwn Spells site identity s.line s.number image s.first s.head
  pub stage : w.stage ≡ Reading (spots_seen seen)

-- of all marks that they have, none is greater than this slot's
pub record IsChosen (seen : List Seen) (s : Seen) (slot : Slot) (mark : Mark) : Type 0 where
  pub one_of : Contains seen s
  pub bytes : ℕ
  pub gate : gate_of s.head slot ≡ Open mark bytes
  pub greatest : (o : Seen) (other : Slot) (m : Mark) (n : ℕ) → Contains seen o → gate_of o.head other ≡ Open m n → IsBelow mark m → ⊥

-- none of them shows a table
abbrev pub ShowNone : List Seen → Type 0
ShowNone seen = (s : Seen) → Contains seen s → shows s.head ≡ false

-- the greatest claim or boot number that they have
abbrev pub greatest_seen : List Seen → ℕ
greatest_seen [] = 0
greatest_seen (s ∷ seen) = max (greatest s.head) (greatest_seen seen)

-- the newest table of that replica is the votes' choice, and the slot shows it
pub record IsVoted {Table : Type 0} (Spells : List ℕ → Table → Type 0) (tables : ℕ → Table) (w : Core) (image : Image) (seen : List Seen) (s : Seen) (slot : Slot) (mark : Mark) : Type 0 where
  pub number : ℕ
  pub newest : (place_at w.places (spot_seen s)).newest ≡ Some number
  pub voted : newest_of w.family w.places None (spots_seen seen) ≡ Some number
  pub marked : (table_at w.family number).mark ≡ mark
  pub shows : SlotShows Spells (place_on s.line s.first.blocks s.first.count s.number) (image s.line.at.drive.0) s.head slot mark (tables number)

-- one of them has the greatest mark, and its newest table is this one
pub record HasChosen (w : Core) (seen : List Seen) (number : ℕ) : Type 0 where
  pub replica : Seen
  pub slot : Slot
  pub mark : Mark
  pub chosen : IsChosen seen replica slot mark
  pub newest : (place_at w.places (spot_seen replica)).newest ≡ Some number

-- what was read is more than half of each of a table's lists, which name the place, and has no stale vote for it; the next number is in its limit
pub record MayAdopt (w : Core) (seen : List Seen) (number : ℕ) (s : Seen) : Type 0 where
  pub read : IsTrue (covers (is_majority (is_in (spots_seen seen))) (table_at w.family number).lists)
  pub one_of : Contains seen s
  pub named : IsTrue (is_named (table_at w.family number).lists (spot_seen s))
  pub fair : IsTrue (is_fair w number (spots_seen seen))
  pub small : greatest_seen seen + 1 < 2 ^ 63

-- What the marks say is what the votes say.
pub record BootsChoose (T : Type 0) : Type 0 where
  -- the replica with the greatest mark shows the table that is voted
  pub chosen : (read : List ℕ → Option T) (site : Site) (identity : Identity) (tables : ℕ → T) (w : Core) (image : Image) (seen : List Seen) (s : Seen) (slot : Slot) (mark : Mark)
      → HaveRead (Reads read) site identity tables w image seen → IsChosen seen s slot mark → IsVoted (Reads read) tables w image seen s slot mark
  -- a table that is voted is that of a replica with the greatest mark
  pub voted : (read : List ℕ → Option T) (site : Site) (identity : Identity) (tables : ℕ → T) (w : Core) (image : Image) (seen : List Seen) (number : ℕ)
      → HaveRead (Reads read) site identity tables w image seen → newest_of w.family w.places None (spots_seen seen) ≡ Some number → HasChosen w seen number
  -- none is voted exactly where none shows a table
  pub none : (read : List ℕ → Option T) (site : Site) (identity : Identity) (tables : ℕ → T) (w : Core) (image : Image) (seen : List Seen)
      → HaveRead (Reads read) site identity tables w image seen → newest_of w.family w.places None (spots_seen seen) ≡ None ↔ ShowNone seen
  -- the greatest number is the same
  pub greatest : (read : List ℕ → Option T) (site : Site) (identity : Identity) (tables : ℕ → T) (w : Core) (image : Image) (seen : List Seen)
      → HaveRead (Reads read) site identity tables w image seen → greatest_of w.family w.places 0 (spots_seen seen) ≡ greatest_seen seen
  -- so a boot that read enough may claim a place, under one more than that
  pub claims : (read : List ℕ → Option T) (site : Site) (identity : Identity) (tables : ℕ → T) (w : Core) (image : Image) (seen : List Seen) (number : ℕ) (s : Seen)
      → HaveRead (Reads read) site identity tables w image seen → newest_of w.family w.places None (spots_seen seen) ≡ Some number → MayAdopt w seen number s
      → IsClaimable w (spot_seen s) (greatest_seen seen + 1)
