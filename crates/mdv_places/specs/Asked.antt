-- What is asked of the places of an open database, and the list that comes then.
use Rattle.std.specs.Prelude.{◌≤◌, ℕ, List, [], flat_map, map, Option, Some, None}
use Rattle.mdv_acts.specs.Acts.{Act, acts_asked}
use Rattle.mdv_acts.specs.Asked.{AreAsked, drives_asked}
use Rattle.mdv_acts.specs.Wipes.{wipe_order}
pub use Rattle.mdv_store_law.specs.Changes.{is_on, list_less, places_from, places_on}
use Rattle.mdv_store_law.specs.Changes.{AddPlaces, DropPlaces, FirstPlace}
use Rattle.mdv_store_law.specs.Changes as changes
use Rattle.mdv_places.specs.Below.{Change, DriveNo, Lists, Opened, Place, Replica, Seat, SliceLine, SliceName, Two, beside, last_of, seats_asked}
use Rattle.mdv_places.specs.declared.asked.Move.{Move}
use Rattle.mdv_places.specs.declared.asked.Move.TheVariants as move

-- A move, of lines and slices that are lists.
pub data Asks : Type 0 where
  -- so many places more on each of these slices, each of so many blocks, one behind another from block 16 on
  Adds : List SliceLine → ℕ → ℕ → Asks
  -- none any more on these slices
  Drops : List SliceName → Asks
  -- the first place alone
  KeepsFirst : Asks

abbrev pub asked_of : Move → Asks
asked_of (move.Add lines count blocks) = Adds lines.now count blocks
asked_of (move.Drop slices) = Drops slices.now
asked_of move.First = KeepsFirst

abbrev pub names_of : List SliceLine → List SliceName
names_of lines = map (λ (line : SliceLine). line.name) lines

-- as a log tells it: by the names of slices
abbrev pub change_of : Asks → Change
change_of (Adds lines count blocks) = AddPlaces (names_of lines) count blocks
change_of (Drops slices) = DropPlaces slices
change_of KeepsFirst = FirstPlace

-- the list that comes
abbrev pub list_after : Asks → List Place → List Place
list_after asked places = changes.list_after (change_of asked) places

-- the places of these slices
abbrev pub places_asked : List SliceLine → ℕ → ℕ → List Place
places_asked lines count blocks = flat_map (places_on count blocks) (names_of lines)

-- the places that are added
abbrev pub places_added : Asks → List Place
places_added (Adds lines count blocks) = places_asked lines count blocks
places_added (Drops slices) = []
places_added KeepsFirst = []

-- no more places of a slice than a list takes, and none longer than a replica may be
abbrev pub IsShort : Asks → Type 0
IsShort (Adds lines count blocks) = (count ≤ 50) × (blocks ≤ 8192)
IsShort (Drops slices) = Unit {0}
IsShort KeepsFirst = Unit {0}

-- both lists
abbrev pub lists_after : Asks → Lists → Lists
lists_after asked lists = Two (last_of lists) (list_after asked (last_of lists))

-- the places that are dropped, in the order in which they are wiped
abbrev pub dropped : Asks → List Place → List Place
dropped asked places = wipe_order (beside (list_after asked places) places)

-- a replica as it is formatted with this claim
abbrev pub claimed : ℕ → Option Replica → Option Replica
claimed number None = None
claimed number (Some r) = Some (record r { head = record r.head { claim = number } })

abbrev pub claims : ℕ → Seat → Seat
claims number s = record s { replica = claimed number s.replica }

-- the places that are added, each with its replica as it is formatted
abbrev pub seats_added : Opened → Asks → List Seat
seats_added o (Adds lines count blocks) = map (claims o.mark.boot) (seats_asked o.key o.identity lines count blocks)
seats_added o (Drops slices) = []
seats_added o KeepsFirst = []

-- what is done at them before
abbrev pub acts_moved : Opened → Asks → List Act
acts_moved o (Adds lines count blocks) = acts_asked o.key o.identity o.mark.boot lines count blocks
acts_moved o (Drops slices) = []
acts_moved o KeepsFirst = []

abbrev pub drives_added : Asks → List DriveNo
drives_added (Adds lines count blocks) = drives_asked lines
drives_added (Drops slices) = []
drives_added KeepsFirst = []

-- there are such places on drives of these sizes
abbrev pub AreAskedOn : List ℕ → Asks → Type 0
AreAskedOn sizes (Adds lines count blocks) = AreAsked sizes lines count blocks
AreAskedOn sizes (Drops slices) = Unit {0}
AreAskedOn sizes KeepsFirst = Unit {0}
