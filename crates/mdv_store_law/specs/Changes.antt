-- What a line may ask of a database's table: of its volumes, or of the places of its replicas; and the table that comes of it.
use Rattle.std.specs.Prelude.{◌≡◌, ◌+◌, ◌*◌, ℕ, zero, suc, Bool, not, List, [], ◌∷◌, ◌++◌, filter, flat_map, take}
use Rattle.std.specs.List.{list_any}
use Rattle.mdv_store_law.specs.Below.{AddRow, Clear, ClearAll, ClearBelow, Geometry, IsStepOf, Lists, MakeStripe, Place, PlanChange, SliceName, Table, Two, last_of, plan_changed, same_slice}

pub data Change : Type 0 where
  OfPlan : PlanChange → Change
  -- so many places more on each of these slices, each of so many blocks, one behind another from block 16 on
  AddPlaces : List SliceName → ℕ → ℕ → Change
  -- as many more as an entry of this number says: it doesn't tell which
  AddListed : ℕ → Change
  -- none any more on these slices
  DropPlaces : List SliceName → Change
  -- the first place alone
  FirstPlace : Change

-- the place lies on one of the slices
abbrev pub is_on : List SliceName → Place → Bool
is_on slices p = list_any (λ s. same_slice p.slice s) slices

abbrev pub list_less : List SliceName → List Place → List Place
list_less slices places = filter (λ p. not (is_on slices p)) places

-- the places of a slice that gets so many, from this number on
abbrev pub places_from : SliceName → ℕ → ℕ → ℕ → List Place
places_from slice blocks k zero = []
places_from slice blocks k (suc n) = (record { slice = slice; start = 16 + k * blocks; blocks = blocks }) ∷ places_from slice blocks (k + 1) n

abbrev pub places_on : ℕ → ℕ → SliceName → List Place
places_on count blocks slice = places_from slice blocks 0 count

-- The list that comes: it has more places behind the others, or lacks those of some slices, or is the first place alone. Of a change that doesn't tell its places it isn't known.
abbrev pub list_after : Change → List Place → List Place
list_after (OfPlan change) places = places
list_after (AddPlaces slices count blocks) places = places ++ flat_map (places_on count blocks) slices
list_after (AddListed number) places = places
list_after (DropPlaces slices) places = list_less slices places
list_after FirstPlace places = take 1 places

-- the list that was beside the one that comes
abbrev pub lists_after : Change → Lists → Lists
lists_after change lists = Two (last_of lists) (list_after change (last_of lists))

-- until a change of places is over, both lists are there
abbrev pub moved : Change → Table → Table
moved change t = record t { plan = record t.plan { lists = lists_after change t.plan.lists } }

abbrev pub table_after : Geometry → Change → Table → Table
table_after g (OfPlan change) t = plan_changed g t change
table_after g (AddPlaces slices count blocks) t = moved (AddPlaces slices count blocks) t
table_after g (AddListed number) t = t
table_after g (DropPlaces slices) t = moved (DropPlaces slices) t
table_after g FirstPlace t = moved FirstPlace t

-- places of some slices were added
pub record HasAdded (old new : Table) : Type 0 where
  pub slices : List SliceName
  pub count : ℕ
  pub blocks : ℕ
  pub is : new ≡ moved (AddPlaces slices count blocks) old

-- what a line may ask of volumes yet: that one is made, or has a row more, or that some go
abbrev pub IsAsked : PlanChange → Type 0
IsAsked (MakeStripe volume rows pool) = Unit {0}
IsAsked (AddRow volume row) = Unit {0}
IsAsked (Clear volumes pools) = Unit {0}
IsAsked (ClearBelow volumes pools) = Unit {0}
IsAsked ClearAll = Unit {0}
IsAsked other = ⊥

-- The change makes the one table of the other. One of volumes only where a line may ask it, and nothing refuses it; what a list of places must be is said of tables of a geometry.
abbrev pub IsMadeBy : Geometry → Change → Table → Table → Type 0
IsMadeBy g (OfPlan change) old new = IsAsked change × IsStepOf g change old new
IsMadeBy g (AddPlaces slices count blocks) old new = new ≡ moved (AddPlaces slices count blocks) old
IsMadeBy g (AddListed number) old new = HasAdded old new
IsMadeBy g (DropPlaces slices) old new = new ≡ moved (DropPlaces slices) old
IsMadeBy g FirstPlace old new = new ≡ moved FirstPlace old

-- it moves no place
abbrev pub KeepsPlaces : Change → Type 0
KeepsPlaces (OfPlan change) = Unit {0}
KeepsPlaces (AddPlaces slices count blocks) = ⊥
KeepsPlaces (AddListed number) = ⊥
KeepsPlaces (DropPlaces slices) = ⊥
KeepsPlaces FirstPlace = ⊥

-- it tells which list comes
abbrev pub TellsList : Change → Type 0
TellsList (OfPlan change) = Unit {0}
TellsList (AddPlaces slices count blocks) = Unit {0}
TellsList (AddListed number) = ⊥
TellsList (DropPlaces slices) = Unit {0}
TellsList FirstPlace = Unit {0}
