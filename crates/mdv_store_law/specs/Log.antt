-- The log of a host's database: which tables were ever written for it, by which changes, and which were told; which places were formatted again, and
-- whether it is there.
use Rattle.std.specs.Prelude.{◌≡◌, ◌⊎◌, ◌<◌, ◌&&◌, ◌==◌, ℕ, Bool, true, false, cond, List, [], ◌∷◌, ◌++◌, length, map, reverse, Option, Some, None, All, Contains}
use Rattle.std.specs.List.{list_any}
use Rattle.mdv_store_law.specs.Below.{IsBelow, Identity, Mark, Geometry, Place, Table, One, Since, Never, last_of, raised, same_slice, settled, since_after, empty_table}
use Rattle.mdv_store_law.specs.Changes.{Change, IsMadeBy, KeepsPlaces}
use Rattle.mdv_store_law.specs.Machine.{after_all, all_of}
use Rattle.mdv_store_law.specs.Machine as machine

-- A table that was written to a slot, or began to be: its mark, the changes that made it from the first table,
-- the newest first, and whether its write was answered.
pub record Version : Type 0 where
  pub mark : Mark
  pub table : Table
  pub changes : List Change
  pub is_written : Bool

-- the list has a place that begins where this one does
abbrev pub begins_in : List Place → Place → Bool
begins_in list p = list_any (λ q. same_slice q.slice p.slice && (q.start == p.start)) list

-- Where a place stands by the tables whose write was answered: never listed, listed, or dropped by the version of that number, the first of
-- these behind the last that listed it.
abbrev pub since_of : List Version → Place → Since
since_of [] p = Never
since_of (v ∷ older) p = cond v.is_written (since_after (length older) (begins_in (last_of v.table.plan.lists) p) (since_of older p)) (since_of older p)

-- A place was formatted again, since the version of that number dropped it. A place that was never dropped has number 0.
pub record Again : Type 0 where
  pub place : Place
  pub number : ℕ

-- whether the database is there
pub data Fate : Type 0 where
  Lives : Fate
  -- the blanking of its last master began
  Ends : Fate
  -- no image has it any more
  Over : Fate

-- The creation that was issued and not struck, told by the identity of its database; each table that was ever written
-- for it, the newest first; the changes up to the newest one that was told; the places that were formatted again, and
-- whether it is there.
pub record Log : Type 0 where
  pub issued : Option Identity
  pub family : List Version
  pub acknowledged : Option (List Change)
  pub again : List Again
  pub fate : Fate

abbrev pub empty_log : Log
empty_log = record { issued = None; family = []; acknowledged = None; again = []; fate = Lives }

pub data Event : Type 0 where
  -- a creation is issued; what an earlier one began, and nobody was told of, is struck
  Issued : Identity → Event
  -- A table begins to be written under this mark. It comes by this change from one with these changes; without a
  -- change it is that one, or the first.
  Writing : Mark → Option Change → List Change → Table → Event
  -- that write was answered
  Written : Event
  -- The newline was told that acknowledges these changes, the newest first; and those came before them, told or told to
  -- nobody. Where there are none, it is the creation's.
  Told : List Change → List Change → Event
  -- these places are about to be formatted, for a table that lists them
  Placing : List Place → Event
  -- the master of the last place is about to be blanked
  Clearing : Event
  -- no image has the database any more
  Gone : Event

abbrev pub with_asked : Option Change → List Change → List Change
with_asked None before = before
with_asked (Some change) before = change ∷ before

abbrev pub answered : List Version → List Version
answered [] = []
answered (v ∷ older) = record v { is_written = true } ∷ older

-- these places formatted again, each since the version that dropped it
abbrev pub placed_again : List Version → List Place → List Again
placed_again family places = map (λ p. record { place = p; number = raised 0 (since_of family p) }) places

-- a table that begins to be written ends what would end the database: a boot found it after all
abbrev pub log_after : Log → Event → Log
log_after log (Issued identity) = record { issued = Some identity; family = []; acknowledged = None; again = []; fate = Lives }
log_after log (Writing mark asked before table) = record log { family = record { mark = mark; table = table; changes = with_asked asked before; is_written = false } ∷ log.family; fate = Lives }
log_after log Written = record log { family = answered log.family }
log_after log (Told which before) = record log { acknowledged = Some (which ++ before) }
log_after log (Placing places) = record log { again = placed_again log.family places ++ log.again }
log_after log Clearing = record log { fate = Ends }
log_after log Gone = record log { fate = Over }

abbrev pub log_after_all : Log → List Event → Log
log_after_all = after_all log_after

-- a write of a table was answered: the greatest of these tables is firm
abbrev pub is_firm : Log → Bool
is_firm log = list_any (λ v. v.is_written) log.family

abbrev pub IsAbove : Mark → List Version → Type 0
IsAbove mark family = All (λ v. IsBelow v.mark mark) family

-- no table whose write was answered is above the mark
abbrev pub IsNotOlder : Mark → List Version → Type 0
IsNotOlder mark family = All (λ v. v.is_written ≡ true → IsBelow mark v.mark → ⊥) family

-- the table, or the one that it is once its change of places is over
abbrev pub IsSameOrSettled : Table → Table → Type 0
IsSameOrSettled old new = (new ≡ old) ⊎ (new ≡ settled old)

-- the table that a change makes of another; without a change it is the same, or that one with its change of places over
abbrev pub IsMade : Geometry → Option Change → Table → Table → Type 0
IsMade g None old new = IsSameOrSettled old new
IsMade g (Some change) old new = IsMadeBy g change old new

-- the table of a new database: one list of places, and nothing else
abbrev pub IsEmpty : Table → Type 0
IsEmpty table = (places : List Place) × (table ≡ empty_table places)

-- its places don't change
abbrev pub HasOneList : Table → Type 0
HasOneList table = (places : List Place) × (table.plan.lists ≡ One places)

-- the first table of a database whose creation was issued: no change made it, and it has one list of places, and nothing else
pub record IsFirst (issued : Option Identity) (family : List Version) (asked : Option Change) (before : List Change) (table : Table) : Type 0 where
  pub begun : (identity : Identity) × (issued ≡ Some identity)
  pub none : family ≡ []
  pub unasked : asked ≡ None
  pub unchanged : before ≡ []
  pub empty : IsEmpty table

-- no version of the family is newer
pub record IsNewestOf (family : List Version) (v : Version) : Type 0 where
  pub older : List Version
  pub is : family ≡ v ∷ older

-- A table that comes from one of the family, which isn't older than the firm one. Its lists of places are that one's: they change only from
-- the newest table, once its write was answered.
pub record IsNext (g : Geometry) (family : List Version) (asked : Option Change) (before : List Change) (table : Table) : Type 0 where
  pub parent : Version
  pub one_of : Contains family parent
  pub changes : parent.changes ≡ before
  pub made : IsMade g asked parent.table table
  pub not_older : IsNotOlder parent.mark family
  pub settles : (table.plan.lists ≡ parent.table.plan.lists) ⊎ ((parent.is_written ≡ true) × IsNewestOf family parent)

abbrev pub IsBegun : List Version → Type 0
IsBegun [] = ⊥
IsBegun (v ∷ older) = Unit {0}

-- the one list begins with the other's items: it is longer by its newest ones
pub record Extends (longer shorter : List Change) : Type 0 where
  pub more : List Change
  pub is : longer ≡ more ++ shorter

-- nothing was told, or what was told came before
abbrev pub IsUntold : Option (List Change) → List Change → Type 0
IsUntold None before = Unit {0}
IsUntold (Some told) before = Extends before told

-- The database isn't about to be deleted, and the newest table's write was answered; its changes are later ones, then these, of which none was told, then those before
-- them. A creation is told once, and before all else.
pub record IsTellable (log : Log) (which before : List Change) : Type 0 where
  pub lives : log.fate ≡ Lives
  pub newest : Version
  pub older : List Version
  pub family : log.family ≡ newest ∷ older
  pub written : newest.is_written ≡ true
  pub later : List Change
  pub changes : newest.changes ≡ later ++ (which ++ before)
  pub creation : which ≡ [] → (before ≡ []) × (log.acknowledged ≡ None)
  pub untold : IsUntold log.acknowledged before

-- the same of the change by which the newest table came, or of the creation, where it came by none
pub record IsNewestTellable (log : Log) (asked : Option Change) : Type 0 where
  pub before : List Change
  pub may : IsTellable log (with_asked asked []) before
  pub newest : may.later ≡ []

-- The database is there; its newest table's write was answered, and that has one list, and none of these places begins where one of that list does.
pub record IsPlaceable (log : Log) (places : List Place) : Type 0 where
  pub lives : log.fate ≡ Lives
  pub newest : Version
  pub older : List Version
  pub is : log.family ≡ newest ∷ older
  pub written : newest.is_written ≡ true
  pub olds : List Place
  pub only : newest.table.plan.lists ≡ One olds
  pub unlisted : All (λ p. begins_in olds p ≡ false) places

-- some image may have the database
abbrev pub IsNotOver : Fate → Type 0
IsNotOver fate = fate ≡ Over → ⊥

-- Some image may have it; its newest table's write was answered, and that lists one place alone.
pub record IsClearable (log : Log) : Type 0 where
  pub there : IsNotOver log.fate
  pub newest : Version
  pub older : List Version
  pub is : log.family ≡ newest ∷ older
  pub written : newest.is_written ≡ true
  pub place : Place
  pub only : newest.table.plan.lists ≡ One (place ∷ [])

-- When each event may happen. A creation is issued where no table of the key was answered, or where what was there is deleted.
abbrev pub MayHappen : Geometry → Log → Event → Type 0
MayHappen g log (Issued identity) = (is_firm log ≡ false) ⊎ (log.fate ≡ Over)
MayHappen g log (Writing mark asked before table) = (IsAbove mark log.family × IsNotOver log.fate) × (IsFirst log.issued log.family asked before table ⊎ IsNext g log.family asked before table)
MayHappen g log Written = IsBegun log.family
MayHappen g log (Told which before) = IsTellable log which before
MayHappen g log (Placing places) = IsPlaceable log places
MayHappen g log Clearing = IsClearable log
MayHappen g log Gone = log.fate ≡ Ends

-- each of the events may happen where it happens
abbrev pub IsCourse : Geometry → Log → List Event → Type 0
IsCourse g = machine.IsCourse log_after (MayHappen g)

-- what an event tells: a creation, or changes, the oldest first
abbrev pub tells : Event → List (Option Change)
tells (Issued identity) = []
tells (Writing mark asked before table) = []
tells Written = []
tells (Told [] before) = None ∷ []
tells (Told (change ∷ which) before) = map Some (reverse (change ∷ which))
tells (Placing places) = []
tells Clearing = []
tells Gone = []

abbrev pub told_by : List Event → List (Option Change)
told_by = all_of tells

-- what a table asks that comes by this change, or by none
abbrev pub asks_of : Option Change → List (Option Change)
asks_of None = []
asks_of (Some change) = Some change ∷ []

-- what an event begins: a creation, or a change
abbrev pub begins : Event → List (Option Change)
begins (Issued identity) = None ∷ []
begins (Writing mark asked before table) = asks_of asked
begins Written = []
begins (Told which before) = []
begins (Placing places) = []
begins Clearing = []
begins Gone = []

abbrev pub begun_by : List Event → List (Option Change)
begun_by = all_of begins

-- the changes among these creations and changes
abbrev pub changes_of : List (Option Change) → List Change
changes_of [] = []
changes_of (None ∷ asked) = changes_of asked
changes_of (Some change ∷ asked) = change ∷ changes_of asked

-- what an event issues: a creation, under this identity; a table, for this change; places that are about to be formatted; or the database's end, once, as it begins
pub data Issue : Type 0 where
  OfCreation : Identity → Issue
  OfChange : Change → Issue
  OfPlaces : List Place → Issue
  OfEnd : Issue

-- a table may be issued for this change, as for none
abbrev pub IsAskable : (Issue → Type 0) → Option Change → Type 0
IsAskable Which None = Unit {0}
IsAskable Which (Some change) = Which (OfChange change)

-- what the event issues is so
abbrev pub IsIssue : (Issue → Type 0) → Event → Type 0
IsIssue Which (Issued identity) = Which (OfCreation identity)
IsIssue Which (Writing mark asked before table) = IsAskable Which asked
IsIssue Which Written = Unit {0}
IsIssue Which (Told which before) = Unit {0}
IsIssue Which (Placing places) = Which (OfPlaces places)
IsIssue Which Clearing = Which OfEnd
IsIssue Which Gone = Unit {0}

-- The events tell these; they begin only what is asked, creations and changes, in that order and each once; and what they issue is so.
abbrev pub Adds : (Issue → Type 0) → List (Option Change) → List (Option Change) → List Event → Type 0
Adds Which = machine.Adds tells begins (IsIssue Which)

-- changes, and nothing else
abbrev pub ChangesAlone : Issue → Type 0
ChangesAlone (OfCreation identity) = ⊥
ChangesAlone (OfChange change) = Unit {0}
ChangesAlone (OfPlaces places) = ⊥
ChangesAlone OfEnd = ⊥

-- and these places are formatted
abbrev pub ChangesAndPlaces : List Place → Issue → Type 0
ChangesAndPlaces places (OfCreation identity) = ⊥
ChangesAndPlaces places (OfChange change) = Unit {0}
ChangesAndPlaces places (OfPlaces others) = others ≡ places
ChangesAndPlaces places OfEnd = ⊥

-- the database ends
abbrev pub EndAlone : Issue → Type 0
EndAlone (OfCreation identity) = ⊥
EndAlone (OfChange change) = ⊥
EndAlone (OfPlaces places) = ⊥
EndAlone OfEnd = Unit {0}

-- changes that move no place
abbrev pub PlacesStay : Issue → Type 0
PlacesStay (OfCreation identity) = ⊥
PlacesStay (OfChange change) = KeepsPlaces change
PlacesStay (OfPlaces places) = ⊥
PlacesStay OfEnd = ⊥

-- the table after these changes, the newest first, from one with one list of places and nothing else; behind each of them a change of places may be over
abbrev pub AreMade : Geometry → List Change → Table → Type 0
AreMade g [] table = IsEmpty table
AreMade g (change ∷ before) table = (old new : Table) × AreMade g before old × IsMade g (Some change) old new × IsSameOrSettled new table

-- marks rise, so that a mark names one table
abbrev pub IsRising : List Version → Type 0
IsRising [] = Unit {0}
IsRising (v ∷ older) = IsAbove v.mark older × IsRising older

-- each table has the changes of every older one whose write was answered
abbrev pub IsDescended : List Version → Type 0
IsDescended [] = Unit {0}
IsDescended (v ∷ older) = All (λ w. w.is_written ≡ true → Extends v.changes w.changes) older × IsDescended older

-- a table whose write was answered has all that was told
pub record IsHeld (family : List Version) (told : List Change) : Type 0 where
  pub by : Version
  pub one_of : Contains family by
  pub written : by.is_written ≡ true
  pub has : Extends by.changes told

-- the number of a version, or none
abbrev pub AreNumbered : List Version → List Again → Type 0
AreNumbered family again = All (λ a. a.number < length family) again

-- The family is one, each table is what its changes made, what was told is firm, a place was dropped by a table of the family, and a database
-- that isn't there any more was.
pub record IsLog (g : Geometry) (log : Log) : Type 0 where
  pub rising : IsRising log.family
  pub made : All (λ v. AreMade g v.changes v.table) log.family
  pub descended : IsDescended log.family
  pub held : (told : List Change) → log.acknowledged ≡ Some told → IsHeld log.family told
  pub numbered : AreNumbered log.family log.again
  pub was_there : (log.fate ≡ Lives → ⊥) → is_firm log ≡ true
