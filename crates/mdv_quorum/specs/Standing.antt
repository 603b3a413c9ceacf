-- What holds of the replicas and mediators of one database after every list of events.
use Rattle.std.specs.Prelude.{◌≡◌, ℕ, ◌-◌, ◌<◌, ◌≤◌, ◌⊎◌, Bool, false, List, [], ◌∷◌, ◌++◌, Option, None, Some, length, option_to_list, Contains, IsTrue}
use Rattle.mdv_quorum.specs.Below.{IsBelow, Spot, Version, Listed, is_in, last_list, is_written, is_read, table_at, place_at, boot_of, knows_above}
use Rattle.mdv_quorum.specs.declared.event.Event.{Event}
use Rattle.mdv_quorum.specs.declared.event.Event.TheVariants.{Told}
use Rattle.mdv_quorum.specs.declared.machine.Core.{Core}
use Rattle.mdv_quorum.specs.declared.machine.Stage.{Stage}
use Rattle.mdv_quorum.specs.declared.machine.Stage.TheVariants.{Reading, Creating, Claiming, Writing, Ready}
use Rattle.mdv_quorum.specs.World.{start, after_all}
use Rattle.mdv_quorum.specs.May.{is_up, is_stale_vote, IsReady, MayAll}

abbrev pub newest_at : Core → Spot → Option ℕ
newest_at w p = (place_at w.places p).newest

abbrev pub table_of : Core → ℕ → Version
table_of w i = table_at w.family i

-- a table has the plan of the one from which it was made, or that plan after the change that it adds
abbrev pub IsMade : Core → ℕ → Option ℕ → Type 0
IsMade w i None = (table_of w i).plan ≡ option_to_list (table_of w i).change
IsMade w i (Some k) = (k < i) × ((table_of w i).plan ≡ (table_of w k).plan ++ option_to_list (table_of w i).change)

-- Each table that a place shows is in the family, marks rise along it, so that a mark names one
-- table, and each table was made from an earlier one.
pub record IsFamily (w : Core) : Type 0 where
  pub shown : (p : Spot) (i : ℕ) → newest_at w p ≡ Some i → i < length w.family
  pub marks : (i j : ℕ) → i < j → j < length w.family → IsBelow (table_of w i).mark (table_of w j).mark
  pub made : (i : ℕ) → i < length w.family → IsMade w i (table_of w i).parent

abbrev pub IsFront : List ℕ → List ℕ → Type 0
IsFront xs ys = (rest : List ℕ) × (xs ++ rest ≡ ys)

abbrev pub HasEach : List ℕ → List ℕ → Type 0
HasEach changes plan = (c : ℕ) → Contains changes c → Contains plan c

-- The firm table is one of the family that has every change that was told, each greater table
-- descends from it, and the plan of each is the front of the changes that were issued and not struck.
pub record IsDescended (w : Core) : Type 0 where
  pub known : (f : ℕ) → w.firm ≡ Some f → f < length w.family
  pub acknowledged : (f : ℕ) → w.firm ≡ Some f → HasEach w.told (table_of w f).plan
  pub nothing : w.firm ≡ None → w.told ≡ []
  pub descends : (f i : ℕ) → w.firm ≡ Some f → f ≤ i → i < length w.family → IsFront (table_of w f).plan (table_of w i).plan
  pub issued : (f i : ℕ) → w.firm ≡ Some f → f ≤ i → i < length w.family → IsFront (table_of w i).plan w.log

-- a replica or a mediator's block of the form, lost or not, that shows this table or a greater one
pub record HoldsAtLeast (w : Core) (i : ℕ) (p : Spot) : Type 0 where
  pub formed : IsTrue (place_at w.places p).holds
  pub table : ℕ
  pub shows : newest_at w p ≡ Some table
  pub above : i ≤ table

-- a write quorum holds the firm table or a greater one
abbrev pub IsHeld : Core → ℕ → Type 0
IsHeld w f = (took : Spot → Bool) × IsTrue (is_written (table_of w f) took) × ((p : Spot) → IsTrue (took p) → HoldsAtLeast w f p)

-- a replica that the reader of its drive finds
pub record IsReadable (w : Core) (p : Spot) : Type 0 where
  pub place : p.mediator ≡ false
  pub formed : IsTrue (place_at w.places p).holds
  pub up : IsTrue (is_up w.lost p)

-- whatever is a read quorum of this table, given what its mediators know
abbrev pub Reads : Core → ℕ → (Spot → Bool) → Type 0
Reads w i read = IsTrue (is_read (table_of w i) read (knows_above w.family w.places (table_of w i)))

-- a replica's place of what was read, and no mediator's seat, that isn't readable or shows a greater table
pub record IsBeaten (w : Core) (i : ℕ) (read : Spot → Bool) : Type 0 where
  pub place : Spot
  pub kind : place.mediator ≡ false
  pub was_read : IsTrue (read place)
  pub shows : IsReadable w place → (j : ℕ) × (newest_at w place ≡ Some j) × (i < j)

-- what was read has a stale vote for this table
abbrev pub HasStaleVote : Core → ℕ → (Spot → Bool) → Type 0
HasStaleVote w i read = (q : Spot) × IsTrue (read q) × IsReadable w q × IsTrue (is_stale_vote w i q)

-- a table below the firm one is beaten in each of its read quorums that has no stale vote
abbrev pub AreBeaten : Core → Type 0
AreBeaten w = (f i : ℕ) (read : Spot → Bool) → w.firm ≡ Some f → i < f → Reads w i read → IsBeaten w i read ⊎ HasStaleVote w i read

-- its claim or newest boot number is at least each boot number of the family above that of this table
abbrev pub KnowsNumbers : Core → ℕ → Spot → Type 0
KnowsNumbers w i p =
    (u : ℕ) → u < length w.family → (table_of w i).mark.boot < (table_of w u).mark.boot
    → ((table_of w u).mark.boot ≤ (place_at w.places p).claim) ⊎ ((table_of w u).mark.boot ≤ boot_of w.family (newest_at w p))

-- Each read quorum of the firm table or of a greater one has a place or mediator that knows each boot
-- number of the family above that table's own. Its own is seen by whoever adopts it.
abbrev pub AreNumbersKnown : Core → Type 0
AreNumbersKnown w =
    (f i : ℕ) (read : Spot → Bool) → w.firm ≡ Some f → f ≤ i → i < length w.family → Reads w i read → (p : Spot) × IsTrue (read p) × KnowsNumbers w i p

-- A boot that has drawn this number, when the family had so many tables, adopted one of these that
-- isn't below the firm one of them, whose plan is a front of the issued changes that has each one
-- told; and none of these tables has its number.
pub record Adopts (w : Core) (i number tables : ℕ) : Type 0 where
  pub known : i < tables
  pub above : (f : ℕ) → w.firm ≡ Some f → f < tables → f ≤ i
  pub issued : IsFront (table_of w i).plan w.log
  pub told : HasEach w.told (table_of w i).plan
  pub fresh : (u : ℕ) → u < tables → (table_of w u).mark.boot < number
  pub there : w.deleted ≡ None

abbrev pub AdoptsOf : Core → Option ℕ → Type 0
AdoptsOf w None = Unit {0}
AdoptsOf w (Some i) = Adopts w i (table_of w (length w.family - 1)).mark.boot (length w.family - 1) × ((table_of w (length w.family - 1)).plan ≡ (table_of w i).plan)

abbrev pub BootsAt : Core → Stage → Type 0
BootsAt w (Reading read) = Unit {0}
BootsAt w (Creating next) = w.deleted ≡ None
BootsAt w (Claiming i next claimed) = Adopts w i next.mark.boot (length w.family) × (next.plan ≡ (table_of w i).plan)
BootsAt w (Writing boot took) = (w.deleted ≡ None) × AdoptsOf w boot
BootsAt w (Ready next) = w.deleted ≡ None

-- the table that was written last is firm
abbrev pub IsLastFirm : Core → Type 0
IsLastFirm w = (0 < length w.family) × (w.firm ≡ Some (length w.family - 1))

-- a stale vote is one for a table below the firm one: no boot that chooses another is kept from it
abbrev pub AreLow : Core → Type 0
AreLow w = (i : ℕ) (q : Spot) → IsTrue (is_stale_vote w i q) → (f : ℕ) × (w.firm ≡ Some f) × (i < f)

-- a place that is said to be listed is one of the firm table's last list
abbrev pub ArePlaced : Core → Type 0
ArePlaced w = (p : Spot) → (place_at w.places p).since ≡ Listed → (f : ℕ) × (w.firm ≡ Some f) × IsTrue (is_in (last_list (table_of w f).lists) p)

-- all of it
pub record Standing (w : Core) : Type 0 where
  pub family : IsFamily w
  pub descent : IsDescended w
  pub held : (f : ℕ) → w.firm ≡ Some f → w.deleted ≡ None → IsHeld w f
  pub placed : ArePlaced w
  pub beaten : AreBeaten w
  pub stale : AreLow w
  pub numbers : AreNumbersKnown w
  -- what a boot adopts; once the database is deleted none goes past reading
  pub boots : BootsAt w w.stage
  -- no boot or change is in work, but for one of which nothing was written
  pub ready : IsReady w.stage → IsLastFirm w

-- from nothing, by any list of events each of which may happen where it happens
abbrev pub StandsAlways : Bool → List Event → Type 0
StandsAlways set events = MayAll (start set) events → Standing (after_all (start set) events)

-- the number of the boot in work, once it is drawn
abbrev pub drawn_at : Core → Stage → Option ℕ
drawn_at w (Reading read) = None
drawn_at w (Creating next) = None
drawn_at w (Claiming i next claimed) = Some next.mark.boot
drawn_at w (Writing None took) = None
drawn_at w (Writing (Some i) took) = Some (table_of w (length w.family - 1)).mark.boot
drawn_at w (Ready next) = None

abbrev pub drawn_number : Core → Option ℕ
drawn_number w = drawn_at w w.stage

-- a boot that is completed by these events and one that draws its number after further ones have
-- different numbers, the later the greater
abbrev pub NumbersRise : Bool → List Event → List Event → Type 0
NumbersRise set events later =
    (a b : ℕ) → MayAll (start set) (events ++ Told ∷ later) → drawn_number (after_all (start set) events) ≡ Some a
    → drawn_number (after_all (start set) (events ++ Told ∷ later)) ≡ Some b → a < b
