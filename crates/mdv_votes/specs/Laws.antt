-- What holds of every set of places, whoever reads, claims and writes them.
use Rattle.std.specs.Prelude.{◌≡◌, ℕ, ◌⊎◌, Bool, false, List, [], None, Some, IsTrue, IsFalse}
use Rattle.mdv_base.specs.declared.mark.Mark.{Mark}
use Rattle.mdv_votes.specs.declared.spot.Spot.{Spot}
use Rattle.mdv_votes.specs.declared.spot.SpotLists.{SpotLists}
use Rattle.mdv_votes.specs.declared.version.Version.{Version}
use Rattle.mdv_votes.specs.declared.version.SpotState.{SpotState}
use Rattle.mdv_votes.specs.Spots.{is_in, is_half, is_majority}
use Rattle.mdv_votes.specs.Quorum.{is_written, is_claimed, is_read}
use Rattle.mdv_votes.specs.Family.{mark_below, table_at, place_at, shown, newest_of}

-- At least half of a list and more than half of it have a place in common.
abbrev pub HalvesMeet : Type 0
HalvesMeet =
    (took read : Spot → Bool) (list : List Spot) → IsTrue (is_half took list) → IsTrue (is_majority read list)
    → (p : Spot) × IsTrue (took p) × IsTrue (read p) × IsTrue (is_in list p)

abbrev pub HasList : SpotLists → List Spot → Type 0
HasList lists list = (lists.first ≡ list) ⊎ (lists.second ≡ Some list)

-- more than half of the one's mediators and more than half of the other's have one of the first in common
abbrev pub SeatsMeet : List Spot → List Spot → Type 0
SeatsMeet a b =
    (took read : Spot → Bool) → IsTrue (is_majority took b) → IsTrue (is_majority read a) → (m : Spot) × IsTrue (took m) × IsTrue (read m) × IsTrue (is_in a m)

-- two tables have a list of places in common, and their mediators meet
pub record Shares (a b : SpotLists) : Type 0 where
  pub list : List Spot
  pub in_a : HasList a list
  pub in_b : HasList b list
  pub seats : SeatsMeet a.mediators b.mediators

-- A table's lists are shared with itself.
abbrev pub ListsAreShared : Type 0
ListsAreShared = (lists : SpotLists) → Shares lists lists

-- where half of a list suffices to write b without mediators, a has none either
abbrev pub NeitherHasSeats : Version → Version → Type 0
NeitherHasSeats a b = b.by_majority ≡ false → b.lists.mediators ≡ [] → a.lists.mediators ≡ []

-- Where b was written and a is read, a place that the shared list names did both; or a mediator of a did, and knew no greater mark.
abbrev pub WritesMeetReads : Type 0
WritesMeetReads =
    (a b : Version) (took read knows : Spot → Bool) (shared : Shares a.lists b.lists) → NeitherHasSeats a b → IsTrue (is_written b took) → IsTrue (is_read a read knows)
    → (p : Spot) × IsTrue (took p) × IsTrue (read p) × (IsTrue (is_in shared.list p) ⊎ (IsTrue (is_in a.lists.mediators p) × IsFalse (knows p)))

-- Where b was claimed and a is read, a place or mediator did both.
abbrev pub ClaimsMeetReads : Type 0
ClaimsMeetReads =
    (set : Bool) (a b : Version) (claimed read knows : Spot → Bool) → Shares a.lists b.lists → (set ≡ false → a.lists.mediators ≡ []) → IsTrue (is_claimed set b claimed)
    → IsTrue (is_read a read knows) → (p : Spot) × IsTrue (claimed p) × IsTrue (read p)

-- A table is read by a place or mediator at least.
abbrev pub ReadsHaveOne : Type 0
ReadsHaveOne = (t : Version) (read knows : Spot → Bool) → IsTrue (is_read t read knows) → (p : Spot) × IsTrue (read p)

abbrev pub IsWithin : (Spot → Bool) → (Spot → Bool) → Type 0
IsWithin fewer more = (p : Spot) → IsTrue (fewer p) → IsTrue (more p)

-- What is written, or claimed, with some places and mediators is so with more of them.
abbrev pub WritesGrow : Type 0
WritesGrow = (t : Version) (took more : Spot → Bool) → IsWithin took more → IsTrue (is_written t took) → IsTrue (is_written t more)

abbrev pub ClaimsGrow : Type 0
ClaimsGrow = (set : Bool) (t : Version) (claimed more : Spot → Bool) → IsWithin claimed more → IsTrue (is_claimed set t claimed) → IsTrue (is_claimed set t more)

-- What is read with some places is so with more of them, where the same mediators were read: one more might know a greater mark.
abbrev pub ReadsGrow : Type 0
ReadsGrow =
    (t : Version) (read more knows : Spot → Bool) → IsWithin read more → ((m : Spot) → IsTrue (is_in t.lists.mediators m) → read m ≡ more m)
    → IsTrue (is_read t read knows) → IsTrue (is_read t more knows)

abbrev pub mark_of : List Version → ℕ → Mark
mark_of family i = (table_at family i).mark

-- of the places that were read one shows this table, and none a table with a greater mark
pub record IsNewestOf (family : List Version) (places : List SpotState) (read : List Spot) (i : ℕ) : Type 0 where
  pub place : Spot
  pub was_read : IsTrue (is_in read place)
  pub shows : shown (place_at places place) ≡ Some i
  pub greatest : (q : Spot) (j : ℕ) → IsTrue (is_in read q) → shown (place_at places q) ≡ Some j → IsFalse (mark_below (mark_of family i) (mark_of family j))

-- What is chosen of those that were read has the greatest mark.
abbrev pub NewestIsGreatest : Type 0
NewestIsGreatest =
    (family : List Version) (places : List SpotState) (read : List Spot) (i : ℕ) → newest_of family places None read ≡ Some i → IsNewestOf family places read i

-- Nothing is chosen only where none of them shows a table.
abbrev pub NoneIsShown : Type 0
NoneIsShown =
    (family : List Version) (places : List SpotState) (read : List Spot) (q : Spot) → newest_of family places None read ≡ None → IsTrue (is_in read q)
    → shown (place_at places q) ≡ None

-- of the tables that these places show, this one alone has its mark
abbrev pub IsMarkedAlone : List Version → List SpotState → List Spot → ℕ → Type 0
IsMarkedAlone family places read i =
    (q : Spot) (j : ℕ) → IsTrue (is_in read q) → shown (place_at places q) ≡ Some j → mark_of family j ≡ mark_of family i → j ≡ i

-- The table with the greatest mark is chosen, where it alone has that mark.
abbrev pub GreatestIsNewest : Type 0
GreatestIsNewest =
    (family : List Version) (places : List SpotState) (read : List Spot) (i : ℕ) → IsMarkedAlone family places read i → IsNewestOf family places read i
    → newest_of family places None read ≡ Some i
