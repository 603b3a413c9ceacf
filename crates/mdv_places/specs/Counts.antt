-- How many calls a change of places makes, and how many blocks it writes.
use Rattle.std.specs.Prelude.{◌≡◌, ◌≤◌, ◌+◌, ◌*◌, ℕ, Bool, length, Contains, MatchOption, Result, Ok, Err}
use Rattle.mdv_acts.specs.Acts.{MadeCallsBetween, blocks_of, calls_of}
use Rattle.mdv_shelf.specs.Shelves.{DriveFailures, MadeCalls}
use Rattle.mdv_store.specs.Counts.{drives_lost}
use Rattle.mdv_store.specs.Listing.{seats_in}
use Rattle.mdv_store.specs.Text.{blocks_for}
use Rattle.mdv_store.specs.Writing.{text_size}
use Rattle.mdv_places.specs.Asked.{Asks, acts_moved, dropped, list_after}
use Rattle.mdv_places.specs.Below.{DriveNo, Geometry, Ghosts, Lists, One, Opened, Two, active_of, last_of, settled, shortage}
use Rattle.mdv_places.specs.Changing.{AreOnce, both_of, drives_moved}
use Rattle.mdv_places.specs.declared.changing.PlacesFault.{PlacesFault}
use Rattle.mdv_places.specs.declared.changing.PlacesFault.TheVariants as unmoved

module _ (o : Opened) (asked : Asks) where
  -- how many places are written with both lists, how many with the new one alone, and how many are wiped
  abbrev pub first_count : ℕ
  first_count = active_of (both_of o asked).seats

  abbrev pub last_count : ℕ
  last_count = active_of (seats_in (list_after asked (last_of o.table.plan.lists)) (both_of o asked).seats)

  abbrev pub dropped_count : ℕ
  dropped_count = length (dropped asked (last_of o.table.plan.lists))

  -- where no call fails: the formats, and six for each place in the first record
  abbrev pub first_calls : ℕ
  first_calls = calls_of (acts_moved o asked) + 6 * first_count

  abbrev pub first_blocks : ℕ
  first_blocks = blocks_of (acts_moved o asked) + (2 + blocks_for (text_size (both_of o asked).table)) * first_count

  -- with those of the second one
  abbrev pub last_calls : ℕ
  last_calls = first_calls + 6 * last_count

  abbrev pub last_blocks : ℕ
  last_blocks = first_blocks + (2 + blocks_for (text_size (settled (both_of o asked).table))) * last_count

  -- and two for each wipe
  abbrev pub move_calls : ℕ
  move_calls = last_calls + 2 * dropped_count

  abbrev pub move_blocks : ℕ
  move_blocks = last_blocks + dropped_count

-- no call failed on the drives of the change: no count of failures rose, and none stands at its type's end
abbrev pub HaveNoFailure : {S : Type 0} → Ghosts S → S → S → Geometry → Opened → Asks → Type 0
HaveNoFailure shelf from to g o asked = (drive : DriveNo) → Contains (drives_moved g o asked) drive → (DriveFailures shelf from to drive.0).some → ⊥

-- Too few took the new list alone. So many places took the table with both lists before: half of each of them at least, six calls at each; and behind that one call
-- at least was made, and six at each place that is active.
pub record WereMadeBehind {S : Type 0} (shelf : Ghosts S) (from to : S) (o : Opened) (asked : Asks) (new : Opened) : Type 0 where
  pub took : ℕ
  pub half_old : length (last_of o.table.plan.lists) ≤ 2 * took
  pub half_new : AreOnce (list_after asked (last_of o.table.plan.lists)) → length (list_after asked (last_of o.table.plan.lists)) ≤ 2 * took
  pub some : MadeCallsBetween shelf from to (calls_of (acts_moved o asked) + 6 * took + 1) (last_calls o asked) (last_blocks o asked)
  pub each : MadeCallsBetween shelf from to (calls_of (acts_moved o asked) + 6 * took + 6 * active_of new.seats) (last_calls o asked) (last_blocks o asked)

-- Which record was short the lists of the table tell.
abbrev pub IsLossCounted : {S : Type 0} → Ghosts S → S → S → Opened → Asks → Opened → Lists → Type 0
IsLossCounted shelf from to o asked new (Two old next) =
    MadeCallsBetween shelf from to (calls_of (acts_moved o asked) + (6 * active_of new.seats + drives_lost (both_of o asked).seats new.seats)) (first_calls o asked) (first_blocks o asked)
IsLossCounted shelf from to o asked new (One list) = WereMadeBehind shelf from to o asked new

-- Just these calls where none fails, and no more of both where one does: at each place that is active twelve at least, and where the store is lost as many as the record
-- that was short takes; none where nothing was done.
abbrev pub IsMoveCounted : {S : Type 0} → Ghosts S → S → S → Geometry → Opened → Asks → Opened → Result Bool PlacesFault → Type 0
IsMoveCounted shelf from to g o asked new (Ok clean) =
    (HaveNoFailure shelf from to g o asked → MadeCalls shelf from to (move_calls o asked) (move_blocks o asked))
    × MadeCallsBetween shelf from to (calls_of (acts_moved o asked) + 12 * active_of new.seats) (move_calls o asked) (move_blocks o asked)
IsMoveCounted shelf from to g o asked new (Err unmoved.Failed) = MadeCallsBetween shelf from to 1 (calls_of (acts_moved o asked)) (blocks_of (acts_moved o asked))
IsMoveCounted shelf from to g o asked new (Err (unmoved.TooLong fault)) = to ≡ from
IsMoveCounted shelf from to g o asked new (Err (unmoved.Lost active listed)) = MatchOption (shortage o) (IsLossCounted shelf from to o asked new new.table.plan.lists) (λ share. to ≡ from)
IsMoveCounted shelf from to g o asked new (Err unmoved.Spent) = to ≡ from
IsMoveCounted shelf from to g o asked new (Err unmoved.Memory) = to ≡ from
