-- How far the writes of a boot came.
use Rattle.std.specs.Prelude.{List}
use Rattle.mdv_store.specs.Below.{Lists, One, Two}
use Rattle.mdv_store.specs.declared.seats.Seat.{Seat}

-- What was written last, and the places that are left behind it: the claims; or the table; or, where that has two lists, the table with the new one alone, of which the places are told apart from those that it lacks.
pub data Progress : Type 0 where
  Claimed : List Seat → Progress
  Rewritten : List Seat → Progress
  Settled : List Seat → List Seat → Progress

-- all was written, by the lists of the table: these places of the new list, or of the only one, are left, and these that it lacks
abbrev pub all_written : Lists → (last gone : List Seat) → Progress
all_written (One list) last gone = Rewritten last
all_written (Two old new) last gone = Settled last gone
