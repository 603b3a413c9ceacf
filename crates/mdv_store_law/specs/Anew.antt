-- What holds of each log as long as nothing asks for places to be formatted again, for a second list of places, or for a database to end.
use Rattle.std.specs.Prelude.{◌≡◌, List, [], All, Contains}
use Rattle.mdv_store_law.specs.Below.{Never, One, Place}
use Rattle.mdv_store_law.specs.Log.{Clearing, Event, Gone, Issued, Lives, Log, Placing, Told, Version, Writing, Written, since_of}

-- none of its places was formatted again since a version dropped it
abbrev pub HasNoneAgain : Log → Type 0
HasNoneAgain log = All (λ a. a.number ≡ 0) log.again

-- an event that formats none of the places that were ever listed by a table whose write was answered
abbrev pub IsFresh : Log → Event → Type 0
IsFresh log (Issued identity) = Unit {0}
IsFresh log (Writing mark asked before table) = Unit {0}
IsFresh log Written = Unit {0}
IsFresh log (Told which before) = Unit {0}
IsFresh log (Placing places) = All (λ p. since_of log.family p ≡ Never) places
IsFresh log Clearing = Unit {0}
IsFresh log Gone = Unit {0}

-- No place was formatted again; the database lives, and all its tables list the same places, in one list
pub record IsAnew (log : Log) : Type 0 where
  pub none : log.again ≡ []
  pub lives : log.fate ≡ Lives
  pub places : List Place
  pub each : (v : Version) → Contains log.family v → v.table.plan.lists ≡ One places
