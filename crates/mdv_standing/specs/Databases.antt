-- The databases that were ever begun on these drives, the newest first, and of each key the current one.
use Rattle.std.specs.Prelude.{ℕ, Bool, true, false, not, ◌&&◌, ◌==◌, if◌then◌else◌, List, [], ◌∷◌, Option, None, Some}
use Rattle.mdv_store_law.specs.Log.{empty_log}
use Rattle.mdv_standing.specs.Below.{Identity, Key, Local, Log, Set}
use Rattle.mdv_store_law.specs.Log as log

-- whose it is, the identity of its creation, its log, and whether it is over: a creation that was struck
pub record Database : Type 0 where
  pub key : Key
  pub identity : Identity
  pub log : Log
  pub over : Bool

abbrev pub same_text : List ℕ → List ℕ → Bool
same_text [] [] = true
same_text [] (d ∷ other) = false
same_text (c ∷ text) [] = false
same_text (c ∷ text) (d ∷ other) = c == d && same_text text other

abbrev pub same_key : Key → Key → Bool
same_key (Local a) (Local b) = same_text a b
same_key (Local a) (Set b) = false
same_key (Set a) (Local b) = false
same_key (Set a) (Set b) = same_text a b

-- a database of the key that isn't over
abbrev pub is_current : Key → Database → Bool
is_current key d = same_key key d.key && not d.over

-- the newest such one
abbrev pub current_of : List Database → Key → Option Database
current_of [] key = None
current_of (d ∷ ds) key = if is_current key d then Some d else current_of ds key

-- its log, and the empty log where there is none
abbrev pub log_in : Option Database → Log
log_in None = empty_log
log_in (Some d) = d.log

abbrev pub log_of : List Database → Key → Log
log_of ds key = log_in (current_of ds key)

-- an event of the log of the key's current one
abbrev pub with_event : Key → log.Event → List Database → List Database
with_event key e [] = []
with_event key e (d ∷ ds) = if is_current key d then record d { log = log.log_after d.log e } ∷ ds else d ∷ with_event key e ds

-- the key's current one is over
abbrev pub with_over : Key → List Database → List Database
with_over key [] = []
with_over key (d ∷ ds) = if is_current key d then record d { over = true } ∷ ds else d ∷ with_over key ds

-- a creation begins another one of the key
abbrev pub with_creation : Key → Identity → List Database → List Database
with_creation key identity ds = record { key = key; identity = identity; log = log.log_after empty_log (log.Issued identity); over = false } ∷ with_over key ds
