-- The list of places that comes, by what a line asks of the places of an open database.
use Rattle.std.specs.Prelude.{ℕ, Bool, true, false, List, [], ◌∷◌, ◌++◌, flat_map, take}
pub use Rattle.mdv_store_law.specs.Changes.{is_on, list_less, places_from, places_on}
use Rattle.mdv_engine_law.specs.Below.{Opened, Place, SliceName, record_bytes}
use Rattle.mdv_encoding.specs.Room.{least_slot_bytes}
use Rattle.mdv_config.specs.Lists.{with_lists}
use Rattle.mdv_config.specs.Lists.{last_of, places_of}
use Rattle.mdv_plan.specs.declared.lists.Lists.{Lists}
use Rattle.mdv_plan.specs.declared.lists.Lists.TheVariants.{Two}

-- so many places more on each of these slices, behind the others
abbrev pub list_more : List SliceName → ℕ → ℕ → List Place → List Place
list_more slices count blocks places = places ++ flat_map (places_on count blocks) slices

abbrev pub is_empty : List Place → Bool
is_empty [] = true
is_empty (p ∷ ps) = false

-- these, or where there are none the first of the others alone
abbrev pub or_first : List Place → List Place → List Place
or_first [] places = take 1 places
or_first (p ∷ ps) places = p ∷ ps

-- none any more on these slices; where all go, the first place alone comes before
abbrev pub list_left : List SliceName → List Place → List Place
list_left slices places = or_first (list_less slices places) places

-- the list of an open database
abbrev pub list_of : Opened → List Place
list_of o = last_of o.table.plan.lists

-- until a change of places is over, the list that comes stands beside the one that was
abbrev pub lists_with : Opened → List Place → Lists
lists_with o list = Two (list_of o) list

-- how long the record of both lists is, and how long it may be
abbrev pub bytes_with : Opened → List Place → ℕ
bytes_with o list = record_bytes (with_lists o.table (lists_with o list))

abbrev pub room_with : Opened → List Place → ℕ
room_with o list = least_slot_bytes (places_of (lists_with o list))

-- no place would be left without those on these slices
abbrev pub are_all : Opened → List SliceName → Bool
are_all o slices = is_empty (list_less slices (list_of o))
