-- The table whose text some bytes are: each part is read from their front, and at the end the text of what was read is held against them.
use Rattle.std.specs.Prelude.{◌≡◌, ◌*◌, ◌==◌, ◌&&◌, ℕ, zero, suc, List, [], ◌∷◌, length, drop, slice_index, nat_le, Option, None, Some, if◌then◌else◌}
use Rattle.std.specs.Str.{bytes_eq}
use Rattle.byteorder.specs.Endian.{big_number}
use Rattle.mdv_encoding.specs.Below.{Geometry, SliceName, Place, Lists, One, Two, Plan, Table, Base, Slice, Component, Row, OneStripe, OneVolume, VolumeKind, Stripe, is_of_geometry, no_set, places_of, quiet_status}
use Rattle.mdv_encoding.specs.Room.{least_slot_bytes}
use Rattle.mdv_encoding.specs.Text.{okay_part_text, okay_row_text, quiet_text, record_text}
use Rattle.mdv_fields.specs.Parts.{place_text}

abbrev pub slice_from : List ℕ → SliceName
slice_from bytes = record { drive = record { controller = slice_index bytes 0; target = slice_index bytes 1; disk = slice_index bytes 2 }; slice = slice_index bytes 3 }

abbrev pub place_from : List ℕ → Place
place_from bytes = record { slice = slice_from bytes; start = big_number 4 (drop 4 bytes); blocks = big_number 4 (drop 8 bytes) }

-- so many values one behind another: each is read, and its text passed over
abbrev pub many_from : {A : Type 0} → (List ℕ → A) → (A → List ℕ) → ℕ → List ℕ → List A
many_from read text zero bytes = []
many_from read text (suc n) bytes = read bytes ∷ many_from read text n (drop (length (text (read bytes))) bytes)

abbrev pub base_from : List ℕ → Base
base_from bytes = Slice (slice_from (drop 1 bytes))

-- the state behind it isn't looked at
abbrev pub component_from : List ℕ → Component
component_from bytes = record { on = base_from bytes; start = big_number 8 (drop 5 bytes); blocks = big_number 8 (drop 13 bytes) }

-- width, interlace and components
abbrev pub row_from : List ℕ → Row
row_from bytes = record { interlace = big_number 4 (drop 2 bytes); components = many_from component_from okay_part_text (big_number 2 bytes) (drop 6 bytes) }

-- behind three bytes of no pool, how many rows, and each
abbrev pub stripe_from : List ℕ → OneStripe
stripe_from bytes = record { rows = many_from row_from okay_row_text (big_number 2 (drop 3 bytes)) (drop 5 bytes); spares = None }

-- no volume of a table has no row
abbrev pub no_rows : OneStripe
no_rows = record { rows = []; spares = None }

-- by the byte of the kind
abbrev pub kind_from : List ℕ → VolumeKind
kind_from bytes = if slice_index bytes 0 == 0 then Stripe (stripe_from (drop 1 bytes)) else Stripe no_rows

abbrev pub volume_from : List ℕ → OneVolume
volume_from bytes = record { number = record { 0 = big_number 2 bytes }; kind = kind_from (drop 2 bytes) }

-- a count of two bytes, and each volume
abbrev pub volumes_from : List ℕ → List OneVolume
volumes_from bytes = many_from volume_from quiet_text (big_number 2 bytes) (drop 2 bytes)

-- a count of one byte, and each place
abbrev pub places_from : List ℕ → List Place
places_from bytes = many_from place_from place_text (slice_index bytes 0) (drop 1 bytes)

-- and what stands behind them, 12 bytes each
abbrev pub behind_places : List ℕ → List ℕ
behind_places bytes = drop (12 * slice_index bytes 0) (drop 1 bytes)

-- a byte says how many lists there are, and each follows
abbrev pub lists_from : List ℕ → Lists
lists_from bytes =
    let first = drop 1 bytes in
    if slice_index bytes 0 == 2 then Two (places_from first) (places_from (behind_places first)) else One (places_from first)

abbrev pub behind_lists : List ℕ → List ℕ
behind_lists bytes =
    let rest = behind_places (drop 1 bytes) in
    if slice_index bytes 0 == 2 then behind_places rest else rest

-- a local table with these lists and volumes alone, of which nothing failed
abbrev pub plan_with : Lists → List OneVolume → Plan
plan_with lists volumes = record { lists = lists; set = no_set; pending = []; pools = []; volumes = volumes }

abbrev pub table_with : Lists → List OneVolume → Table
table_with lists volumes = let plan = plan_with lists volumes in record { plan = plan; status = quiet_status plan }

-- From byte 12 on there are the lists; behind them are eight bytes of no set, no pending sets and no pools, and the volumes.
unfoldable pub table_from : List ℕ → Table
table_from bytes =
    let lists = drop 12 bytes in
    table_with (lists_from lists) (volumes_from (drop 8 (behind_lists lists)))

-- the table of the geometry whose text the bytes are, where there is one and each slot of the places that it lists has room for them
unfoldable pub read_of : Geometry → List ℕ → Option Table
read_of g bytes =
    let table = table_from bytes in
    let text = record_text table in
    if bytes_eq text bytes && (is_of_geometry g table && nat_le (length text) (least_slot_bytes (places_of table.plan.lists))) then Some table else None

-- this table is read of the bytes
abbrev pub IsTextOf : Geometry → List ℕ → Table → Type 0
IsTextOf g bytes t = read_of g bytes ≡ Some t
