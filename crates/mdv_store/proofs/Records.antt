-- Which text is the record of a table.
use Rattle.std.proofs.Common.{◌≡◌, ◌≤◌, ℕ, List, length, subst, arith}
use Rattle.mdv_encoding.proofs.Lengths.{bytes_are}
use Rattle.mdv_encoding.proofs.Reading.{is_read}
use Rattle.mdv_encoding.proofs.Rooms.{room_most}
use Rattle.mdv_encoding.specs.Record.{IsRecordOf}
use Rattle.mdv_encoding.specs.Room.{least_slot_bytes}
use Rattle.mdv_store.specs.Below.{Geometry, IsOfGeometry, IsSound, Place, Table, places_of, record_bytes, record_text}
use Rattle.mdv_store.specs.Records.{Spells}

-- a text that some places have room for is short, so it is counted exactly
pub counted_in : (table : Table) (places : List Place) → record_bytes table ≤ least_slot_bytes places → record_bytes table ≡ length (record_text table)
counted_in table places in_room = bytes_are table (omega (arith, in_room, room_most places))

-- a table's text is its record, where it fits its places
pub record_spelled : (g : Geometry) (text : List ℕ) (table : Table) → IsSound g → IsOfGeometry g table → record_bytes table ≤ least_slot_bytes (places_of table.plan.lists) → text ≡ record_text table → Spells g text table
record_spelled g text table sound of_geometry in_room is = (is_read g sound text table).1 (record { of_geometry = of_geometry; text = is; in_room = subst (λ (n : ℕ). n ≤ least_slot_bytes (places_of table.plan.lists)) (counted_in table (places_of table.plan.lists) in_room) in_room })

-- and a text that is a table's record is of a table of the geometry, and fits its places
pub spelled_of : (g : Geometry) (text : List ℕ) (table : Table) → IsSound g → Spells g text table → IsRecordOf g text table
spelled_of g text table sound is = (is_read g sound text table).0 is
