-- How long a text may be that each place of a table has room for. A place has two slots behind its head, and a slot keeps one text.
use Rattle.std.specs.Prelude.{◌-◌, ◌*◌, ◌/◌, ℕ, min, List, [], ◌∷◌}
use Rattle.mdv_encoding.specs.Below.{Place}

-- how many blocks a slot has of a place of so many: half of what four blocks of head leave
abbrev pub slot_room : ℕ → ℕ
slot_room blocks = (blocks - 4) / 2

-- how many the smallest slot of these places has; one of the longest place has 4094
abbrev pub least_room : List Place → ℕ
least_room [] = 4094
least_room (p ∷ ps) = min (slot_room p.blocks) (least_room ps)

-- and how many bytes these are
abbrev pub least_slot_bytes : List Place → ℕ
least_slot_bytes places = 512 * least_room places
