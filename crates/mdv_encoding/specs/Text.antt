-- The text of a table, and how many bytes it has.
use Rattle.std.specs.Prelude.{◌-◌, ◌^◌, ℕ, List, length, map, min}
use Rattle.mdv_codec.specs.Recorded.{part_text, row_text, volume_text}
use Rattle.mdv_encoding.specs.Below.{Component, OneVolume, RecordedPart, RecordedRow, RecordedVolume, Row, Table, quiet_part, quiet_volume}
use Rattle.mdv_whole.specs.Sides.{volume_of}
use Rattle.mdv_whole.specs.Text.{table_text}

-- the one text of the table
abbrev pub record_text : Table → List ℕ
record_text t = table_text t

-- How many bytes it has, as they are counted: a count ends at 2 ^ 64 - 1.
abbrev pub record_bytes : Table → ℕ
record_bytes t = min (length (record_text t)) (2 ^ 64 - 1)

-- A volume of which nothing failed, as a record has it, and each part of its stripes.
abbrev pub quiet_recorded : OneVolume → RecordedVolume
quiet_recorded v = volume_of v (quiet_volume v)

abbrev pub okay_part : Component → RecordedPart
okay_part c = record { component = c; status = quiet_part }

abbrev pub okay_row : Row → RecordedRow
okay_row row = record { interlace = row.interlace; parts = map okay_part row.components }

-- and their texts
abbrev pub okay_part_text : Component → List ℕ
okay_part_text c = part_text (okay_part c)

abbrev pub okay_row_text : Row → List ℕ
okay_row_text row = row_text (okay_row row)

abbrev pub quiet_text : OneVolume → List ℕ
quiet_text v = volume_text (quiet_recorded v)
