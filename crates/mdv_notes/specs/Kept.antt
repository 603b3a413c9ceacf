-- What a note leaves of the text of a table.
use Rattle.std.specs.Prelude.{◌≡◌, Some, length}
use Rattle.mdv_codec.specs.Record.{IsRecord}
use Rattle.mdv_fields.specs.Parts.{SpareUseFits}
use Rattle.mdv_whole.specs.Sides.{recorded_of}
use Rattle.mdv_whole.specs.Text.{table_text}
use Rattle.mdv_notes.specs.Below.{Table}
use Rattle.mdv_notes.specs.Noted.{noted_of}
use Rattle.mdv_notes.specs.declared.note.Note.{Note}
use Rattle.mdv_notes.specs.declared.note.Note.TheVariants.{Part}
use Rattle.mdv_notes.specs.declared.note.PartNote.{PartNote}
use Rattle.mdv_notes.specs.declared.note.PartNote.TheVariants.{Spared}

abbrev pub PartNoteFits : PartNote → Type 0
PartNoteFits (Spared u) = SpareUseFits (Some u)
PartNoteFits note = Unit {0}

-- its numbers have the bytes that a record has for them, as those of each note in a program have
abbrev pub NoteFits : Note → Type 0
NoteFits (Part at note) = PartNoteFits note
NoteFits n = Unit {0}

-- the text is as long as it was; and what had a record has one, where the note fits
pub record KeepsText (t : Table) (n : Note) : Type 0 where
  pub size : length (table_text (noted_of t n)) ≡ length (table_text t)
  pub fits : NoteFits n → IsRecord (recorded_of t) → IsRecord (recorded_of (noted_of t n))
