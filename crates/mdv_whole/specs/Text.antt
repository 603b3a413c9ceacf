-- The one text of a table.
use Rattle.std.specs.Prelude.{◌≡◌, ℕ, List, Result, MatchResult, IfOk}
use Rattle.mdv_codec.specs.Record.{record_text, IsRecord}
use Rattle.mdv_fields.specs.declared.fault.RecordError.{RecordError}
use Rattle.mdv_fields.specs.declared.fault.RecordError.TheVariants.{Memory}
use Rattle.mdv_whole.specs.Below.{Lists, Table}
use Rattle.mdv_whole.specs.Parted.{table_of}
use Rattle.mdv_whole.specs.Sides.{recorded_of, recorded_with}

-- the text of its record
abbrev pub table_text : Table → List ℕ
table_text t = record_text (recorded_of t)

-- the text that it would have with these lists of places
abbrev pub text_with : Table → Lists → List ℕ
text_with t lists = record_text (recorded_with t lists)

-- its record keeps all of it, and is one: what is noted is noted of the volumes and spares of the plan, and of nothing else
pub record IsTable (t : Table) : Type 0 where
  pub whole : table_of (recorded_of t) ≡ t
  pub record_fits : IsRecord (recorded_of t)

-- what is decoded has the bytes as its text; and what has them is decoded, unless memory is wanting
pub record IsDecoded (bytes : List ℕ) (answer : Result Table RecordError) : Type 0 where
  pub read : IfOk answer (λ t. IsTable t × (bytes ≡ table_text t))
  pub spelled : (t : Table) → IsTable t → bytes ≡ table_text t → MatchResult answer (λ s. s ≡ t) (λ e. e ≡ Memory)
