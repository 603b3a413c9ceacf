-- Texts of tables that are of one table of drives.
use Rattle.std.specs.Prelude.{◌≡◌, ℕ, List, Result, MatchResult, IfOk}
use Rattle.mdv_fitting.specs.Below.{Geometry, Table, RecordError, Memory, IsTable, table_text}
use Rattle.mdv_fitting.specs.Fit.{IsOf}

-- the bytes are the text of a table of this table of drives
pub record IsTextOf (g : Geometry) (bytes : List ℕ) (t : Table) : Type 0 where
  pub table : IsTable t
  pub of : IsOf g t
  pub text : bytes ≡ table_text t

-- what is decoded is one whose text the bytes are; and one whose text they are is decoded, unless memory is wanting
pub record IsDecodedOf (g : Geometry) (bytes : List ℕ) (answer : Result Table RecordError) : Type 0 where
  pub read : IfOk answer (IsTextOf g bytes)
  pub spelled : (t : Table) → IsTextOf g bytes t → MatchResult answer (λ s. s ≡ t) (λ e. e ≡ Memory)
