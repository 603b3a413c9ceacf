-- What was laid in front of all is encoded.
use Rattle.std.proofs.Common.{ℕ, List, Result, Ok, Err, IfOk, arith}
use Rattle.mdv_encoding.specs.Below.{Table}
use Rattle.mdv_encoding.specs.Record.{IsEncoded}
use Rattle.mdv_encoding.specs.Text.{record_text}
use Rattle.mdv_fields.specs.Laying.{IsPlaced}

pub placed_encoded : {E : Type 0} (t : Table) (old new : List ℕ) (answer : Result ℕ E) → IfOk answer (IsPlaced 0 old new (record_text t)) → IfOk answer (IsEncoded t old new)
placed_encoded t old new (Err e) placed = tt
placed_encoded t old new (Ok bytes) placed = record { size = omega (arith, placed.size); text = placed.front; behind = placed.behind }
