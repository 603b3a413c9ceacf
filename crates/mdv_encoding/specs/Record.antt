-- What encoding and decoding answer.
use Rattle.std.specs.Prelude.{◌≡◌, ◌≤◌, ℕ, List, Result, IfOk, Err, length, take, drop}
use Rattle.mdv_encoding.specs.Below.{Geometry, Table, IsOfGeometry, places_of, RecordError, NotARecord}
use Rattle.mdv_encoding.specs.Room.{least_slot_bytes}
use Rattle.mdv_encoding.specs.Text.{record_text}

-- so many bytes are the table's text, and those behind are as before
pub record IsEncoded (t : Table) (old new : List ℕ) (bytes : ℕ) : Type 0 where
  pub size : bytes ≡ length (record_text t)
  pub text : take bytes new ≡ record_text t
  pub behind : drop bytes new ≡ drop bytes old

-- the bytes are the text of this table of the geometry, and fit each slot of the places that it lists
pub record IsRecordOf (g : Geometry) (bytes : List ℕ) (t : Table) : Type 0 where
  pub of_geometry : IsOfGeometry g t
  pub text : bytes ≡ record_text t
  pub in_room : length (record_text t) ≤ least_slot_bytes (places_of t.plan.lists)

-- the table whose record the bytes are, or none where they are no table's
pub record IsDecoded (g : Geometry) (bytes : List ℕ) (answer : Result Table RecordError) : Type 0 where
  pub table : IfOk answer (IsRecordOf g bytes)
  pub none : answer ≡ Err NotARecord → (t : Table) → IsRecordOf g bytes t → ⊥
