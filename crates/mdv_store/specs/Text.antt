-- The text of a table, in whole blocks.
use Rattle.std.specs.Prelude.{◌≡◌, ◌≤◌, ◌+◌, ◌/◌, ℕ, max, List, length, take}
use Rattle.std.specs.List.{concat}
use Rattle.mdv_store.specs.Below.{Table, record_bytes, record_text}

-- how many blocks are written for a text of so many bytes: one at least
abbrev pub blocks_for : ℕ → ℕ
blocks_for bytes = max 1 ((bytes + 511) / 512)

-- a body of just the blocks that it takes begins with the table's text, which has so many bytes
pub record IsSpelled (table : Table) (bytes : ℕ) (body : List (List ℕ)) : Type 0 where
  pub counted : bytes ≡ record_bytes table
  pub blocks : length body ≡ blocks_for bytes
  pub in_body : bytes ≤ length (concat body)
  pub text : take bytes (concat body) ≡ record_text table
