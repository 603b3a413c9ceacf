-- Runs of blocks of a base: which blocks they have, and runs in order. A used run is the blocks of an extent; its
-- header is the block before it.
use Rattle.std.specs.Prelude.{◌<◌, ◌≤◌, ◌+◌, ◌-◌, ◌&&◌, ◌==◌, ℕ, Bool, not, nat_le, nat_lt, List, [], ◌∷◌, map, filter}
use Rattle.std.specs.List.{list_any}
use Rattle.mdv_extent.specs.declared.run.Run.{Run}

-- the block behind the run's last one
abbrev pub end_of : Run → ℕ
end_of r = r.at + r.blocks

-- the run has the block
abbrev pub has : Run → ℕ → Bool
has r k = nat_le r.at k && nat_lt k (end_of r)

-- some run of the list has it
abbrev pub covers : List Run → ℕ → Bool
covers runs k = list_any (λ (r : Run). has r k) runs

-- an extent with its header
abbrev pub with_header : Run → Run
with_header r = record { at = r.at - 1; blocks = r.blocks + 1 }

-- some extent of the list, or its header, lies on the block
abbrev pub takes : List Run → ℕ → Bool
takes extents k = covers (map with_header extents) k

-- the runs lie from one block up to another, and none begins before the one in front of it ends
abbrev pub IsInOrder : ℕ → ℕ → List Run → Type 0
IsInOrder low high [] = low ≤ high
IsInOrder low high (r ∷ runs) = (low ≤ r.at) × IsInOrder (end_of r) high runs

-- the runs lie behind that block in order, none is empty, and between two of them is a block that neither has
abbrev pub IsSpread : ℕ → List Run → Type 0
IsSpread low [] = Unit {0}
IsSpread low (r ∷ runs) = (low ≤ r.at) × (0 < r.blocks) × IsSpread (end_of r + 1) runs

abbrev pub same_run : Run → Run → Bool
same_run r s = (r.at == s.at) && (r.blocks == s.blocks)

-- the run is one of the list
abbrev pub is_one_of : List Run → Run → Bool
is_one_of runs r = list_any (same_run r) runs

-- the runs that are kept where others go
abbrev pub released : List Run → List Run → List Run
released used gone = filter (λ (r : Run). not (is_one_of gone r)) used
