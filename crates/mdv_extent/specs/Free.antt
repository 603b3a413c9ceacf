-- Which blocks of a base are free, as runs.
use Rattle.std.specs.Prelude.{◌≡◌, ◌≤◌, ◌-◌, ◌&&◌, ℕ, not, nat_lt, min, max, List, [], ◌∷◌, ◌++◌, if◌then◌else◌}
use Rattle.mdv_extent.specs.declared.run.Run.{Run}
use Rattle.mdv_extent.specs.Runs.{end_of, covers, takes, with_header, IsSpread}

-- a used run may lie there: its header lies before it, and it ends within the base
pub record IsUsed (blocks : ℕ) (r : Run) : Type 0 where
  pub header : 1 ≤ r.at
  pub within : end_of r ≤ blocks

-- the runs have exactly the blocks of the base on which no used run and no header lies, and none of them can be longer
pub record IsFree (blocks : ℕ) (used free : List Run) : Type 0 where
  pub covered : (k : ℕ) → covers free k ≡ (nat_lt k blocks && not (takes used k))
  pub longest : IsSpread 0 free

-- the blocks from one up to another as a run, where there are any
abbrev pub between : ℕ → ℕ → List Run
between low high = if nat_lt low high then record { at = low; blocks = high - low } ∷ [] else []

-- what is left of runs without the blocks of another one
abbrev pub without : Run → List Run → List Run
without gone [] = []
without gone (r ∷ runs) = between r.at (min (end_of r) gone.at) ++ (between (max r.at (end_of gone)) (end_of r) ++ without gone runs)

-- what is left of the base without each used run and its header
unfoldable pub free_of : ℕ → List Run → List Run
free_of blocks [] = between 0 blocks
free_of blocks (r ∷ used) = without (with_header r) (free_of blocks used)
