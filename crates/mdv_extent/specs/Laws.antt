-- What the free runs, extents that are given and extents that are given back come to, block by block.
use Rattle.std.specs.Prelude.{◌≡◌, ◌≤◌, ◌&&◌, ◌||◌, ℕ, true, false, not, nat_lt, List, ◌++◌, length, All, Ok}
use Rattle.mdv_extent.specs.declared.run.Run.{Run}
use Rattle.mdv_extent.specs.Runs.{covers, takes, released, is_one_of, IsInOrder}
use Rattle.mdv_extent.specs.Free.{IsFree, free_of}
use Rattle.mdv_extent.specs.Share.{allotted}
use Rattle.mdv_extent.specs.Extents.{LieApart, IsExtents, IsAllotment, lie_apart}

-- what is left of a base is free, and lies in it in order
abbrev pub FreeRunsAreFree : Type 0
FreeRunsAreFree = (blocks : ℕ) (used : List Run) → IsFree blocks used (free_of blocks used) × IsInOrder 0 blocks (free_of blocks used)

-- no two lists are the free runs of a base
abbrev pub OneListIsFree : Type 0
OneListIsFree = (blocks : ℕ) (used one other : List Run) → IsFree blocks used one → IsFree blocks used other → one ≡ other

-- extents that are given lie in the free runs, have as many blocks as were needed, and lie in order
abbrev pub AllotmentsLieFree : Type 0
AllotmentsLieFree = (low high need : ℕ) (free extents : List Run) → IsInOrder low high free → 1 ≤ need → allotted free need ≡ Ok extents → IsAllotment low high free need extents

-- extents that are given out of a base's free runs
pub record IsTaken (blocks : ℕ) (used taken : List Run) : Type 0 where
  -- are extents of the base
  pub extents : IsExtents blocks taken
  -- have no block that was used, nor do their headers
  pub unused : (k : ℕ) → takes taken k ≡ true → takes used k ≡ false
  -- lie apart from all others of the base
  pub together : LieApart blocks used → LieApart blocks (used ++ taken)
  -- and leave free exactly the other blocks that were
  pub rest : (k : ℕ) → covers (free_of blocks (used ++ taken)) k ≡ (covers (free_of blocks used) k && not (takes taken k))

abbrev pub UsedRunsStay : Type 0
UsedRunsStay = (blocks need : ℕ) (used taken : List Run) → 1 ≤ need → allotted (free_of blocks used) need ≡ Ok taken → IsTaken blocks used taken

-- extents that are asked for, and lie apart from each other and from those that there are
abbrev pub GivenExtentsStay : Type 0
GivenExtentsStay = (blocks : ℕ) (used given : List Run) → length given ≤ 16 → lie_apart blocks (used ++ given) ≡ true → IsTaken blocks used given

-- extents that are given back
pub record IsGivenBack (blocks : ℕ) (used gone : List Run) : Type 0 where
  -- exactly their blocks and headers aren't used any more
  pub kept : (k : ℕ) → takes (released used gone) k ≡ (takes used k && not (takes gone k))
  -- and become free
  pub freed : (k : ℕ) → covers (free_of blocks (released used gone)) k ≡ (covers (free_of blocks used) k || (nat_lt k blocks && takes gone k))
  -- those that stay lie apart
  pub others : LieApart blocks (released used gone)

abbrev pub ReleasesGiveBack : Type 0
ReleasesGiveBack = (blocks : ℕ) (used gone : List Run) → LieApart blocks used → All (λ (r : Run). is_one_of used r ≡ true) gone → IsGivenBack blocks used gone
