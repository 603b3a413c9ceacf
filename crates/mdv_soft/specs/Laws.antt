-- Laws about soft partitions.
use Rattle.std.specs.Prelude.{◌≡◌, ℕ, ◌+◌, ◌-◌, ◌<◌, ◌≤◌, true, false, List, ◌++◌, length, take}
use Rattle.std.specs.List.{All, slice_index_or}
use Rattle.mdv_soft.specs.Below.{AreDisjoint, HasDriveBlock, IsDisjoint, IsOn, IsPiece, LieApart, LiesAs, Map, Piece, Run, covers, run_map, takes}
use Rattle.mdv_soft.specs.declared.no_soft.NoSoft.{NoSoft}
use Rattle.mdv_soft.specs.Softs.{IsNoSoft, IsSoft, left_in, picked, soft_on, total}

-- this block of the soft partition is that block of the base, and no other one is
pub record IsOnlyBlock (extents : List Run) (at b : ℕ) : Type 0 where
  pub below : b < total extents
  pub is : picked extents b ≡ at
  pub only : (a : ℕ) → a < total extents → picked extents a ≡ at → a ≡ b

-- no block has an extent of the one and an extent of the other, with their headers
abbrev pub AreBeside : List Run → List Run → Type 0
AreBeside one other = (k : ℕ) → takes one k ≡ true → takes other k ≡ false

-- The blocks of a soft partition and those of its extents are the same ones.
pub record ExtentsMatch : Type 0 where
  -- block o of an extent is block o behind those of the extents before it
  pub follows : (extents : List Run) (i o : ℕ) (r : Run) → i < length extents → slice_index_or extents i r ≡ r → o < r.blocks
      → picked extents (total (take i extents) + o) ≡ r.at + o
  -- they fit, with a header for each
  pub room : (blocks : ℕ) (extents : List Run) → LieApart blocks extents → total extents + length extents ≤ blocks
  -- a block of it is a block of an extent
  pub covered : (extents : List Run) (b : ℕ) → b < total extents → covers extents (picked extents b) ≡ true
  pub lies : (v : Map) (extents : List Run) (b : ℕ) → LieApart v.blocks extents → b < total extents → LiesAs (soft_on v extents) b v (picked extents b)
  -- each block of an extent is exactly one of its blocks
  pub each : (blocks : ℕ) (extents : List Run) (at : ℕ) → LieApart blocks extents → covers extents at ≡ true → (b : ℕ) × IsOnlyBlock extents at b
  -- and no block is a header, of its own extents or of others
  pub headers : (blocks : ℕ) (extents : List Run) → LieApart blocks extents → All (λ (r : Run). covers extents (r.at - 1) ≡ false) extents
  pub others : (one other : List Run) → AreBeside one other → All (λ (r : Run). covers one (r.at - 1) ≡ false) other
  -- extents of one list, where all lie apart
  pub listed : (blocks : ℕ) (one other : List Run) → LieApart blocks (one ++ other) → LieApart blocks one × LieApart blocks other × AreBeside one other

-- A soft partition is on the drives where its base is, and its blocks apart from each other, from the base's other blocks and from
-- those of others.
pub record SoftsStand : Type 0 where
  pub on : (sizes : List ℕ) (v : Map) (extents : List Run) → LieApart v.blocks extents → IsOn sizes v → IsOn sizes (soft_on v extents)
  pub disjoint : (v : Map) (extents : List Run) → LieApart v.blocks extents → IsDisjoint v → IsDisjoint (soft_on v extents)
  -- what shares nothing with the base shares nothing with it
  pub apart : (v : Map) (extents : List Run) (u : Map) → LieApart v.blocks extents → AreDisjoint v u → AreDisjoint (soft_on v extents) u
  -- it has no block of a drive on which a block of the base lies that isn't in its extents, as those of headers aren't
  pub others : (v : Map) (extents : List Run) (at : ℕ) → LieApart v.blocks extents → IsDisjoint v → at < v.blocks → covers extents at ≡ false
      → (b drive block : ℕ) → b < total extents → HasDriveBlock ((soft_on v extents).places b) drive block → HasDriveBlock (v.places at) drive block → ⊥
  -- two of them, whose extents lie beside each other
  pub beside : (v : Map) (one other : List Run) → LieApart v.blocks one → LieApart v.blocks other → AreBeside one other → IsDisjoint v
      → AreDisjoint (soft_on v one) (soft_on v other)

-- Between two extents is a header. So the next block behind an extent's last one isn't the base's next, and on a run of a drive a piece is
-- of one extent. Where the base's own blocks don't lie in their order, as those of a stripe, it may go on.
pub record PiecesEnd : Type 0 where
  pub gap : (blocks : ℕ) (extents : List Run) (b : ℕ) → LieApart blocks extents → b + left_in extents b < total extents
      → picked extents (b + left_in extents b) ≡ picked extents b + left_in extents b → ⊥
  pub on_run : (drive first count : ℕ) (extents : List Run) (at some : ℕ) (piece : Piece) → LieApart count extents → at + some ≤ total extents
      → IsPiece (soft_on (run_map drive first count) extents) at some piece → piece.count ≤ left_in extents at

-- There is one cause at most for which extents make no soft partition, and none where they make one.
pub record CausesExclude : Type 0 where
  pub one : (blocks : ℕ) (extents : List Run) (a b : NoSoft) → IsNoSoft blocks extents a → IsNoSoft blocks extents b → a ≡ b
  pub none : (blocks : ℕ) (extents : List Run) (why : NoSoft) → IsNoSoft blocks extents why → IsSoft blocks extents → ⊥
