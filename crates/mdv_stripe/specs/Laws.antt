-- Laws about stripes.
use Rattle.std.specs.Prelude.{◌≡◌, ℕ, ◌*◌, ◌<◌, ◌≤◌, List, length}
use Rattle.mdv_stripe.specs.Below.{AreDisjoint, IsDisjoint, IsOn, Map, column_at, column_of, offset_of}
use Rattle.mdv_stripe.specs.declared.no_stripe.NoStripe.{NoStripe}
use Rattle.mdv_dev.specs.Together.{LiesAs}
use Rattle.mdv_stripe.specs.Stripes.{IsNoStripe, IsStripe, depth, striped}

-- this block of the stripe is that block of that column, and no other one is
pub record IsOnlyBlock (interlace : ℕ) (columns : List Map) (column offset b : ℕ) : Type 0 where
  pub below : b < (striped interlace columns).blocks
  pub in_column : column_of interlace (length columns) b ≡ column
  pub at_offset : offset_of interlace (length columns) b ≡ offset
  pub only : (a : ℕ) → column_of interlace (length columns) a ≡ column → offset_of interlace (length columns) a ≡ offset → a ≡ b

-- The blocks of a stripe and those of its columns that it takes are the same ones.
pub record LegsMatch : Type 0 where
  pub blocks : (interlace : ℕ) (columns : List Map) → (striped interlace columns).blocks ≡ length columns * depth interlace columns
  pub room : (interlace : ℕ) (columns : List Map) (column : ℕ) → column < length columns
      → depth interlace columns ≤ (column_at columns column).blocks
  -- a block of it is a block of a column
  pub column : (interlace : ℕ) (columns : List Map) (b : ℕ) → 0 < interlace → b < (striped interlace columns).blocks
      → column_of interlace (length columns) b < length columns
  pub offset : (interlace : ℕ) (columns : List Map) (b : ℕ) → 0 < interlace → b < (striped interlace columns).blocks
      → offset_of interlace (length columns) b < depth interlace columns
  pub lies : (interlace : ℕ) (columns : List Map) (b : ℕ) → 0 < interlace → b < (striped interlace columns).blocks
      → LiesAs (striped interlace columns) b (column_at columns (column_of interlace (length columns) b)) (offset_of interlace (length columns) b)
  -- and each block of a column that the stripe takes is exactly one of its blocks
  pub each : (interlace : ℕ) (columns : List Map) (column offset : ℕ) → 0 < interlace → column < length columns → offset < depth interlace columns
      → (b : ℕ) × IsOnlyBlock interlace columns column offset b

-- no two columns share a block of a drive, nor do two blocks of one
pub record AreApart (columns : List Map) : Type 0 where
  pub each : (i : ℕ) → i < length columns → IsDisjoint (column_at columns i)
  pub apart : (i j : ℕ) → i < length columns → j < length columns → (i ≡ j → ⊥) → AreDisjoint (column_at columns i) (column_at columns j)

-- A stripe is on the drives, and its blocks apart from each other and from those of others, where its columns are.
pub record StripesStand : Type 0 where
  pub on : (sizes : List ℕ) (interlace : ℕ) (columns : List Map) → 0 < interlace
      → ((i : ℕ) → i < length columns → IsOn sizes (column_at columns i)) → IsOn sizes (striped interlace columns)
  pub disjoint : (interlace : ℕ) (columns : List Map) → 0 < interlace → AreApart columns → IsDisjoint (striped interlace columns)
  pub apart : (interlace : ℕ) (columns : List Map) (u : Map) → 0 < interlace
      → ((i : ℕ) → i < length columns → AreDisjoint (column_at columns i) u) → AreDisjoint (striped interlace columns) u

-- There is one cause at most for which columns make no stripe, and none where they make one.
pub record CausesExclude : Type 0 where
  pub one : (interlace : ℕ) (columns : List Map) (a b : NoStripe) → IsNoStripe interlace columns a → IsNoStripe interlace columns b → a ≡ b
  pub none : (interlace units : ℕ) (columns : List Map) (why : NoStripe) → IsNoStripe interlace columns why → IsStripe interlace units columns → ⊥
