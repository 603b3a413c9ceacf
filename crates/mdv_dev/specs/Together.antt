-- Where the blocks of a device made of others lie, and which of them lie together.
use Rattle.std.specs.Prelude.{◌≡◌, ℕ, ◌+◌, ◌<◌, ◌≤◌, ◌^◌}
use Rattle.std.proofs.Common.{◌∙◌}
use Rattle.mdv_map.specs.Maps.{Map}
use Rattle.mdv_dev.specs.Pieces.{LiesAt}
use Rattle.mdv_dev.specs.declared.piece.Piece.{Piece}

-- a block of one map lies where that block of another one does
pub record LiesAs (v : Map) (b : ℕ) (w : Map) (a : ℕ) : Type 0 where
  pub below : a < w.blocks
  pub copies : v.copies b ≡ w.copies a
  pub places : v.places b ≡ w.places a

-- so it lies where that one is said to lie
pub lies_where : (v w : Map) (b a drive block : ℕ) → LiesAs v b w a → LiesAt w a drive block → LiesAt v b drive block
lies_where v w b a drive block same there = record { copies = same.copies ∙ there.copies; places = same.places ∙ there.places }

-- some of these blocks, the first ones, one behind another on a drive: a piece, but for its length
pub record LieTogether (v : Map) (at count : ℕ) (piece : Piece) : Type 0 where
  pub some : 0 < piece.count
  pub within : piece.count ≤ count
  pub lies : (k : ℕ) → k < piece.count → LiesAt v (at + k) piece.drive.0 (piece.block + k)
  pub fits : piece.block + piece.count < 2 ^ 64
