-- The words of the crates below in which this crate speaks, so that a file of it needs one line of import.
pub use Rattle.mdv_map.specs.Maps.{AreColumns, AreDisjoint, IsDisjoint, Map, column_at, column_of, no_map, offset_of, stripe_map}
pub use Rattle.mdv_dev.specs.Pieces.{IsOn, IsOneCopy, IsPiece, LiesAt}
pub use Rattle.mdv_dev.specs.declared.piece.Piece.{Piece}
