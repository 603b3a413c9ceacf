-- The words of the crates below in which this crate speaks, so that a file of it needs one line of import.
pub use Rattle.mdv_map.specs.Maps.{AreDisjoint, HasDriveBlock, IsDisjoint, Map, run_map, soft_map}
pub use Rattle.mdv_dev.specs.Pieces.{IsOn, IsOneCopy, IsPiece, LiesAt}
pub use Rattle.mdv_dev.specs.declared.piece.Piece.{Piece}
pub use Rattle.mdv_extent.specs.declared.run.Run.{Run}
pub use Rattle.mdv_extent.specs.Runs.{covers, end_of, has, takes, with_header}
pub use Rattle.mdv_extent.specs.Extents.{IsApart, IsExtent, IsExtents, LieApart}
pub use Rattle.mdv_dev.specs.Together.{LieTogether, LiesAs, lies_where}
