-- The words of the crates below in which this crate speaks, so that a file of it needs one line of import.
pub use Rattle.mdv_shelf.specs.Area.{Area, AreApart, IsKept, KeptOutside, range}
pub use Rattle.mdv_shelf.specs.Everywhere.{Image}
pub use Rattle.mdv_shelf.specs.Settle.{IsOldOrNew}
pub use Rattle.mdv_shelf.specs.Tale.{Among, Begun, IsImage, MayLeave, Start, Tale, last, told, values}
