-- The words of the crates below in which this crate speaks, so that a file of it needs one line of import.
pub use Rattle.mdv_base.specs.Bytes.{padded_to}
pub use Rattle.mdv_base.specs.Mark.{IsBelow}
pub use Rattle.mdv_base.specs.Name.{IsName}
pub use Rattle.mdv_base.specs.declared.drive.SliceName.{SliceName}
pub use Rattle.mdv_base.specs.declared.flags.Flags.{Flags}
pub use Rattle.mdv_base.specs.declared.mark.Identity.{Identity}
pub use Rattle.mdv_base.specs.declared.mark.Mark.{Mark}
pub use Rattle.mdv_base.specs.declared.name.Key.{Key}
pub use Rattle.mdv_base.specs.declared.name.Key.TheVariants.{Local, Set}
pub use Rattle.mdv_base.specs.declared.place.Place.{Place}
pub use Rattle.mdv_shelf.specs.Area.{Area, KeptOutside, joined, range}
pub use Rattle.mdv_shelf.specs.Calls.{Shows}
pub use Rattle.mdv_shelf.specs.Everywhere.{Everywhere, Image, Leaves}
pub use Rattle.mdv_shelf.specs.Moments.{Ends, Moments}
pub use Rattle.mdv_shelf.specs.Settle.{IsFixed, IsSettled, IsSynced, Settling}
pub use Rattle.mdv_shelf.specs.Tale.{IsImage, MayLeave, Tale, covers, last, told}
