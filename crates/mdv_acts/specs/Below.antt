-- The words of the crates below in which this crate speaks, so that a file of it needs one line of import.
pub use Rattle.mdv_base.specs.declared.drive.DriveNo.{DriveNo}
pub use Rattle.mdv_base.specs.declared.mark.Identity.{Identity}
pub use Rattle.mdv_base.specs.declared.name.Key.{Key}
pub use Rattle.mdv_base.specs.declared.place.Place.{Place}
pub use Rattle.mdv_name.specs.declared.geometry.Geometry.{Geometry}
pub use Rattle.mdv_name.specs.declared.slice_lines.SliceAt.{SliceAt}
pub use Rattle.mdv_name.specs.declared.slice_lines.SliceLine.{SliceLine}
pub use Rattle.mdv_replica.specs.Replica.{IsPlaced}
pub use Rattle.mdv_replica.specs.declared.replica.PlaceAt.{PlaceAt}
pub use Rattle.mdv_shelf.specs.Between.{TookBetween}
pub use Rattle.mdv_shelf.specs.Tale.{Tale}
pub use Rattle.mdv_shelf.specs.declared.shelf.Shelf.{Ghosts}
pub use Rattle.mdv_shown.specs.Site.{place_on}
