-- The words of the crates below in which this crate speaks, so that a file of it needs one line of import.
pub use Rattle.mdv_acts.specs.Below.{PlaceAt, SliceAt}
pub use Rattle.mdv_base.specs.declared.drive.DriveNo.{DriveNo}
pub use Rattle.mdv_base.specs.declared.mark.Identity.{Identity}
pub use Rattle.mdv_base.specs.declared.mark.Mark.{Mark}
pub use Rattle.mdv_base.specs.declared.name.Key.{Key}
pub use Rattle.mdv_base.specs.declared.place.Place.{Place}
pub use Rattle.mdv_base.specs.declared.drive.SliceName.{SliceName}
pub use Rattle.mdv_name.specs.declared.geometry.Geometry.{Geometry}
pub use Rattle.mdv_name.specs.declared.slice_lines.SliceLine.{SliceLine}
pub use Rattle.mdv_encoding.specs.Text.{record_bytes, record_text}
pub use Rattle.mdv_config.specs.Lists.{with_lists}
pub use Rattle.mdv_whole.specs.declared.encoding.TooLong.{TooLong}
pub use Rattle.mdv_replica.specs.Replica.{IsPlaced}
pub use Rattle.mdv_shelf.specs.Area.{Area, range}
pub use Rattle.mdv_shelf.specs.Tale.{Tale}
pub use Rattle.mdv_shelf.specs.declared.shelf.Shelf.{Ghosts}
pub use Rattle.mdv_store.specs.Below.{Change, Core, Database, Event, Failures, IsMade, IsOfGeometry, IsReadyWith, IsSound, Log, RestStands, Replica, Spot, Table, TracesFrom, asks_of, last_of, places_of, settled, site_of}
pub use Rattle.mdv_store.specs.Commit.{next_mark}
pub use Rattle.mdv_store.specs.Create.{seats_asked}
pub use Rattle.mdv_store.specs.Opened.{IsOpenedAt, Opened, shortage}
pub use Rattle.mdv_store.specs.Seats.{AreLaid, AreLeft, TakesSlot, active_of, drives_of, replicas_of, seats_area, spots_of}
pub use Rattle.mdv_survey.specs.Replica.{at_of}
pub use Rattle.mdv_store.specs.declared.seats.Seat.{Seat}
pub use Rattle.mdv_store.specs.declared.seats.Share.{Share}
pub use Rattle.mdv_name.specs.SliceIndex.{same_slice, slice_at}
pub use Rattle.mdv_config.specs.Lists.{beside, same_place}
pub use Rattle.mdv_plan.specs.declared.lists.Lists.{Lists}
pub use Rattle.mdv_plan.specs.declared.lists.Lists.TheVariants.{One, Two}
