-- The words of the crates below in which this crate speaks, so that a file of it needs one line of import.
pub use Rattle.mdv_base.specs.declared.mark.Identity.{Identity}
pub use Rattle.mdv_base.specs.declared.name.Key.{Key}
pub use Rattle.mdv_base.specs.declared.place.Place.{Place}
pub use Rattle.mdv_name.specs.SliceIndex.{slice_at}
pub use Rattle.mdv_name.specs.Sound.{IsSound}
pub use Rattle.mdv_name.specs.declared.geometry.Geometry.{Geometry}
pub use Rattle.mdv_name.specs.declared.slice_lines.SliceAt.{SliceAt}
pub use Rattle.mdv_name.specs.declared.slice_lines.SliceLine.{SliceLine}
pub use Rattle.mdv_quorum.specs.declared.machine.Core.{Core}
pub use Rattle.mdv_shelf.specs.Area.{Area, AreApart, KeptOutside}
pub use Rattle.mdv_shelf.specs.Everywhere.{Everywhere, Image}
pub use Rattle.mdv_shelf.specs.Tale.{IsImage, Tale, last}
pub use Rattle.mdv_shown.specs.Site.{site_area, size_on}
pub use Rattle.mdv_shown.specs.Sites.{site_of}
pub use Rattle.mdv_standing.specs.Databases.{Database, current_of, log_of, with_creation, with_event}
pub use Rattle.mdv_standing.specs.Holding.{AllStand, HasNoReplica, IsFresh}
pub use Rattle.mdv_standing.specs.Standing.{CoversWith}
pub use Rattle.mdv_standing.specs.Worlds.{IsReadyWith}
pub use Rattle.mdv_store_law.specs.Changes.{Change}
pub use Rattle.mdv_store_law.specs.Laws.{restarted}
pub use Rattle.mdv_store_law.specs.Log.{IsMade, Log, asks_of}
pub use Rattle.mdv_store.specs.Blank.{IsBlank}
pub use Rattle.mdv_store.specs.Opened.{IsOpenedAt, Opened}
pub use Rattle.mdv_store.specs.Records.{Spells}
pub use Rattle.mdv_store.specs.Seats.{spots_of}
pub use Rattle.mdv_store.specs.declared.seats.Seat.{Seat}
pub use Rattle.mdv_survey.specs.declared.replica.Replica.{Replica}
pub use Rattle.mdv_config.specs.Table.{IsOfGeometry}
pub use Rattle.mdv_plan.specs.declared.lists.Lists.{Lists}
pub use Rattle.mdv_plan.specs.declared.lists.Lists.TheVariants.{One, Two}
pub use Rattle.mdv_plan.specs.declared.table.Table.{Table}
