-- The words of the crates below in which this crate speaks, so that a file of it needs one line of import.
pub use Rattle.mdv_base.specs.declared.drive.DriveNo.{DriveNo}
pub use Rattle.mdv_map.specs.Maps.{DriveBlock, HasDriveBlock, IsDisjoint, Map, chain_map, run_map}
pub use Rattle.mdv_map.specs.Requests.{AllOnDisk, AllRead, AreRead, OnDrives, Rewriting}
pub use Rattle.mdv_shelf.specs.Between.{TookBetween}
pub use Rattle.mdv_shelf.specs.Calls.{Took}
pub use Rattle.mdv_shelf.specs.Failing.{AreCalm, FailedOn, Outcomes}
pub use Rattle.mdv_shelf.specs.Settle.{IsSynced}
pub use Rattle.mdv_shelf.specs.Tale.{Tale}
