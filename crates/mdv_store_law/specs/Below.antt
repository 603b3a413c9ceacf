-- The words of the crates below in which this crate speaks, so that a file of it needs one line of import.
pub use Rattle.mdv_base.specs.Mark.{IsBelow}
pub use Rattle.mdv_base.specs.declared.drive.SliceName.{SliceName}
pub use Rattle.mdv_base.specs.declared.mark.Identity.{Identity}
pub use Rattle.mdv_base.specs.declared.mark.Mark.{Mark}
pub use Rattle.mdv_base.specs.declared.place.Place.{Place}
pub use Rattle.mdv_change.specs.Change.{table_after as plan_changed}
pub use Rattle.mdv_change.specs.declared.change.Change.TheVariants.{AddRow, Clear, ClearAll, ClearBelow, MakeStripe}
pub use Rattle.mdv_change.specs.declared.change.Change.{Change as PlanChange}
pub use Rattle.mdv_config.specs.Lists.{last_of, settled}
pub use Rattle.mdv_keeping.specs.Keeping.{IsStepOf}
pub use Rattle.mdv_name.specs.SliceIndex.{same_slice}
pub use Rattle.mdv_name.specs.declared.geometry.Geometry.{Geometry}
pub use Rattle.mdv_plan.specs.Table.{empty_table}
pub use Rattle.mdv_plan.specs.declared.lists.Lists.TheVariants.{One, Two}
pub use Rattle.mdv_plan.specs.declared.lists.Lists.{Lists}
pub use Rattle.mdv_plan.specs.declared.table.Table.{Table}
pub use Rattle.mdv_shelf.specs.Everywhere.{Image}
pub use Rattle.mdv_shelf.specs.Tale.{Begun, Tale}
pub use Rattle.mdv_votes.specs.Family.{raised, since_after}
pub use Rattle.mdv_votes.specs.declared.version.Since.TheVariants.{Never}
pub use Rattle.mdv_votes.specs.declared.version.Since.{Since}
