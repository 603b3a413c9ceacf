-- The words of the crates below in which this crate speaks, so that a file of it needs one line of import.
pub use Rattle.mdv_base.specs.declared.name.Named.{Named}
pub use Rattle.mdv_components.specs.Bases.{volume_of}
pub use Rattle.mdv_config.specs.Table.{IsOfGeometry}
pub use Rattle.mdv_name.specs.declared.geometry.Geometry.{Geometry}
pub use Rattle.mdv_plan.specs.declared.plan.Plan.{Plan}
pub use Rattle.mdv_plan.specs.declared.table.Table.{Table}
pub use Rattle.mdv_plan.specs.declared.volume.Volume.{Volume}
pub use Rattle.mdv_print.specs.Text.{names_text, tab_text, volume_line}
pub use Rattle.mdv_status.specs.Telling.{IsQuietLine}
