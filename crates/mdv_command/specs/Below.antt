-- The words of the crates below in which this crate speaks, so that a file of it needs one line of import.
pub use Rattle.mdv_base.specs.Name.{IsName}
pub use Rattle.mdv_base.specs.declared.drive.SliceName.{SliceName}
pub use Rattle.mdv_base.specs.declared.name.Named.{Named}
pub use Rattle.mdv_base.specs.declared.name.PoolId.{PoolId}
pub use Rattle.mdv_base.specs.declared.name.VolId.{VolId}
pub use Rattle.mdv_name.specs.declared.volume.VolName.{VolName}
pub use Rattle.mdv_parts.specs.Options.{size_of}
pub use Rattle.mdv_parts.specs.Runs.{behind, component_of, front, pool_of, slice_of}
pub use Rattle.mdv_parts.specs.declared.component.Component.{Component}
pub use Rattle.mdv_parts.specs.declared.options.ReplicaOptions.{ReplicaOptions}
pub use Rattle.mdv_parts.specs.declared.part.Part.{Part}
pub use Rattle.mdv_parts.specs.declared.part.Part.TheVariants.{Pool, Replicas, Slice, Volume}
pub use Rattle.mdv_tab.specs.Form.{entry_of}
pub use Rattle.mdv_tab.specs.Options.{late_interlace, on_some}
pub use Rattle.mdv_text.specs.Size.{IsSize}
pub use Rattle.mdv_text.specs.Words.{words}
