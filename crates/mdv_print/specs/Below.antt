-- The words of the crates below in which this crate speaks, so that a file of it needs one line of import.
pub use Rattle.mdv_base.specs.declared.name.Key.{Key}
pub use Rattle.mdv_base.specs.declared.name.Named.{Named}
pub use Rattle.mdv_base.specs.declared.name.PoolId.{PoolId}
pub use Rattle.mdv_base.specs.declared.name.VolId.{VolId}
pub use Rattle.mdv_extent.specs.declared.run.Run.{Run}
pub use Rattle.mdv_name.specs.Drive.{slice_text}
pub use Rattle.mdv_name.specs.Volume.{set_text, three_digits, volume_text}
pub use Rattle.mdv_parts.specs.Part.{letter_text, replicas_text}
pub use Rattle.mdv_parts.specs.declared.part.Part.{Part}
pub use Rattle.mdv_plan.specs.Parents.{has_parent}
pub use Rattle.mdv_plan.specs.declared.plan.Plan.{Plan}
pub use Rattle.mdv_plan.specs.declared.pool.Pool.{Pool as OnePool}
pub use Rattle.mdv_plan.specs.declared.pool.Spare.{Spare}
pub use Rattle.mdv_plan.specs.declared.volume.Base.{Base}
pub use Rattle.mdv_plan.specs.declared.volume.Component.{Component}
pub use Rattle.mdv_plan.specs.declared.volume.ReadOption.{ReadOption}
pub use Rattle.mdv_plan.specs.declared.volume.Row.{Row}
pub use Rattle.mdv_plan.specs.declared.volume.Volume.{Volume as OneVolume}
pub use Rattle.mdv_plan.specs.declared.volume.VolumeKind.{VolumeKind}
pub use Rattle.mdv_plan.specs.declared.volume.WriteOption.{WriteOption}
