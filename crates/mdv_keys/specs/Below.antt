-- The words of the crates below in which this crate speaks, so that a file of it needs one line of import.
pub use Rattle.mdv_base.specs.declared.name.PoolId.{PoolId}
pub use Rattle.mdv_base.specs.declared.name.VolId.{VolId}
pub use Rattle.mdv_plan.specs.Named.{kind_below}
pub use Rattle.mdv_plan.specs.Sorted.{unmarked}
pub use Rattle.mdv_plan.specs.declared.volume.Volume.{Volume as OneVolume}
pub use Rattle.mdv_plan.specs.declared.volume.VolumeKind.{VolumeKind}
