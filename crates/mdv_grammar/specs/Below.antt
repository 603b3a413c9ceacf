-- The words of the crates below in which this crate speaks, so that a file of it needs one line of import.
pub use Rattle.mdv_base.specs.Name.{IsName}
pub use Rattle.mdv_base.specs.declared.drive.DriveName.{DriveName}
pub use Rattle.mdv_name.specs.Drive.{IsDriveName, drive_text}
pub use Rattle.mdv_name.specs.Volume.{IsVolName, SpellsVolume}
pub use Rattle.mdv_name.specs.declared.volume.VolName.{VolName}
pub use Rattle.mdv_parts.specs.Part.{AreParts}
pub use Rattle.mdv_parts.specs.declared.names.Scope.{Scope}
pub use Rattle.mdv_parts.specs.declared.part.Part.{Part}
pub use Rattle.mdv_parts.specs.declared.part.Part.TheVariants.{Pool, Volume}
pub use Rattle.mdv_tab.specs.Text.{is_ascii_line}
pub use Rattle.mdv_text.specs.Words.{words}
