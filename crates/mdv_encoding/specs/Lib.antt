pub mod Below
pub use Rattle.mdv_config.specs.Slices
pub use Rattle.mdv_config.specs.Table
pub mod Parsing
pub mod Record
pub mod Room
pub mod Text
