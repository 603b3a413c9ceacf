pub use Rattle.mdv_port.specs.Script
pub mod Values
pub mod Telling
