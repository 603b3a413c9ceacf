pub mod Below
pub use Rattle.mdv_base.specs.Causes
pub mod Turns
pub mod Calls
pub mod Promise
