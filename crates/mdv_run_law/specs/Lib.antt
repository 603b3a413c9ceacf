pub mod Below
pub use Rattle.mdv_base.specs.Causes
pub mod Usage
pub mod Standing
pub mod Run
pub mod Told
pub mod Lives
pub mod Status
