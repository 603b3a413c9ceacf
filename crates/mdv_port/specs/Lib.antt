pub use Rattle.mdv_base.specs.Causes
pub mod Source
pub mod Memory
pub mod Lines
pub mod Cut
pub mod Reader
pub mod Script
