pub mod Below
pub use Rattle.mdv_base.specs.Bytes
pub mod Forms
pub mod Replica
pub mod Seen
pub mod Form
pub mod Images
pub mod Laws
