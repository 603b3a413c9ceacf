pub mod Below
pub use Rattle.mdv_votes.specs.Spots
pub use Rattle.mdv_votes.specs.Quorum
pub use Rattle.mdv_votes.specs.Family
pub mod World
pub mod May
pub mod Standing
