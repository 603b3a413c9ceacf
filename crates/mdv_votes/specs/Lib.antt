pub mod Spots
pub mod Quorum
pub mod Family
pub mod Laws
