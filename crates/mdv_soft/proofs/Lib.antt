pub mod Meeting
pub mod Spots
pub mod Pieces
pub mod Extents
pub mod Causes
