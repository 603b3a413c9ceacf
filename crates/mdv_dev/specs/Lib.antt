pub mod Below
pub mod Pieces
pub mod Together
pub mod OneCopy
pub mod Drives
pub mod Works
pub mod Writing
pub mod Syncs
