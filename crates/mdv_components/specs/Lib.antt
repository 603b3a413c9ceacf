pub mod Bases
pub mod Below
pub mod Causes
pub mod Ordered
pub mod Raids
pub mod Room
pub mod Softs
pub mod Stripes
