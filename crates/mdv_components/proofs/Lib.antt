pub mod Causes
pub mod Formed
