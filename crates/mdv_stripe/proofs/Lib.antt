pub mod Leasts
pub mod Legs
pub mod Units
pub mod Causes
