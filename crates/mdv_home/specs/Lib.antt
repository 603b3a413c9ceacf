pub mod Drives
pub mod View
pub mod Sites
