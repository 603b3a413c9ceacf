pub mod Any
mod Kept
pub mod Marking
mod Replaced
pub mod Users
