mod Invariant
mod Changes
mod More
mod Written
mod Format
mod Adopt
mod Follow
mod Boots
mod Writes
mod Formats
mod Changed
mod Steps
pub mod Events
pub mod Stands
pub mod Deleted
mod Rising
mod Limits
