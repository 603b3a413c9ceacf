pub mod Copies
pub mod Combining
pub mod Striping
pub mod Covering
pub mod Joining
pub mod Following
pub mod Standing
