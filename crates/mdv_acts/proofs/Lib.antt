pub mod Acting
pub mod Asked
pub mod Counting
pub mod Members
pub mod Trying
pub mod Ordering
pub mod Slicing
