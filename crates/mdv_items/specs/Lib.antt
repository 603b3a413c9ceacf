pub mod Gather
pub mod Items
