mod Members
mod Names
pub mod Order
pub mod Causes
