pub mod Bytes
pub mod Causes
pub mod DriveSet
pub mod Mark
pub mod Name
pub mod Order
pub mod Refusal
