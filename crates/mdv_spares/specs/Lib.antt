pub mod AllPools
pub mod Below
pub mod Deleting
pub mod Enabling
pub mod Meant
pub mod Pools
pub mod Replacing
