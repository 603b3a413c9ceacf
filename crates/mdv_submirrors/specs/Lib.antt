pub mod Attaching
pub mod Below
pub mod Joining
pub mod Mirrors
pub mod Sizes
