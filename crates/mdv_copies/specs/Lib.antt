pub mod Below
pub mod Copies
pub mod Leaving
pub mod Legs
pub mod States
