pub mod Owning
pub mod OneItem
pub mod Places
pub mod Read
pub mod Siting
pub mod Viewing
