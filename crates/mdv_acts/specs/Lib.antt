pub mod Below
pub mod Acts
pub mod Asked
pub mod Wipes
pub mod Meaning
