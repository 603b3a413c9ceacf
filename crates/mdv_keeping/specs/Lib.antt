pub mod Below
pub mod Built
pub mod Keeping
pub mod Refused
