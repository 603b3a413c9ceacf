pub mod Below
pub mod Keys
pub mod Marks
