pub mod Below
pub mod Entries
pub mod Layers
pub mod Marks
pub mod Order
pub mod Parts
pub mod Text
pub mod Words
