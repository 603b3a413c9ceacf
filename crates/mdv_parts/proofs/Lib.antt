pub mod Fronts
pub mod OnePart
pub mod Reading
