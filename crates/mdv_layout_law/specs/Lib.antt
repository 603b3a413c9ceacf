pub mod Below
pub mod Chained
pub mod Layout
pub mod Laid
