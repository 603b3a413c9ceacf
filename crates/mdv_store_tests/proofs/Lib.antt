pub mod Laid
pub mod Lying
