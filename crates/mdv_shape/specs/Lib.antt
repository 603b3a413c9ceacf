pub mod Below
pub mod Covered
pub mod Found
pub mod Kinds
pub mod Owners
pub mod Seats
pub mod Shape
pub mod Sizes
