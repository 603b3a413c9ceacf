pub mod Apply
pub mod Below
pub mod Change
pub mod Clear
pub mod Levels
pub mod Seats
