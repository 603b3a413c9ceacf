pub mod Names
pub mod Options
pub mod Part
pub mod Runs
