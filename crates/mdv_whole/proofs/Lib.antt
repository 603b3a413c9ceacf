mod Ahead
mod Back
mod Holding
pub mod Noting
mod Parts
pub mod Table
