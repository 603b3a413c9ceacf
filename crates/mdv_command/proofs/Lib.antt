pub mod OneOption
pub mod Reading
pub mod Values
