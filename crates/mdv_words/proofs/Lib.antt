pub mod Options
pub mod Entries
pub mod Asked
pub mod Form
pub mod Lines
pub mod Tabs
