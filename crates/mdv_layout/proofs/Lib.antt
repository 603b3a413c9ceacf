pub mod Rows
pub mod Leaves
pub mod Stripes
pub mod Adding
pub mod Added
pub mod Finding
pub mod Pieces
pub mod InTable
