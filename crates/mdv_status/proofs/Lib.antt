pub mod Blocks
pub mod Pieces
pub mod Lines
pub mod Replies
pub mod Apart
