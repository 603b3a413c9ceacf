pub mod Among
pub mod Bringing
pub mod Few
pub mod Looks
pub mod Quiet
pub mod Peeks
