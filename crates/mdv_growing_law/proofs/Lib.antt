pub mod Clearing
pub mod Going
pub mod Places
