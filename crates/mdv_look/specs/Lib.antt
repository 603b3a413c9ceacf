pub mod Below
pub mod Quiet
pub mod Bringing
pub mod Looking
pub mod Peeking
