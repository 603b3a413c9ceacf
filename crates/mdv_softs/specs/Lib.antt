pub mod Asking
pub mod Below
pub mod Growing
pub mod Making
pub mod Room
