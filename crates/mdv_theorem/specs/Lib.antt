pub mod Exchanges
pub mod Words
pub mod Running
pub mod Observed
pub mod Going
