pub mod Journal
pub mod Reason
pub mod Image
pub mod Opening
pub mod Misfit
pub mod Bench
