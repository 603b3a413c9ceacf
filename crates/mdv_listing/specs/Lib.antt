pub mod Below
pub mod Listing
