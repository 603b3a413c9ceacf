mod Flat
mod Words
pub mod Lines
pub mod Listed
pub mod Told
