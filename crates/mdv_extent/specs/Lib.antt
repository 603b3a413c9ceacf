pub mod Runs
pub mod Free
pub mod Share
pub mod Extents
pub mod Headers
pub mod Laws
