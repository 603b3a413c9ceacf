pub mod Lists
pub mod Chained
pub mod Telling
pub mod Laid
