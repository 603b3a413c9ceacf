pub mod Fields
pub mod Lists
pub mod Placing
pub mod Rising
