pub mod Again
pub mod Asked
pub mod Below
pub mod Making
pub mod Now
