pub mod Below
pub mod Given
pub mod Options
pub mod Spares
pub mod Volumes
