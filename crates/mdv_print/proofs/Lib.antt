pub mod Complete
mod Forms
mod Lines
pub mod Needs
pub mod Printed
mod Spelled
pub mod Walking
