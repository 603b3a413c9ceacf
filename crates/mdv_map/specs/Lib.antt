pub mod Below
pub mod Maps
pub mod Logs
pub mod Requests
pub mod Laws
