pub mod Below
pub mod Holding
pub mod Members
pub mod Refusing
pub mod Renewing
