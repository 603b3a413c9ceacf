pub mod Below
pub mod Softs
pub mod OneCopy
pub mod Laws
