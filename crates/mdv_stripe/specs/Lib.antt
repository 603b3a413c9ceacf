pub mod Below
pub mod Stripes
pub mod OneCopy
pub mod Laws
