pub mod Below
pub mod Leaves
pub mod Layouts
pub mod OneCopy
