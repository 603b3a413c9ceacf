pub mod Below
pub mod Line
pub mod Operands
pub mod Sets
pub mod Verb
