pub mod Below
pub mod Laying
pub mod Names
pub mod Numbers
pub mod Parts
pub mod Reading
pub mod Sets
