pub mod Hex
pub mod Numeral
pub mod Size
pub mod Token
pub mod Words
