pub mod Decimals
pub mod Numerals
pub mod Pairs
pub mod Sizes
pub mod Tokens
pub mod WordRuns
