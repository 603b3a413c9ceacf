mod Lying
mod Using
