mod Asking
mod Blocks
mod Single
