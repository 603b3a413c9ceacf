pub mod Below
pub mod Held
pub mod Noted
pub mod Parted
pub mod Settled
pub mod Sides
pub mod Text
