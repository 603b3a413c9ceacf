pub mod Addresses
pub mod Asked
pub mod Heads
pub mod Hosts
pub mod OneLine
pub mod Owned
