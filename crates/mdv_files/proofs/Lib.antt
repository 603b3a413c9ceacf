mod Calls
mod Opened
mod Rest
