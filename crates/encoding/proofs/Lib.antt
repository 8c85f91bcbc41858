pub mod Seen
pub mod Unique
pub mod ForNumber
pub mod Loops
