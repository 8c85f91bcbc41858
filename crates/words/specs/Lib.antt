pub mod Words
pub mod Tree
pub mod Encode
