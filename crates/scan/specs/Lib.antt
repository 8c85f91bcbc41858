pub mod Scan
pub mod Weight
pub mod Places
