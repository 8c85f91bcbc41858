pub mod Skips
pub mod Walks
pub mod Weights
pub mod Placed
