-- What the folds make of a tree: a file for each function.
pub mod Folded
pub mod KeepVar
pub mod IsTerminated
pub mod Block
pub mod If
pub mod For
pub mod Labeled
pub mod Select
pub mod Switch
pub mod Try
