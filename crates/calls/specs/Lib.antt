pub mod Load
pub mod LoadLaws
