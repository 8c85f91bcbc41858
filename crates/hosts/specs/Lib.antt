pub mod Common
pub mod RowWord
pub mod Rows
pub mod RowLaws
