pub mod Rows
pub mod RowWords
pub mod RowsLaws
