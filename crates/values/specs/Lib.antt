pub mod Bytes
pub mod Strict
pub mod SheetValues
pub mod Shown
