pub mod SheetRows
pub mod SheetWords
pub mod SheetModel
pub mod SheetAnswers
pub mod SheetLaws
