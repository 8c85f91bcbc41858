pub mod TextLemmas
pub mod ShownLemmas
