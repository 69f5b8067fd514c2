pub mod ChoiceLemmas
pub mod Single
pub mod Keeps
pub mod RowLemmas
pub mod NameIndexLemmas
pub mod FoundByName
