-- What a search comes to, and how far a run has come.
pub mod Reaches
pub mod Searching
