pub mod NameLemmas
pub mod SubLemmas
pub mod ContainedLemmas
