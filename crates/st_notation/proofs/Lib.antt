pub mod FitsLemmas
pub mod Steps
