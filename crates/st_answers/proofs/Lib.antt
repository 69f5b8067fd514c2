pub mod Refusals
pub mod OrderLines
pub mod MarkLemmas
pub mod Verifications
