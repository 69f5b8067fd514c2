-- What only proofs need.
pub mod Modes
pub mod Sorted
pub mod Trials
pub mod Weight
