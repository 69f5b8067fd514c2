-- What the readers of words keep, for their proofs alone.
pub mod Copies
pub mod Fronts
pub mod Goals
pub mod Program
