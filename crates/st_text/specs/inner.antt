-- What the readers keep, for their proofs alone.
pub mod Fronts
