-- The fields of a number, for its proofs alone.
pub mod SignAndMagnitude
