-- What the readers of parts answer, for their proofs alone.
pub mod Parts
