-- What the readers of lines answer, for their proofs alone.
pub mod Reading
