-- What only the private steps of `serve` keep, for their proofs alone.
pub mod Answering
