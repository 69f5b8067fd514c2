-- What only the proofs of signatures need.
pub mod Words
