-- What only the proofs of dimensions need.
pub mod Noting
