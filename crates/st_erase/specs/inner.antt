-- What only the proofs of erasure need.
pub mod Operators
