-- What only the proofs of fitting need.
pub mod Steps
