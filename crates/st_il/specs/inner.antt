-- How the parts of a tag are read in code, for proofs alone.
pub mod States
