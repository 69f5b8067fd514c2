-- How much is read and written at once, for proofs alone.
pub mod Reader
pub mod Writer
