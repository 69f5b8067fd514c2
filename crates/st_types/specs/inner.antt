-- What the code compares, level by level, for its proofs alone.
pub mod Levels
