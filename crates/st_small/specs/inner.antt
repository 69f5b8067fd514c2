-- What the tests and the reader keep, for their proofs alone.
pub mod Names
pub mod Words
pub mod Parts
pub mod SmallForm
