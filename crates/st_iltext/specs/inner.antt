-- What the readers keep, for their proofs alone.
pub mod Heads
pub mod Reading
pub mod Fields
pub mod Forms
pub mod KindWords
pub mod ExpReading
