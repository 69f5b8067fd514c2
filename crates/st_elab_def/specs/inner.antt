-- How a source is walked, for proofs alone.
pub mod Walk
pub mod Declaring
pub mod Gathering
pub mod Heads
pub mod Joining
pub mod Contents
pub mod Whole
pub mod Places
pub mod Last
pub mod Bodies
