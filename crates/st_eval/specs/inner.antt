-- What only contracts inside the crate need.
pub mod Known
pub mod Beside
pub mod Gathered
pub mod AtElements
pub mod Tried
