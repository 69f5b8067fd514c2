-- What a step of the scanner keeps, for its proofs alone.
pub mod Steps
pub mod Readings
pub mod TextPieces
pub mod NumberFronts
pub mod FirstBytes
