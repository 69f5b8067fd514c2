-- What the printer keeps, for its proofs alone.
pub mod Pieces
pub mod TermElements
pub mod FormsHad
