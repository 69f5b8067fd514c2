-- What the reader keeps, for its proofs alone.
pub mod Shapes
pub mod PartAutomaton
pub mod DefinitionAutomaton
pub mod Readings
pub mod NameIndexes
