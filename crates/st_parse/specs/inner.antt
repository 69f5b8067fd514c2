-- What is kept and found, for the proofs alone.
pub mod Drafts
pub mod Parts
pub mod Heights
pub mod Ready
pub mod Changes
pub mod Work
pub mod Taken
pub mod Kept
pub mod Cuts
pub mod Readers
pub mod DefinitionReading
pub mod Found
pub mod ExpressionReading
pub mod ExpressionFolding
pub mod ExpressionSeen
pub mod ExpressionDrafts
