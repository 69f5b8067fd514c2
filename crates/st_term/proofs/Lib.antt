mod ForeignFields
mod TermValues
mod FormedExps
mod Outcomes
mod TermOutcomes
mod Readings
pub mod PieceTexts
pub mod ShownLevels
mod TypedValues
