-- Breaches stand in files where the tokens do: by the grammar's meaning, the table of elaboration and
-- the phases of definitions.
pub mod Meaning
pub mod Definitions
pub mod DefMeaning
pub mod Mentions
pub mod Breaches
pub mod IsBreach
pub mod Law
