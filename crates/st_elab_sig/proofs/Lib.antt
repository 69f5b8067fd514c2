mod SignaturesLemmas
mod Spacing
mod ModesLemmas
pub mod TypesErase
pub mod NotationsErase
pub mod ModesErase
