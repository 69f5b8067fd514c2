pub mod Builds
pub mod Tallness
pub mod NotationBuilds
pub mod NotationTallness
pub mod Lists
pub mod Premises
pub mod Occurring
mod Leaving
mod Limits
pub mod PartLemmas
mod Tops
mod OnTop
mod Noted
mod Simulated
mod NotationTops
mod NotationSimulated
mod NotationGiven
mod HaveTrees
mod NotationHaveTrees
mod Steps
