mod Names
mod Iterated
mod Choosing
pub mod Leaves
pub mod Builds
mod Fields
mod Members
mod Walking
