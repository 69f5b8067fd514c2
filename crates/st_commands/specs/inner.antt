-- What only the private steps of the answers keep, for their proofs alone.
pub mod Step
pub mod Starts
pub mod Nodes
pub mod Needing
pub mod Asking
