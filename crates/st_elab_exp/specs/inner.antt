-- What only the proofs of the driver, of rules and of clauses need.
pub mod Pairs
pub mod Typing
