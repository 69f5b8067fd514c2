pub mod Steps
pub mod Operators
pub mod Counts
pub mod Clauses
pub mod Contents
pub mod Beginnings
-- names in order, found by hashes
pub mod Names
pub mod Heads
pub mod Declared
pub mod Cited
pub mod Leasts
-- elements by the tops of types
pub mod Elements
