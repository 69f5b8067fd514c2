-- What is kept of rules and clauses.
pub mod Groups
