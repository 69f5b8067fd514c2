-- What only proofs need.

-- an index of names
pub mod Index
-- ranks that are given in passes
pub mod Ranks
-- what the tops of types lead to
pub mod Heads
-- which lists of cases tell the same, and the cases of syntaxes by their numbers
pub mod Flats
-- pairs of types, and what is asked of each
pub mod Pairs
-- what a table of any syntaxes keeps
pub mod Surveys
