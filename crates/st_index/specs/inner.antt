-- What only proofs need.

-- the numbers of definitions under their names
pub mod Listings
-- rules and clauses under names
pub mod Groups
-- what an index keeps of its language
pub mod Kept
