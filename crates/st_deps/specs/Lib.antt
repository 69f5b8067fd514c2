-- What must be believed of groups of definitions, in reading order.

-- the names that stand in types, expressions and premises
pub mod Cited
-- what a definition declares, what it belongs to, and which name cites which
pub mod Definitions
-- what cites what, by numbers
pub mod Table
-- the groups of mutual citation, and the order in which they are listed
pub mod Groups
-- the numbers of the groups
pub mod GroupNumbers
-- ---- what only proofs need
pub mod inner
