-- What must be believed of what commands answer, in reading order.

-- what `check`, `il`, `groups` and `order` print of files, where these are not refused
pub mod Checking
-- what is said of a query: what it comes to, or the first rule that it breaks
pub mod Queries
-- the bytes are the text of a query that comes to this
pub mod QueryOutcome
-- what is said of a relation that is run, or of which all outputs are asked
pub mod Searches
-- what `derive` prints of a specification in a file, and of a term
pub mod Derived
-- a derivation has a node for each step of a run
pub mod Derivation
-- ---- what only proofs need
pub mod inner
