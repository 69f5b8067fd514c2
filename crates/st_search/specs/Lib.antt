-- What must be believed of the search, in reading order. What is derivable, what a tree at a depth is
-- and what a chain is are told by st_semantics.

-- languages whose numbers, texts, tags and field names are those of values
pub mod Proper
-- of which languages relations can be searched, and which of their relations
pub mod Searchable
-- what a search answers: all that is derivable, or a chain
pub mod Answers
-- ---- what only contracts inside the crate and proofs need
pub mod inner
