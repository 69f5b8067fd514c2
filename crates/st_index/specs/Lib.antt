-- What must be believed of the index of an internal language, in reading order.

-- what sets and maps of names hold
pub mod Names
-- definitions by their numbers, and the first ones of names
pub mod Numbers
-- ---- what only proofs need
pub mod inner
