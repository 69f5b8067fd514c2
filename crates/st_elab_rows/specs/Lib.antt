-- What must be believed of the answers of calls, in reading order.

-- what a call gives is an elaboration, what it refuses a breach, and want of memory says nothing
pub mod Told
-- what is asked, when a result is the answer of the table, and what a row answers
pub mod Asking
-- ---- what only proofs need
pub mod inner
