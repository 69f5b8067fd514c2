-- What must be believed of tokens, in reading order.

-- which bytes are blanks, and which may stand in names and texts
pub mod Bytes
-- a name, number, text, dotted name or sign is spelled so
pub mod Spelling
-- the longest sign that stands at the front of some bytes
pub mod Signs
-- blanks and comments, which stand between tokens
pub mod Gaps
-- the line and column of the bytes that are left of a file
pub mod Places
-- the tokens of a file: each is the longest at its place
pub mod Tokens
-- the first place of a file that is no token, and the rule that it breaks
pub mod Faults
-- a file has one list of tokens, or one first fault
pub mod Answers
-- ---- what only proofs need
pub mod inner
