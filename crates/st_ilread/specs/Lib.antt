-- What must be believed of how an internal language is read, in reading order.

-- the bytes are the text of an internal language, or this is their first line that is none
pub mod IlReading
-- ---- what only proofs need
pub mod inner
