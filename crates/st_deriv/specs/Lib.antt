-- What must be believed of derivations, in reading order.

-- a line has this text, or bytes are the text of no line
pub mod LineText
-- a line has one text, a text one line, and a text no line feed
pub mod Laws
-- ---- what only proofs need
pub mod inner
