-- What must be believed of the text of an internal language, in reading order.

-- the trees of types, expressions and premises
pub mod Expressions
-- the tree of a definition
pub mod Definitions
-- a definition is written in the one spelling: how many parts, in which order, how large numbers
pub mod Written
-- the bytes are the text of an internal language
pub mod IlText
-- an internal language has one text, and a text one internal language
pub mod IlLaws
-- the tree of a value, and its text
pub mod Values
-- a value has one text, a text one value, and no text of a value begins another
pub mod ValueLaws
-- ---- what only proofs need
pub mod inner
