-- What must be believed of base values, in reading order.

-- a name is another, or is among others
pub mod Names
-- the table of signs: how each is written, how tightly it holds, and how it groups
pub mod Signs
-- how each reserved word is written
pub mod Words
-- a text is UTF-8 with no control characters but line feeds and tabs, and is written in quotes so
pub mod Texts
-- a number is a whole number below 2 ^ 128 in size, and an operation is exact or has no value
pub mod Number
-- a text is a spelling of a number
pub mod Numeral
-- ---- what contracts see a row and a box as: the list of its elements, and its value
pub mod formers
-- ---- what only proofs need
pub mod inner
