-- What must be believed of texts, in reading order.

-- trees of words, quoted texts and lists, and the one text of each
pub mod Text
-- the tree that a value of the program is
pub mod Trees
-- where memory ends, a front of the text has been written
pub mod Printing
-- the words that are no numbers
pub mod Numbers
-- the readers give what the bytes are the text of, or say that they are none
pub mod Reading
-- a tree has one text, a text one tree, and at the front of bytes stands one text at most
pub mod Laws
-- ---- what only proofs need
pub mod inner
