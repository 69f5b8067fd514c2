-- What must be believed of the words of a command, in reading order.

-- how the name of each command is written
pub mod Names
-- words are arranged so: plain words, and the values of options
pub mod Arranged
-- a word is a number, and an option says one
pub mod Numbers
-- the command of a name takes words that are arranged so
pub mod Table
-- words ask for this command, or for none
pub mod Reads
-- a command loads these files, in this order
pub mod FileNames
-- ---- what only proofs need
pub mod inner
