-- What must be believed of a specification that is read from files, in reading order.

-- the first fault of the tokens of files, or of the grammar and its limits, stands there
pub mod Faults
-- the files are refused: by this first fault or breach, with its place and its text
pub mod Refused
-- the files are a specification that breaks no rule, with its internal language
pub mod Specification
-- breaches stand in files where the tokens do
pub mod BreachesStand
-- ---- what only proofs need
pub mod inner
