-- What must be believed of erasure, in reading order.

-- an erased expression at the places where it may stand
pub mod Places
-- a template is written with its holes filled
pub mod Filling
-- the fields of the record that a name leads to
pub mod Records
-- the source that an expression was written as, by cases
pub mod Erasure
-- a template is written as a notation, with types in its holes
pub mod Notations
-- the source that a specification was written as
pub mod Definitions
-- ---- what only proofs need
pub mod inner
