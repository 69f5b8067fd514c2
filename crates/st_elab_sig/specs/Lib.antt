-- What must be believed of signatures, in reading order.

-- what a written type is in the internal language
pub mod Types
-- a notation has this tag, and operands of these types
pub mod Signatures
-- which holes of a relation are inputs, by its hints
pub mod Modes
-- ---- what only proofs need
pub mod inner
