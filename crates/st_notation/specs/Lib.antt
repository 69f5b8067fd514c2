-- What must be believed of notation, in reading order.

-- the parts of an expression that a notation sees, without its parentheses
pub mod Elements
-- the sign, atom or bracket by which an expression is told from other cases
pub mod Key
-- an expression fits a template, and this is what then fills the holes
pub mod Fits
-- a call answers the one filling, or that there is none
pub mod Fitted
-- ---- what only proofs need
pub mod inner
