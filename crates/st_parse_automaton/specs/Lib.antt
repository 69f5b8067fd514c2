-- What must be believed of refused tokens.

-- the first token that no definitions have behind those before it
pub mod Refusal
-- ---- what only proofs need
pub mod inner
