-- What must be believed of modes, beside the definitions of `st_semantics` and `st_order`.

-- what the call that tells the modes answers
pub mod Modes
-- ---- what only proofs need
pub mod inner
