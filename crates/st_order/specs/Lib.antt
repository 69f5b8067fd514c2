-- What must be believed of modes and of the order of premises, beside the definitions of
-- `st_semantics`.

-- which rule a call orders, what it answers, and that there is no order where it refuses
pub mod Answers
-- what is kept of the marks and the orders of a language
pub mod Modes
-- what is kept of directions, and what stands under names
pub mod Known
-- of which relations a direction is told without memory
pub mod Tagged
-- ---- what only proofs need
pub mod inner
