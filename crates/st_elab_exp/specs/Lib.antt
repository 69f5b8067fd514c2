-- What must be believed of the elaboration of expressions, rules and clauses by calls, in reading order.

-- the result is this elaboration or this breach, but for want of memory
pub mod Exactly
-- a rule or a clause is erased to what it came from
pub mod Erasing
-- there is one outcome and no other
pub mod Single
-- ---- what only proofs need
pub mod inner
