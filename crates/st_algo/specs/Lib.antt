-- What must be believed of algorithms, beside the definitions of `st_semantics`.

-- what an internal language is lowered to: the step of a premise, the algorithm of a rule in an
-- order and that of a clause, and which algorithms there are
pub mod Lowered
-- which steps can be taken where some variables are bound
pub mod Taken
-- that the steps of executable orders and of clauses can be taken
pub mod Laws
-- ---- what only proofs need
pub mod inner
