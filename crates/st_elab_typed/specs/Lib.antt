-- What must be believed of the laws of typing, in reading order.

-- ---- names
-- T1: what a rule or a clause cites is declared
pub mod Citations
-- T14: the iterations of an expression name exactly the variables that they go over
pub mod KeepsNames
-- T14: those of a rule or a clause do
pub mod RuleNames
-- which premises of a source can stand in the internal language
pub mod Sources
-- ---- types
-- what answers a question has the type that is asked or told, and breaks no rule
pub mod Law
-- what a rule or a clause is elaborated to breaks no rule on types
pub mod RuleLaw
-- ---- what only proofs need
pub mod inner
