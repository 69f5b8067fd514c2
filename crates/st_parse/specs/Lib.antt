-- What must be believed of the parser, in reading order.

-- the definitions before the one that is read
pub mod Before
-- the first variable and the first tree that pass a limit
pub mod Limits
-- the variables of a definition that is cut off, and the first that passes the limit
pub mod Open
-- the definitions that tokens mean, or the first fault and its place
pub mod Source
-- ---- files of expressions

-- which tokens are expressions, and the first that none have
pub mod Expressions
-- the first token of expressions that breaks a rule, and the rule
pub mod ExpressionFaults
-- the expressions that the tokens mean, or the first fault
pub mod ExpressionSource
-- ---- what only proofs need
pub mod inner
