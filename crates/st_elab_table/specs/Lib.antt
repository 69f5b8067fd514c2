-- What must be believed of the elaboration of expressions, rules and clauses, in reading order.

-- questions about expressions, and the steps in which a row of the table answers one
pub mod Questions
-- forms of expressions, by which the rows go
pub mod Forms
-- which names stand for which types
pub mod Variables
-- a sign between two operands is one kind of operator
pub mod Operators
-- the type of an iteration, and which variables it names
pub mod Iterations
-- which case of a variant an expression is
pub mod Choice
-- steps that several rows take
pub mod Steps
-- the rows of lists and options, and of what fills holes
pub mod Collections
-- the rows of records and notations
pub mod Records
-- the rows of paths
pub mod Paths
-- the rows of operators
pub mod Operands
-- the rows of expressions whose type is asked for
pub mod Inferred
-- the rows of expressions at a type
pub mod Checked
-- an answer is what the row of its question leads to; it is an elaboration or the first breach
pub mod Elaboration
-- several questions are answered one after another
pub mod Parts
-- what an expression is inside of iterations, and the first breach in it
pub mod Inside
-- ---- rules and clauses
-- an expression in the notation of a relation
pub mod Judgements
-- what a premise is, and the first breach in it
pub mod Premises
-- each variable of a rule or clause has a type and a dimension
pub mod Scopes
-- what a rule is, and the first breach in it
pub mod Rules
-- what a clause is, and the first breach in it
pub mod Clauses
-- ---- what only proofs need
pub mod inner
