-- What must be believed of the typing of an internal language, in reading order.

-- an expression and the variables as they are listed where it stands; its parts
pub mod Parts
-- which type an expression has, found from those of its parts
pub mod FoundTypes
-- what the rules T3 to T14 ask of the types of the parts
pub mod Rules
-- T14: which variables an iteration names
pub mod Naming
-- the type of an expression, and the rules that are broken in it
pub mod Typings
-- the rules that are broken in a premise
pub mod Premises
-- the rules on types that are broken in a rule or a clause
pub mod Definitions
-- the least of some rules
pub mod Least
-- T1: what a definition declares and cites, and its tags
pub mod Declarations
-- T2 and T14: the variables of a definition, and the iterations round them
pub mod Variables
-- a language is typed; or the first definition that breaks a rule, and the least that it breaks
pub mod Typed
-- names in sets, and what stands under a name
pub mod Index
-- what only contracts inside the crate and proofs need
pub mod inner
