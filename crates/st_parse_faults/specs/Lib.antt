-- What must be believed of the faults of tokens, in reading order.

-- how many brackets are open
pub mod Nesting
-- the signs of a tree
pub mod Signs
-- what a token begins, with its number
pub mod Number
-- what each token of a tree begins
pub mod Numbers
-- what each token of definitions begins
pub mod DefinitionNumbers
-- the tokens that begin a form that is left out, by the tokens before them
pub mod FormsLeftOut
-- the first token of a text that breaks a rule, and the rule
pub mod Faults
-- that of definitions
pub mod DefinitionFaults
-- where a token stands in the text
pub mod Place
-- ---- what only proofs need
pub mod inner
