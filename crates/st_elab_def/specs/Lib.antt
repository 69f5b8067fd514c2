-- What must be believed of the elaboration of definitions, in reading order.

-- the definitions of a source, each between those before it and those behind it
pub mod Definitions
-- what a definition declares, and whether one before declares the same
pub mod Declarations
-- whether the dots of a fragment suit its place among the fragments of its syntax
pub mod Fragments
-- the declarations of a source, in the internal language
pub mod DeclsOf
-- what can be false of a part, and the rule that it then breaks
pub mod Conditions
-- a rule or a clause by the name of its relation or function: elaborated, or its first breach
pub mod Contents
-- the conditions on the parts of a definition, in the four phases and their order
pub mod Phases
-- the first breach of a source: the first part that is asked and whose condition is false
pub mod Breaches
-- the internal language of a source
pub mod Elaboration
-- what the elaboration of a source answers, and which sources have templates
pub mod Answers
-- the internal language of a source is erased to it
pub mod Erasing
-- which sources repeat no `otherwise`
pub mod Sources
-- what the internal language of a source keeps of typing
pub mod Keeping
-- ---- what only proofs need
pub mod inner
