-- What must be believed of the trees that tokens mean, in reading order.

-- what one token stands for in a source tree
pub mod Names
-- the expression that a tree of the grammar means
pub mod Meaning
-- the type and the notation that a tree of the grammar means
pub mod Notations
-- the definitions that tokens mean
pub mod Definitions
-- how high a source tree is
pub mod Heights
-- how high premises and definitions are
pub mod DefHeights
-- the variables that occur in a part or a definition, in the order of the text
pub mod Variables
-- the first variable that has so many others before it
pub mod Limits
-- ---- what only proofs need
pub mod inner
