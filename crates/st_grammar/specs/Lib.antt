-- What must be believed of the grammar, in reading order.

-- a token with what it can be: an operand, a sign, or what opens or closes
pub mod Terminals
-- what may stand in each sort of part, and how tightly its signs hold
pub mod Levels
-- the trees of parts, each with its tokens
pub mod Trees
-- which trees the grammar allows, and which tokens are a part
pub mod Grammar
-- which tokens are definitions
pub mod Definitions
-- how far the tokens of a part are read, and what is open there
pub mod Reading
-- how far the tokens of definitions are read, and which of them stand whole
pub mod Positions
-- ---- what only proofs need
pub mod inner
