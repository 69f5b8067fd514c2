-- What must be believed of the LaTeX text of source trees, in reading order.

-- how each token is written
pub mod Tokens
-- how parts are put together
pub mod Parts
-- the tokens of types and notations, by what they are
pub mod Types
-- the tokens of expressions, by what they are
pub mod Expressions
-- the tokens of premises, by what they are
pub mod Premises
-- a definition is a line of tokens, and the text is these lines
pub mod LatexText
