-- What must be believed of source trees, in reading order.

-- the context in which a part is printed
pub mod Contexts
-- a part suits its context, or is wrapped in parentheses or in `$( )`
pub mod Wrappings
-- the text of an expression
pub mod SourceText
-- a part without its places and its parentheses
pub mod Plain
-- definitions without what erasure does not give back
pub mod Erasure
