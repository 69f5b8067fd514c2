-- What must be believed of the internal language, in reading order.

-- how high a value is
pub mod Height
-- a value is not too high, and all its texts are texts
pub mod Value
-- the order of values and that of environments, in which two are equal only where they are the same
pub mod Order
-- a notation may stand where a sign of this level or a tighter one is due
pub mod Notation
-- a template has this tag, and a tag at most one template
pub mod Template
-- how the parts of a tag are read, the loosest sign outermost
pub mod Reading
-- the template of a tag: the one that has it, and none where none has
pub mod Tags
-- the key of a notation: what tells apart the cases of a syntax
pub mod Key
-- a name occurs as a variable in an expression or a premise
pub mod Occurrences
-- a name is among others, and the least of some
pub mod Names
-- the definitions of a name, and the first of some members of which a fact holds
pub mod Definitions
-- a small specification means this internal language
pub mod Small
-- ---- what only proofs need
pub mod inner
