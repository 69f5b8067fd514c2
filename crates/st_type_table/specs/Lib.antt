-- What must be believed of the table of types, in reading order.

-- what the name of a syntax stands for, and what a type is without the aliases at its top
pub mod Meaning
-- the cases of a variant, with those of the variants that it names, and the fields of a record
pub mod Cases
-- two types are equal through aliases
pub mod Same
-- one type is a subtype of another
pub mod Sub
-- a value has a type
pub mod HasType
-- a value of a type has each type above it
pub mod GoesUp
-- a record type can be joined where each field is a list, an option or such a record
pub mod Joins
-- the first case with a key, and cases whose tags have the same key
pub mod Keys
-- one syntax leads to another by aliases and inclusions
pub mod Leads
-- the conditions on definitions, in their order, and the first that is false
pub mod Breach
-- ---- what only proofs need
pub mod inner
