-- Of values: operands, what operations calculate, records that are joined, values that are changed at
-- a path, what is bound in the scope of an element, and prefixes of lists.
pub mod Operands
pub mod Calculations
pub mod Joined
pub mod Changes
pub mod Scope
pub mod Prefix
-- Of matching: when a pattern has a value, what covers all that give it that value, rows of
-- environments, positions in the elements of a list, names in order, types that are asked of values,
-- environments that are put together, and what is found of them.
pub mod Fitting
pub mod Covering
pub mod Rows
pub mod Positions
pub mod Names
pub mod Proper
pub mod Types
pub mod Assembly
pub mod Found
