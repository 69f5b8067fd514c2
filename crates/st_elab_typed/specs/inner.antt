-- What only proofs need.

-- each variable of an expression has no dimension left where it stands
pub mod IsPlaced
-- the iterations in an expression name the variables of a scope that they iterate there
pub mod Named
-- what an expression cites is declared
pub mod Cited
