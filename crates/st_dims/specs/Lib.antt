-- What must be believed of dimensions, in reading order.

-- what stands round a part: the kinds of the iterations round it, and their indices
pub mod Around
-- what bears on dimensions in a rule or clause, in the order of the text
pub mod Mentions
-- the dimension of a variable is the shortest chain of iterations round its occurrences
pub mod Dimensions
-- the first place that breaks a rule on dimensions
pub mod Breaches
-- ---- what only proofs need
pub mod inner
