-- What must be believed of graphs, in reading order.

-- the first leads to the second by steps
pub mod Reaches
-- graphs of numbered nodes, and the numbers of their components
pub mod Graph
-- ---- what only proofs need
pub mod inner
