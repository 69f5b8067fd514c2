-- what stands at a position of a list that is made of others, and ways along edges
pub mod Positions
-- the walk begins a node, follows an edge, joins and closes components; it costs less, and ends
pub mod WalkBegins
pub mod WalkSteps
pub mod Cuts
pub mod Costs
pub mod WalkEnds
