-- What the builder keeps on its stacks, for its proofs alone.
pub mod Building
pub mod PieceHeights
pub mod PieceVariables
pub mod Parts
pub mod Entries
pub mod NotationBuilding
pub mod NotationEntries
pub mod HaveTrees
pub mod Counting
