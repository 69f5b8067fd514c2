-- What the making of the table keeps, for its proofs alone.
pub mod Graph
pub mod Index
pub mod Ranking
pub mod Components
pub mod Search
pub mod Rows
pub mod KeyIndexes
pub mod CaseKeys
pub mod Flat
pub mod Kept
pub mod JoinGraph
pub mod Survey
pub mod Checking
pub mod SameLevels
pub mod TypedLevels
pub mod Forms
pub mod Numbering
