-- What the parser keeps of what is counted, for its proofs alone.
pub mod LeftOut
pub mod Limits
pub mod Judging
pub mod Counts
pub mod Bars
pub mod Folding
pub mod Roles
pub mod Seen
pub mod Numbering
pub mod PositionNumbers
