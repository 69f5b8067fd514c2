mod Longest
mod Encodings
mod Scanned
pub mod Cuts
pub mod Plains
pub mod Ends
pub mod Parts
pub mod Wraps
pub mod Placed
pub mod Suffixes
pub mod Leaves
pub mod Posts
pub mod Counts
pub mod Joins
pub mod Enclosed
pub mod Rows
pub mod Lists
pub mod Sequences
pub mod Tuples
pub mod Prefixes
pub mod Elements
pub mod Atoms
pub mod Indices
pub mod Bounds
pub mod Fields
pub mod Paths
pub mod Changes
pub mod AtomTrees
pub mod Printing
pub mod Law
pub mod CountLaw
pub mod DefLaw
pub mod TextLaw
pub mod DefTexts
pub mod PlainTexts
