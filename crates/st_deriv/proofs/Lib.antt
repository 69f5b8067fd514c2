mod Parts
mod Values
mod LineKinds
mod Whole
pub mod LineFeeds
mod Printing
