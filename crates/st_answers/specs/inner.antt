-- What only the private steps of answers keep.
pub mod Relations
pub mod Marking
pub mod Checks
