-- What contracts see a row as.
pub mod Row
