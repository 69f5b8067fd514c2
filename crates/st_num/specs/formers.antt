-- What contracts see of the types over a vector and a box.
pub mod boxed
pub mod row
