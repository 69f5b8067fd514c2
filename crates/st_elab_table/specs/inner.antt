-- What only proofs need: an index of names leads to the first item of each.
pub mod NameIndex
