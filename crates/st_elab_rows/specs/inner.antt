-- What the code of the rows answers, for proofs and for contracts inside elaboration.
pub mod Searching
pub mod Numbers
pub mod Words
pub mod Walks
pub mod Continuing
