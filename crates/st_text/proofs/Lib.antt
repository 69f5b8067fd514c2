pub mod Bytes
pub mod Unique
pub mod CutOff
mod Words
mod Content
mod Rows
mod Wholes
pub mod NumberWords
