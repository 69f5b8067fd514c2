mod Elements
mod NameSets
mod SmallWords
mod SmallParts
mod ReaderWords
mod ReaderRows
pub mod ReaderLines
mod ReaderForm
