pub mod NamesIn
pub mod InsertionLemmas
pub mod PairParts
pub mod PlaceParts
pub mod DefinitionParts
pub mod GroupParts
pub mod ListingParts
