pub mod Lines
pub mod Feeds
pub mod Rows
pub mod Depths
mod ValueLevels
mod ValueForms
mod ValuesSame
mod ValueReading
mod ValueTexts
pub mod TySame
pub mod TyForms
pub mod TyReading
pub mod ExpLevels
pub mod ExpForms
pub mod ExpReads
pub mod KindPlaces
pub mod ExpSame
pub mod PremSame
pub mod DefinitionSame
pub mod IlSame
