mod TokenPlaces
mod SourcePlaces
mod IsNotation
mod HasTemplates
mod ParsedPremises
mod breach_places
mod Checks
mod Specifications
