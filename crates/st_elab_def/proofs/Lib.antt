pub mod Knows
pub mod NamesIn
pub mod Single
pub mod Leaves
pub mod ChecksAll
pub mod Checks
pub mod AllDeclared
pub mod DeclaredLists
pub mod Gathered
pub mod HasHead
pub mod ContentLemmas
pub mod PlacesOne
pub mod Same
pub mod PartsAsked
pub mod LastFragments
pub mod PlaceLookups
pub mod BodyParts
pub mod BareTypes
pub mod ComesTo
pub mod GoesBy
pub mod BodyLoop
pub mod Phases
pub mod HasCome
pub mod Adds
pub mod IsBreach
pub mod IsElaborated
pub mod AllPass
pub mod AllHold
pub mod SoundSyntaxes
pub mod PlainTwice
mod Examples
mod ExamplesOfCases
mod Light
pub mod Declares
pub mod ErasesTo
mod Joined
mod EachDefinition
mod SyntaxesDeclared
mod HolesCounted
mod AreKnown
mod CitedDefs
mod NamesOnce
mod AreNamed
pub mod IsTyped
