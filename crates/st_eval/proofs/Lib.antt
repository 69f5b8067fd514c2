pub mod InByteOrder
pub mod Trying
pub mod Conditions
pub mod Unfolding
pub mod Unfolded
pub mod Iterations
pub mod Lists
mod BoundParts
mod Answered
mod TestOutcomes
mod Equations
mod CanMeet
pub mod Occurring
pub mod IsFormedLemmas
pub mod NamesKept
pub mod Standing
pub mod TypedClauses
mod VariablesOf
pub mod Lookups
mod FewBound
pub mod ElementRows
mod AreMet
pub mod SameNames
pub mod AllHaveOnly
mod Counts
pub mod HasNumber
pub mod IsGathered
mod CanBeMet
mod MetEach
mod Tried
