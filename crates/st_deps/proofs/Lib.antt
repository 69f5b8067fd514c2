-- the table of citations has what the names cite
pub mod TableLemmas
-- there is at most one list of groups
pub mod Unique
-- numbers of groups are those of the names
pub mod GroupNumbersLemmas
-- ranks of groups, what groups cite by their ranks, and their names
pub mod RanksLemmas
pub mod CondensationLemmas
pub mod MembersLemmas
-- groups are settled and listed, and all are in the end
pub mod ReadyLemmas
pub mod ListingLemmas
-- the groups in that order are those of the names
pub mod GroupsLemmas
