-- What only proofs need.

-- how the table of citations is read off the definitions
pub mod Table
-- the ranks of groups, what they cite, and their names
pub mod Ranks
pub mod Condensation
pub mod Members
-- how far the listing of groups has come, by lists, and as the code keeps it
pub mod Listing
pub mod Listings
