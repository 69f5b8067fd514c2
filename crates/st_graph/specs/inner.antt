-- What only proofs need.

-- how far the walk along edges has come, by lists, and as the code keeps it
pub mod Walk
pub mod Walks
