-- The actions that put a part together again, for those who read and build it.
pub mod Actions
pub mod Emission
