pub mod Lists
mod Counts
mod Nodes
mod Shortest
mod Unique
