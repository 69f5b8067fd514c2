pub mod Reaching
mod RunLemmas
mod SearchLemmas
mod NextLemmas
