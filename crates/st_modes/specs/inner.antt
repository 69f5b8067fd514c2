-- What is kept of citations, circles, needs and marks.
pub mod Citing
pub mod Reaching
pub mod Citations
pub mod CitedBy
pub mod Targets
pub mod Sifted
pub mod Needs
pub mod Orders
pub mod Marking
pub mod Lengths
pub mod Circles
pub mod Relations
pub mod Breaches
pub mod Few
