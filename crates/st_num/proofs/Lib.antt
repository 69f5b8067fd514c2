pub mod Powers
pub mod NumeralLemmas
