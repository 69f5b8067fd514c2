pub mod IndexLemmas
pub mod RanksLemmas
pub mod HeadsLemmas
pub mod AlikeLemmas
pub mod FlatsLemmas
pub mod PairsLemmas
