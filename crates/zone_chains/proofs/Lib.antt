pub mod ListLemmas
pub mod ChainLemmas
pub mod ChosenLemmas
pub mod JoinedLemmas
pub mod ComeLemmas
pub mod ZoneLemmas
