pub mod MadeLemmas
pub mod MessageLemmas
pub mod NameLemmas
pub mod ZoneLemmas
