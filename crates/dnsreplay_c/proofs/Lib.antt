pub mod CallLemmas
pub mod Values
