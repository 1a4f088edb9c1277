pub mod OnceLemmas
pub mod SlotLemmas
pub mod StreamLemmas
pub mod IndexLemmas
pub mod SinceLemmas
