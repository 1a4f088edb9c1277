pub mod AncestorLemmas
pub mod EncloserLemmas
