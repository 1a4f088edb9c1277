pub mod LookLemmas
pub mod PutLemmas
pub mod RunLemmas
pub mod ShownLemmas
