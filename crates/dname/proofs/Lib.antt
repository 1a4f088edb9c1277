pub mod ArcLemmas
pub mod BuildLemmas
pub mod DigestLemmas
mod MeetLemmas
pub mod NameDataLemmas
pub mod OrderLemmas
pub mod PackLemmas
mod PieceLemmas
pub mod ReadLemmas
pub mod SameLemmas
pub mod TogetherLemmas
pub mod UnderLemmas
pub mod WireLemmas
