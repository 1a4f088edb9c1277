pub mod ChangeLemmas
pub mod FilterLemmas
pub mod MarkLemmas
pub mod OrderLemmas
pub mod PlaceLemmas
pub mod PrefixLemmas
pub mod RiseLemmas
