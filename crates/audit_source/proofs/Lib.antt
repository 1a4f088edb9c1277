pub mod SpellingLemmas
pub mod PieceLemmas
pub mod SourceLemmas
pub mod TakingLemmas
pub mod ReadingLemmas
