pub mod TurnLemmas
pub mod ReplyLemmas
pub mod FramingLemmas
pub mod PieceLemmas
pub mod StreamLemmas
pub mod NextLemmas
pub mod BackLemmas
