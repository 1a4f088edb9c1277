pub mod PlaceLemmas
pub mod RunLemmas
pub mod TellLemmas
pub mod ReplyLemmas
pub mod MessageLemmas
pub mod UnansweredLemmas
