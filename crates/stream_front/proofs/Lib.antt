pub mod BufferLemmas
pub mod FrontLemmas
pub mod SplitLemmas
