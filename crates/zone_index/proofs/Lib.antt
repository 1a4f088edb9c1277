pub mod SearchLemmas
mod EntryLemmas
pub mod RingLemmas
mod LiveLemmas
mod FindLemmas
mod HashLemmas
mod TypeLemmas
mod TruthLemmas
