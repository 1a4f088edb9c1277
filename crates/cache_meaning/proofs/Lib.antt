pub mod ChainLemmas
pub mod CoveredLemmas
pub mod EvidenceLemmas
pub mod ExampleHashes
pub mod HeldLemmas
pub mod StepLemmas
pub mod TwoChainsLemmas
