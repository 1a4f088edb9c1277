pub mod ExampleLemmas
mod FoundLemmas
mod HashFacts
mod NsecLemmas
mod Nsec3Lemmas
pub mod OnceLemmas
pub mod QueryLemmas
pub mod SoundLemmas
mod TestLemmas
mod TypeLemmas
