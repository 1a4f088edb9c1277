pub mod Examples
pub mod HashedExamples
pub mod Sound
pub mod Steps
pub mod StoredRun
pub mod True
