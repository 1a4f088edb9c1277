pub mod FrameLemmas
pub mod HistoryLemmas
pub mod OneOutputLemmas
pub mod SoundLemmas
pub mod StepLemmas
