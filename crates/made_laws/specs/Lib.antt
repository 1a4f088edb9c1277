pub mod MadeNsec
pub mod MadeBatch
