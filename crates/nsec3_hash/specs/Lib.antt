pub mod IteratedHash
pub mod Base32Hex
