pub mod Entries
pub mod Live
pub mod Hashes
pub mod Truth
