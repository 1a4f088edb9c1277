pub mod Calls
pub mod Codes
pub mod Handle
pub mod Owns
pub mod State
