pub mod Pieces
pub mod ToldLemmas
pub mod Addresses
