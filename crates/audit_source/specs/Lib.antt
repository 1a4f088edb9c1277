pub mod Source
pub mod Pieces
pub mod Laws
