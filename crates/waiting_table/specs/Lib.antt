pub mod Waiting
pub mod Steps
pub mod Laws
pub mod Index
