pub mod Split
pub mod Ahead
pub mod Feed
pub mod Read
pub mod Buffer
