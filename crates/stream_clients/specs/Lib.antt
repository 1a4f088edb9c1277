pub mod Number
pub mod Connection
pub mod Places
pub mod Steps
pub mod Laws
pub mod Idle
pub mod Replies
