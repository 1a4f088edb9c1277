pub mod Calls
pub mod Status
pub mod Notices
pub mod Lines
pub mod Start
pub mod Laws
