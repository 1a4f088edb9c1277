pub mod Made
pub mod Messages
pub mod Questions
pub mod NameKinds
