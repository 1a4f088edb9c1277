pub mod Group
pub mod Signed
pub mod Stored
pub mod Batch
pub mod Once
pub mod Pile
pub mod SignedGroup
pub mod WireFault
