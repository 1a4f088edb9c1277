pub mod ChainAt
pub mod Nsec3Evidence
