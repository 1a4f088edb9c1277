pub mod TypeSet
pub mod Kept
pub mod NsecParts
pub mod Proof
pub mod Nsec3Parts
pub mod Rrsig
pub mod TimeLeft
