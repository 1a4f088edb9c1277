pub mod Zone
pub mod Views
pub mod Spans
pub mod Chains
pub mod Changes
pub mod ApexHashes
