pub mod Marks
pub mod Ranks
pub mod Counts
pub mod Holding
pub mod Dropping
pub mod Putting
pub mod LookUp
pub mod Gauges
