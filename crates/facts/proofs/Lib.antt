pub mod Filters
pub mod Jobs
pub mod Lists
pub mod Maps
pub mod Orderings
pub mod Pairs
pub mod Prefixes
