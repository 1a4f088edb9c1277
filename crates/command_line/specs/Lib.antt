pub mod Words
pub mod Faults
pub mod Help
pub mod Options
