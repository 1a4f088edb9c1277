pub mod Arcs
pub mod Marks
pub mod Place
pub mod Steps
