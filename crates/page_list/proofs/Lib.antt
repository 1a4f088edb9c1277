pub mod InPlace
pub mod Marks
pub mod Pages
pub mod Rows
pub mod Search
pub mod Slots
pub mod Values
