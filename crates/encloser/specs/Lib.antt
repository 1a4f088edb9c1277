pub mod Encloser
