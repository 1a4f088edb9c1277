pub mod ClientRing
pub mod OpenFault
