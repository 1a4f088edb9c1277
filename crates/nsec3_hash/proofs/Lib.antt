pub mod NumeralLemmas
pub mod TextLemmas
