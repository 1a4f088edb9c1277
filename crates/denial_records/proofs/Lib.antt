pub mod KeptLemmas
pub mod NextLemmas
pub mod OffsetLemmas
pub mod PartsLemmas
pub mod RisingLemmas
pub mod TypeSetLemmas
