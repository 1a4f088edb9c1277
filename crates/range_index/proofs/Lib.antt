pub mod InsertLemmas
pub mod KeptLemmas
pub mod KeyMarkLemmas
mod MarkLemmas
pub mod MemberLemmas
pub mod OrderLemmas
pub mod RunLemmas
pub mod SpanLemmas
pub mod WithLemmas
