pub mod CountLemmas
pub mod DraftLemmas
pub mod RcodeLemmas
pub mod RecordLemmas
pub mod RelayLemmas
pub mod ReplyLemmas
pub mod SectionsLemmas
pub mod ShownLemmas
