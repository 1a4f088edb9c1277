pub mod HeldLaws
pub mod KeyOrder
