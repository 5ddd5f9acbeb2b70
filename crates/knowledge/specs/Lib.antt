pub mod Sets
pub mod Knowledge
