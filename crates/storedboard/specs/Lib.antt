pub mod StoredBoard
pub mod Steps
