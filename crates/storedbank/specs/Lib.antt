pub mod StoredBank
pub mod Steps
pub mod Worked
